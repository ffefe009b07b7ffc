-- The directory of document 01, "Room, seats, directory", as a list of participants: when it is fit, the record of a code, who is listed, and
-- whose accounts a participant uses.
use Rattle.std.specs.Prelude.{Bool, true, false, not, ◌&&◌, cond, List, [], ◌∷◌, ℕ, suc, leb, ltb, eqb, length, Option, Some, None}
use Rattle.shape.specs.Bytes.{every}
use Rattle.directory.specs.declared.Kind.{Kind}
use Rattle.directory.specs.declared.Kind.TheVariants.{Owner, Direct, Indirect, Provider}
use Rattle.directory.specs.declared.Participant.{Participant}
use Rattle.directory.specs.declared.Listed.{Listed}

-- 1 to 16 records, codes 0 to 999999
abbrev pub records_most : ℕ
records_most = 16

abbrev pub code_most : ℕ
code_most = 999999

-- the record of a code: the first one, with its place counted from k on
abbrev pub listed : ℕ → Participant → Listed
listed place p = record { place = place; participant = p }

unfoldable pub found_from : ℕ → List Participant → ℕ → Option Listed
found_from k [] code = None
found_from k (p ∷ dir) code = cond (eqb p.code code) (Some (listed k p)) (found_from (suc k) dir code)

unfoldable pub found : List Participant → ℕ → Option Listed
found dir code = found_from 0 dir code

abbrev pub is_owner : Kind → Bool
is_owner Owner = true
is_owner (Direct head) = false
is_owner (Indirect head) = false
is_owner (Provider bank) = false

-- the code is an owner's of the list
abbrev pub owner_found : Option Listed → Bool
owner_found (Some l) = is_owner l.participant.kind
owner_found None = false

-- all but owners name an owner in the list
abbrev pub names : List Participant → Kind → Bool
names dir Owner = true
names dir (Direct head) = owner_found (found dir head)
names dir (Indirect head) = owner_found (found dir head)
names dir (Provider bank) = owner_found (found dir bank)

-- in ascending order of code, none twice
abbrev pub ascending : List Participant → Bool
ascending [] = true
ascending (p ∷ []) = true
ascending (p ∷ q ∷ dir) = ltb p.code q.code && ascending (q ∷ dir)

unfoldable pub is_fit : List Participant → Bool
is_fit dir =
    leb 1 (length dir) && leb (length dir) records_most
    && every (λ (p : Participant). leb p.code code_most) dir
    && ascending dir
    && every (λ (p : Participant). names dir p.kind) dir

-- listed at all; listed and instant
abbrev pub is_listed : Option Listed → Bool
is_listed (Some l) = true
is_listed None = false

abbrev pub is_instant : Option Listed → Bool
is_instant (Some l) = l.participant.instant
is_instant None = false

-- `SEP` lists owners and branches, `ASP` providers
abbrev pub in_sep : Kind → Bool
in_sep Owner = true
in_sep (Direct head) = true
in_sep (Indirect head) = true
in_sep (Provider bank) = false

-- whose accounts a code uses: its own if it is an owner, its head's if it is a direct branch, else none
abbrev pub account_code : ℕ → Kind → Option ℕ
account_code code Owner = Some code
account_code code (Direct head) = Some head
account_code code (Indirect head) = None
account_code code (Provider bank) = None

-- what was found of a code is listed under `SEP`, or under `ASP`
abbrev pub under_sep : Option Listed → Bool
under_sep (Some l) = in_sep l.participant.kind
under_sep None = false

abbrev pub under_asp : Option Listed → Bool
under_asp (Some l) = not (in_sep l.participant.kind)
under_asp None = false

-- the head of what is listed as an indirect branch
abbrev pub head_named : Kind → Option ℕ
head_named Owner = None
head_named (Direct head) = None
head_named (Indirect head) = Some head
head_named (Provider bank) = None

abbrev pub head_in : Option Listed → Option ℕ
head_in (Some l) = head_named l.participant.kind
head_in None = None

-- the bank that serves what is listed as a provider
abbrev pub bank_named : Kind → Option ℕ
bank_named Owner = None
bank_named (Direct head) = None
bank_named (Indirect head) = None
bank_named (Provider bank) = Some bank

abbrev pub bank_in : Option Listed → Option ℕ
bank_in (Some l) = bank_named l.participant.kind
bank_in None = None

-- listed as an owner or a direct branch, which are those that use accounts
abbrev pub is_bank : Kind → Bool
is_bank Owner = true
is_bank (Direct head) = true
is_bank (Indirect head) = false
is_bank (Provider bank) = false

abbrev pub bank_found : Option Listed → Bool
bank_found (Some l) = is_bank l.participant.kind
bank_found None = false

-- the place of a code
abbrev pub place_in : Option Listed → Option ℕ
place_in (Some l) = Some l.place
place_in None = None

-- the code whose accounts are used by what was found
abbrev pub account_in : Option Listed → Option ℕ
account_in (Some l) = account_code l.participant.code l.participant.kind
account_in None = None

-- the record of a code that may not be given
abbrev pub found_as : List Participant → Option ℕ → Option Listed
found_as dir (Some code) = found dir code
found_as dir None = None

-- the record of the owner whose accounts a code uses: an owner's own, a direct branch's head's, else none
unfoldable pub owner_used : List Participant → Option ℕ → Option Listed
owner_used dir code = found_as dir (account_in (found_as dir code))

-- the account place of a code
unfoldable pub account_place : List Participant → ℕ → Option ℕ
account_place dir code = place_in (owner_used dir (Some code))
