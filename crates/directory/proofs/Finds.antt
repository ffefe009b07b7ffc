-- What a directory's record says: the record that is found of a code is that code's, a fit directory has the owner of each code that a
-- record names and so the owner whose accounts a bank uses, and an ascending one has each code in one place.
-- Assumes nothing.
use Rattle.std.specs.Prelude.{ℕ, Option, Some, None}
use mathlib.Core.Path.{◌≡◌, refl, ap, ◌∙◌}
use mathlib.Core.Bool.{Bool, true, false, ◌&&◌, cond, false≢true}
use mathlib.Core.List.{List, [], ◌∷◌}
use Prim.Native.Nat.{ℕ, zero, suc, ◌+◌, ◌≤◌, ◌<◌}
use native.Mathlib.Omega.{arith}
use lib.Dec.{leb, ltb, eqb}
use lib.ListN.{length, get_or}
use borrow.Author.Tests.{leb-true, ltb-true, eqb-true}
use Rattle.shape.specs.Bytes.{every}
use Rattle.shape.proofs.Tests.{and_left, and_right, at_place}
use Rattle.directory.specs.declared.Kind.{Kind}
use Rattle.directory.specs.declared.Kind.TheVariants.{Owner, Direct, Indirect, Provider}
use Rattle.directory.specs.declared.Participant.{Participant}
use Rattle.directory.specs.declared.Listed.{Listed}
use Rattle.directory.specs.Directory.{code_most, records_most, found_from, found, is_owner, owner_found, names, ascending, is_fit, is_bank, bank_found, account_code, account_in, found_as, owner_used, listed}
use Rattle.directory.specs.Gathering.{nobody}

-- found at the head of a list that starts at place j, or further on
by-head : (j code k : ℕ) (q p : Participant) (rest : Option Listed) (n : ℕ) (same : Bool) → eqb q.code code ≡ same
    → (rest ≡ Some (listed k p) → (p.code ≡ code) × (k < suc j + n))
    → cond same (Some (listed j q)) rest ≡ Some (listed k p) → (p.code ≡ code) × (k < j + suc n)
by-head j code k q p rest n true e further f =
    let same_one : listed j q ≡ listed k p = cc in
    let record_is : q ≡ p = ap (λ (l : Listed). l.participant) same_one in
    let place_is : j ≡ k = ap (λ (l : Listed). l.place) same_one in
    (rw (← record_is) (eqb-true q.code code e), omega arith)
by-head j code k q p rest n false e further f = ((further f).0, omega (arith, (further f).1))

code-from : (j : ℕ) (dir : List Participant) (code k : ℕ) (p : Participant) → found_from j dir code ≡ Some (listed k p)
    → (p.code ≡ code) × (k < j + length dir)
unfolding found_from
code-from j [] code k p f = let z : ◌≡◌ {A = ℕ} 0 1 = cc in absurd (omega arith)
code-from j (q ∷ dir) code k p f =
    by-head j code k q p (found_from (suc j) dir code) (length dir) (eqb q.code code) refl (code-from (suc j) dir code k p) f

pub found-code : (dir : List Participant) (code k : ℕ) (p : Participant) → found dir code ≡ Some (listed k p) → (p.code ≡ code) × (k < length dir)
unfolding found
found-code dir code k p f = let r : (p.code ≡ code) × (k < 0 + length dir) = code-from 0 dir code k p f in (r.0, omega arith)

-- the code that a kind names
abbrev pub named_by : Kind → Option ℕ
named_by Owner = None
named_by (Direct head) = Some head
named_by (Indirect head) = Some head
named_by (Provider bank) = Some bank

-- the code is an owner's, who stands at a place of the directory
pub record OwnerAt (dir : List Participant) (code : ℕ) : Type 0 where
  pub place : ℕ
  pub owner : Participant
  pub there : found dir code ≡ Some (listed place owner)
  pub owns : is_owner owner.kind ≡ true

owner-there : (dir : List Participant) (code : ℕ) (f : Option Listed) → found dir code ≡ f → owner_found f ≡ true → OwnerAt dir code
owner-there dir code (Some l) e t = record { place = l.place; owner = l.participant; there = e; owns = t }
owner-there dir code None e t = absurd (false≢true t)

named-found : (dir : List Participant) (kind : Kind) (head : ℕ) → named_by kind ≡ Some head → names dir kind ≡ true
    → owner_found (found dir head) ≡ true
named-found dir Owner head e t = let z : ◌≡◌ {A = ℕ} 0 1 = cc in absurd (omega arith)
named-found dir (Direct code) head e t = let same : code ≡ head = cc in rw (← same) t
named-found dir (Indirect code) head e t = let same : code ≡ head = cc in rw (← same) t
named-found dir (Provider code) head e t = let same : code ≡ head = cc in rw (← same) t

fit-names : (dir : List Participant) → is_fit dir ≡ true → every (λ (p : Participant). names dir p.kind) dir ≡ true
unfolding is_fit
fit-names dir fit =
    and_right
    (leb 1 (length dir) && leb (length dir) records_most && every (λ (p : Participant). leb p.code code_most) dir && ascending dir)
    (every (λ (p : Participant). names dir p.kind) dir) fit

-- what is tested of a fit directory before the order of its codes
fit-front : (dir : List Participant) → is_fit dir ≡ true
    → (leb 1 (length dir) && leb (length dir) records_most && every (λ (p : Participant). leb p.code code_most) dir) ≡ true
unfolding is_fit
fit-front dir fit =
    let codes = every (λ (p : Participant). leb p.code code_most) dir in
    and_left (leb 1 (length dir) && leb (length dir) records_most && codes) (ascending dir)
    (and_left (leb 1 (length dir) && leb (length dir) records_most && codes && ascending dir)
    (every (λ (p : Participant). names dir p.kind) dir) fit)

-- a fit directory has no more records than there are places
pub fit-few : (dir : List Participant) → is_fit dir ≡ true → length dir ≤ records_most
fit-few dir fit =
    leb-true (length dir) records_most
    (and_right (leb 1 (length dir)) (leb (length dir) records_most)
    (and_left (leb 1 (length dir) && leb (length dir) records_most) (every (λ (p : Participant). leb p.code code_most) dir) (fit-front dir fit)))

-- in a fit directory the code that a record names is an owner's
pub owner-named : (dir : List Participant) → is_fit dir ≡ true → (i : ℕ) → i < length dir
    → (head : ℕ) → named_by (get_or dir i nobody).kind ≡ Some head → OwnerAt dir head
owner-named dir fit i h head e =
    owner-there dir head (found dir head) refl
    (named-found dir (get_or dir i nobody).kind head e
    (at_place (λ (p : Participant). names dir p.kind) dir nobody (fit-names dir fit) i h))

-- what is tested of every record holds of the one that is found
found-tested : (f : Participant → Bool) (j : ℕ) (dir : List Participant) (code k : ℕ) (p : Participant) → every f dir ≡ true
    → found_from j dir code ≡ Some (listed k p) → f p ≡ true
unfolding found_from
found-tested f j [] code k p t e = let z : ◌≡◌ {A = ℕ} 0 1 = cc in absurd (omega arith)
found-tested f j (q ∷ dir) code k p t e =
    by_code (eqb q.code code) (found-tested f (suc j) dir code k p (and_right (f q) (every f dir) t)) e
  where
    by_code : (same : Bool) → (found_from (suc j) dir code ≡ Some (listed k p) → f p ≡ true)
        → cond same (Some (listed j q)) (found_from (suc j) dir code) ≡ Some (listed k p) → f p ≡ true
    by_code true further h =
        let same_one : listed j q ≡ listed k p = cc in
        let record_is : q ≡ p = ap (λ (l : Listed). l.participant) same_one in
        rw (← record_is) (and_left (f q) (every f dir) t)
    by_code false further h = further h

-- in a fit directory the record that is found names an owner
pub found-names : (dir : List Participant) → is_fit dir ≡ true → (code k : ℕ) (p : Participant) → found dir code ≡ Some (listed k p) → names dir p.kind ≡ true
unfolding found
found-names dir fit code k p e = found-tested (λ (p : Participant). names dir p.kind) 0 dir code k p (fit-names dir fit) e

-- and no code is found there that is too high
pub found-low : (dir : List Participant) → is_fit dir ≡ true → (code k : ℕ) (p : Participant) → found dir code ≡ Some (listed k p) → code ≤ code_most
unfolding found
found-low dir fit code k p e =
    let codes = every (λ (q : Participant). leb q.code code_most) dir in
    let low = and_right (leb 1 (length dir) && leb (length dir) records_most) codes (fit-front dir fit) in
    let here = leb-true p.code code_most (found-tested (λ (q : Participant). leb q.code code_most) 0 dir code k p low e) in
    omega (arith, here, (code-from 0 dir code k p e).0)

-- an owner uses its own accounts, and a direct branch those of the owner that it names
bank-uses : (dir : List Participant) (code k : ℕ) (p : Participant) → found dir code ≡ Some (listed k p) → (kind : Kind) → p.kind ≡ kind
    → names dir kind ≡ true → is_bank kind ≡ true → owner_found (found_as dir (account_code p.code kind)) ≡ true
bank-uses dir code k p f Owner e n b = rw ((found-code dir code k p f).0, f, e)
bank-uses dir code k p f (Direct head) e n b = n
bank-uses dir code k p f (Indirect head) e n b = absurd (false≢true b)
bank-uses dir code k p f (Provider bank) e n b = absurd (false≢true b)

-- in a fit directory each owner and each direct branch has an owner whose accounts it uses
pub owner-used : (dir : List Participant) → is_fit dir ≡ true → (code : Option ℕ) → bank_found (found_as dir code) ≡ true → owner_found (owner_used dir code) ≡ true
unfolding owner_used
owner-used dir fit None b = absurd (false≢true b)
owner-used dir fit (Some code) b = by-found (found dir code) refl b
  where
    by-found : (f : Option Listed) → found dir code ≡ f → bank_found f ≡ true → owner_found (found_as dir (account_in f)) ≡ true
    by-found (Some l) e t = bank-uses dir code l.place l.participant e l.participant.kind refl (found-names dir fit code l.place l.participant e) t
    by-found None e t = absurd (false≢true t)

owner-uses : (dir : List Participant) (code k : ℕ) (p : Participant) → found dir code ≡ Some (listed k p) → (kind : Kind)
    → is_owner kind ≡ true → found_as dir (account_code p.code kind) ≡ Some (listed k p)
owner-uses dir code k p f Owner o = ap (found dir) (found-code dir code k p f).0 ∙ f
owner-uses dir code k p f (Direct head) o = absurd (false≢true o)
owner-uses dir code k p f (Indirect head) o = absurd (false≢true o)
owner-uses dir code k p f (Provider bank) o = absurd (false≢true o)

-- the owner whose accounts an owner uses is itself
pub owner-itself : (dir : List Participant) (code : ℕ) → owner_found (found dir code) ≡ true → owner_used dir (Some code) ≡ found dir code
unfolding owner_used
owner-itself dir code o = by-found (found dir code) refl o
  where
    by-found : (f : Option Listed) → found dir code ≡ f → owner_found f ≡ true → found_as dir (account_in f) ≡ f
    by-found (Some l) e t = owner-uses dir code l.place l.participant e l.participant.kind t
    by-found None e t = absurd (false≢true t)

ascending-rest : (p : Participant) (dir : List Participant) → ascending (p ∷ dir) ≡ true → ascending dir ≡ true
ascending-rest p [] a = refl
ascending-rest p (q ∷ dir) a = and_right (ltb p.code q.code) (ascending (q ∷ dir)) a

head-below : (p : Participant) (dir : List Participant) → ascending (p ∷ dir) ≡ true
    → (j : ℕ) → j < length dir → p.code < (get_or dir j nobody).code
head-below p [] a j h = absurd (omega arith)
head-below p (q ∷ dir) a zero h = ltb-true p.code q.code (and_left (ltb p.code q.code) (ascending (q ∷ dir)) a)
head-below p (q ∷ dir) a (suc j) h =
    omega (
      arith,
      ltb-true p.code q.code (and_left (ltb p.code q.code) (ascending (q ∷ dir)) a),
      head-below q dir (ascending-rest p (q ∷ dir) a) j (omega arith),
    )

pub one_place : (dir : List Participant) → ascending dir ≡ true → (i j : ℕ) → i < j → j < length dir
    → (get_or dir i nobody).code < (get_or dir j nobody).code
one_place [] a i j h k = absurd (omega arith)
one_place (p ∷ dir) a i zero h k = absurd (omega arith)
one_place (p ∷ dir) a zero (suc j) h k = head-below p dir a j (omega arith)
one_place (p ∷ dir) a (suc i) (suc j) h k = one_place dir (ascending-rest p dir a) i j (omega arith) (omega arith)
