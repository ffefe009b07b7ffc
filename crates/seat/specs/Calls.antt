-- The calls of one seat that need no message, and recording one: document 01, "Calls and refusals". Of each call the answer, which is the first
-- refusal in its table whose test holds, and the seat after it, which is as it came where the call is refused.
-- Refusals 1 and 2 are tests of the whole room and of the directory, and stand in front of these. Each test of a refusal has its name and stands
-- once; the tables here, those of the centre and that of demand 1 cite the names.
use Rattle.std.specs.Prelude.{Bool, true, false, not, ◌&&◌, ◌||◌, cond, List, [], ◌∷◌, ℕ, suc, ◌+◌, ◌-◌, ◌*◌, leb, ltb, eqb, Option, Some, None, Result, Ok, Err}
use Rattle.slip.specs.Meaning.{openings, steps}
use Rattle.directory.specs.declared.Participant.{Participant}
use Rattle.directory.specs.declared.Listed.{Listed}
use Rattle.directory.specs.Directory.{is_owner, owner_found}
use Rattle.layout.specs.declared.rows.Settings.{Settings}
use Rattle.layout.specs.declared.rows.Account.{Account}
use Rattle.layout.specs.declared.rows.Step.{Step}
use Rattle.layout.specs.Seat.{places, head_of, account_of}
use Rattle.journal.specs.Steps.{set_kind, sum_most, settings_fit, no_identifier}
use Rattle.journal.specs.Working.{stepped, backed}
use Rattle.seat.specs.declared.calls.Refusal.{Refusal}
use Rattle.seat.specs.declared.calls.Refusal.TheVariants.{NoTicket, AlreadyOpen, NoOpeningLeft, BadNumber, JournalFull, NothingToTakeBack}
use Rattle.seat.specs.Fit.{closed_seat, open_seat}

-- how a call ends: done, or refused
abbrev pub Answer : Type 0
Answer = Result (Unit {0}) Refusal

-- document 01's numbers
unfoldable pub number_of : Answer → ℕ
number_of (Ok u) = 0
number_of (Err NoTicket) = 3
number_of (Err AlreadyOpen) = 4
number_of (Err NoOpeningLeft) = 5
number_of (Err BadNumber) = 6
number_of (Err JournalFull) = 9
number_of (Err NothingToTakeBack) = 10

abbrev pub is_done : Answer → Bool
is_done (Ok u) = true
is_done (Err refusal) = false

-- the first refusal whose test holds
abbrev pub first : List (Bool × Refusal) → Answer
first [] = Ok tt
first (r ∷ rest) = cond r.0 (Err r.1) (first rest)

-- what a call gives where it is done
abbrev pub gives : {A : Type 0} → Answer → A → Result A Refusal
gives (Ok u) given = Ok given
gives (Err refusal) given = Err refusal

-- the seat after a call: done, or as it came
abbrev pub behind : Answer → List ℕ → List ℕ → List ℕ
behind answer done s = cond (is_done answer) done s

-- 3: the seat is closed or its opening number differs
unfoldable pub no_ticket : ℕ → List ℕ → Bool
no_ticket opening s = not (eqb (head_of s).opened 1 && eqb (head_of s).opening opening)

-- 4: the seat is open
abbrev pub seat_open : List ℕ → Bool
seat_open s = eqb (head_of s).opened 1

-- 5: the seat's last opening number was given out
abbrev pub last_given_out : List ℕ → Bool
last_given_out s = eqb (head_of s).opening openings

-- 9: the journal has its 24 steps
abbrev pub journal_full : List ℕ → Bool
journal_full s = eqb (head_of s).steps steps

-- 10: there is no step to take back
abbrev pub nothing_to_take_back : List ℕ → Bool
nothing_to_take_back s = eqb (head_of s).steps 0

-- two sums for each record, each at most 10^15, and 0 for one that is no owner
unfoldable pub pair_good : Participant → ℕ → ℕ → Bool
pair_good p a b = leb a sum_most && leb b sum_most && (is_owner p.kind || (eqb a 0 && eqb b 0))

unfoldable pub sums_good : List Participant → List ℕ → Bool
sums_good [] [] = true
sums_good [] (a ∷ sums) = false
sums_good (p ∷ dir) [] = false
sums_good (p ∷ dir) (a ∷ []) = false
sums_good (p ∷ dir) (a ∷ b ∷ sums) =
    pair_good p a b && sums_good dir sums

-- 6, opening: a sum is bad or not 0 for a non-owner, or their count is wrong
abbrev pub sums_bad : List Participant → List ℕ → Bool
sums_bad dir sums = not (sums_good dir sums)

-- open
unfoldable pub open_answer : List Participant → List ℕ → List ℕ → Answer
open_answer dir sums s =
    first (
    (seat_open s, AlreadyOpen)
    ∷ (last_given_out s, NoOpeningLeft)
    ∷ (sums_bad dir sums, BadNumber)
    ∷ [])

unfoldable pub open_after : List Participant → List ℕ → List ℕ → List ℕ
open_after dir sums s = behind (open_answer dir sums s) (open_seat (suc (head_of s).opening) sums) s

-- close
unfoldable pub close_answer : ℕ → List ℕ → Answer
close_answer opening s = first ((no_ticket opening s, NoTicket) ∷ [])

unfoldable pub close_after : ℕ → List ℕ → List ℕ
close_after opening s = behind (close_answer opening s) (closed_seat (head_of s).opening) s

-- an account is named by its owner's place and by 1 or 2
unfoldable pub account_named : Option Listed → ℕ → Bool
account_named owner number = owner_found owner && (eqb number 1 || eqb number 2)

-- 6, reading and setting: the owner or the account number is bad
abbrev pub account_bad : Option Listed → ℕ → Bool
account_bad owner number = not (account_named owner number)

abbrev pub account_number : Option Listed → ℕ → ℕ
account_number (Some l) number = 2 * l.place + (number - 1)
account_number None number = 0

-- the account that an owner and 1 or 2 name, or none
unfoldable pub account_found : Option Listed → ℕ → Option ℕ
account_found owner number = cond (account_named owner number) (Some (account_number owner number)) None

-- a place that a seat has
abbrev pub place_fits : Option Listed → Bool
place_fits (Some l) = ltb l.place places
place_fits None = true

-- 6, setting: the account or a limit is bad
abbrev pub setting_bad : Option Listed → ℕ → Settings → Bool
setting_bad owner number given = not (account_named owner number && settings_fit given)

-- set
abbrev pub set_step : ℕ → Settings → Settings → Step
set_step account old given = record {
  kind = set_kind;
  status = 0;
  check = 0;
  sender = 0;
  id = no_identifier;
  uetr = record { high = 0; low = 0 };
  created = 0;
  reference = no_identifier;
  debit = 0;
  credit = 0;
  amount = 0;
  account = account;
  old = old;
  given = given;
  receiver = 0;
  answers = 0;
}

unfoldable pub set_answer : ℕ → Option Listed → ℕ → Settings → List ℕ → Answer
set_answer opening owner number given s =
    first (
    (no_ticket opening s, NoTicket)
    ∷ (setting_bad owner number given, BadNumber)
    ∷ (journal_full s, JournalFull)
    ∷ [])

unfoldable pub set_after : ℕ → Option Listed → ℕ → Settings → List ℕ → List ℕ
set_after opening owner number given s =
    behind (set_answer opening owner number given s)
    (stepped (set_step (account_number owner number) (account_of s (account_number owner number)).settings given) s) s

-- take back
unfoldable pub back_answer : ℕ → List ℕ → Answer
back_answer opening s = first ((no_ticket opening s, NoTicket) ∷ (nothing_to_take_back s, NothingToTakeBack) ∷ [])

unfoldable pub back_after : ℕ → List ℕ → List ℕ
back_after opening s = behind (back_answer opening s) (backed s) s

-- read an account
unfoldable pub read_answer : ℕ → Option Listed → ℕ → List ℕ → Answer
read_answer opening owner number s = first ((no_ticket opening s, NoTicket) ∷ (account_bad owner number, BadNumber) ∷ [])

unfoldable pub read_result : ℕ → Option Listed → ℕ → List ℕ → Result Account Refusal
read_result opening owner number s = gives (read_answer opening owner number s) (account_of s (account_number owner number))
