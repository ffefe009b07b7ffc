-- What an account opens with, request 2 of document 02: an LPO equal to its opening sum, or none where that is 0. One table of cases, in the words
-- of `cases`, and one statement over it. Seat 3 is opened first in every case, with 500.00 and 100.00 for 300001 and nothing for 300002.
use Rattle.std.specs.Prelude.{List, [], ◌∷◌, map, ◌≡◌, ℕ, None}
use Prim.Native.String.{String}
use Rattle.table.specs.declared.Kind.TheVariants.{Pacs008, Pacs002}
use Rattle.slip.specs.declared.Status.TheVariants.{Accc, Rjct, Waits}
use Rattle.layout.specs.declared.rows.Account.{Account}
use Rattle.layout.specs.Seat.{seat_of, with_seat, with_account}
use Rattle.journal.specs.Steps.{no_settings}
use Rattle.seat.specs.Fit.{open_account}
use Rattle.centre.specs.Answers.{refused}
use Rattle.demands.specs.Calls.{close, set, take_back, read, Call, opening, under}
use Rattle.demands.specs.Seats.{Answer}
use Rattle.cases.specs.Sheets.{liquidity}
use Rattle.cases.specs.Cases.{
  directory,
  Line,
  ◌gives◌,
  Case,
  values,
  refusal,
  started,
  ticket,
  from_start,
  from,
  slipped,
  unslipped,
  morning,
  moves,
  accepted,
  rejected,
  wish,
  pays,
  accepts,
  answers_from,
  played,
}

-- an account of an owner: opening sum, balance, turnover, blocks, LTK and LPO, which is 0 for none and n + 1 for n
abbrev pub reads : ℕ → ℕ → Call
reads owner number = under ticket (read owner number)

abbrev pub holds : ℕ → ℕ → ℕ → ℕ → Answer
holds sum balance turnover lpo = values (sum ∷ balance ∷ turnover ∷ 0 ∷ 0 ∷ 0 ∷ lpo ∷ [])

-- an owner sends a camt.050 with this digit over this amount, from account 2 to account 1
abbrev pub returns : ℕ → String → String → String → Call
returns sender code digit amount = from sender (liquidity "2" "1" code digit morning amount)

-- account 2 of 300001 gets an amount, and sends some of it back
abbrev pub receives : Line
receives = moves "4" "400.00" gives accepted 1

abbrev pub sends_back : String → String → Call
sends_back = returns 300001 "300001"

-- an account of 300001 is given no LPO
abbrev pub lifts : ℕ → Line
lifts number = under ticket (set 300001 number (wish 0 None)) gives values []

-- both accounts of an owner open so. An owner without money has no LPO, and all numbers of its accounts are zero
abbrev pub both : Case
both =
    from_start (
    reads 300001 1 gives holds 50000 50000 0 50001
    ∷ reads 300001 2 gives holds 10000 10000 0 10001
    ∷ reads 300002 1 gives holds 0 0 0 0
    ∷ reads 300002 2 gives holds 0 0 0 0
    ∷ [])

-- money that comes in does not raise the limit: opened with 100.00, the account can send 100.00, and of the 400.00 that it received not a kopeck
abbrev pub received : Case
received =
    from_start (
    receives
    ∷ sends_back "5" "100.01" gives rejected 23 2
    ∷ sends_back "6" "100.00" gives accepted 3
    ∷ sends_back "7" "0.01" gives rejected 23 4
    ∷ reads 300001 2 gives holds 10000 40000 10000 10001
    ∷ [])

-- none is not an LPO of 0: opened with nothing, an account sends all that it received
abbrev pub from_nothing : Case
from_nothing =
    from_start (
    pays gives slipped Pacs008 Waits 0 1
    ∷ accepts gives slipped Pacs002 Accc 0 2
    ∷ returns 300002 "300002" "5" "50.00" gives accepted 3
    ∷ [])

-- the first set of an account replaces the limit, and taking it back brings the limit back
abbrev pub set_first : Case
set_first =
    from_start (
    receives
    ∷ lifts 2
    ∷ sends_back "5" "100.01" gives accepted 3
    ∷ under ticket take_back gives values []
    ∷ under ticket take_back gives values []
    ∷ reads 300001 2 gives holds 10000 50000 0 10001
    ∷ sends_back "5" "100.01" gives rejected 23 2
    ∷ [])

-- at a settling it is the LPO of that moment, and the turnover of that moment
abbrev pub at_settling : Case
at_settling =
    from_start (
    receives
    ∷ sends_back "5" "50.01" gives accepted 2
    ∷ pays gives slipped Pacs008 Waits 0 3
    ∷ accepts gives slipped Pacs002 Rjct 23 4
    ∷ under ticket take_back gives values []
    ∷ lifts 2
    ∷ accepts gives slipped Pacs002 Accc 0 5
    ∷ [])

abbrev pub table : List Case
table = both ∷ received ∷ from_nothing ∷ set_first ∷ at_settling ∷ []

-- the room of every case at its start, with the two accounts of 300001 put into it by hand; and so without their limits
abbrev pub with_accounts : (ℕ → Account) → List ℕ
with_accounts account = with_seat started 3 (with_account (with_account (seat_of started 3) 0 (account 50000)) 1 (account 10000))

abbrev pub unlimited : ℕ → Account
unlimited sum = record { opening = sum; balance = sum; turnover = 0; settings = no_settings }

abbrev pub former : List ℕ
former = with_accounts unlimited

-- whatever is called in that room is refused by 1, in another seat too
abbrev pub in_former : List Line
in_former =
    opening 4 [] gives refusal 1
    ∷ reads 300001 1 gives refusal 1
    ∷ under ticket (set 300001 1 (wish 0 None)) gives refusal 1
    ∷ moves "1" "1.00" gives unslipped (refused 1)
    ∷ under ticket take_back gives refusal 1
    ∷ under ticket close gives refusal 1
    ∷ []

abbrev pub played_in : List ℕ → List Line → List Answer
played_in room lines = answers_from directory room (map (λ (line : Line). line.0) lines)

-- the statement: played, every case gives the answers that stand beside its calls, and so do the calls in a room that was opened without limits,
-- in which nothing but the limits is missing
pub record Openings : Type 0 where
  pub table-holds : map played table ≡ map (λ (case : Case). case.answers) table
  pub as-opened : with_accounts open_account ≡ started
  pub former-unfit : played_in former in_former ≡ map (λ (line : Line). line.1) in_former
