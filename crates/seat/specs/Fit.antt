-- When a seat and a room are fit, directory aside: document 01, "Room, seats, directory". Length and ranges are right, and worked forward from
-- the opening sums over the journal, no balance ever falls below zero and the very numbers come out that are stored. A closed seat is all zeros
-- but for its opening count.
use Rattle.std.specs.Prelude.{Bool, true, false, ◌&&◌, cond, List, [], ◌∷◌, ◌++◌, ℕ, zero, suc, ◌*◌, ◌-◌, leb, eqb, length, replicate, Option, Some, None}
use Rattle.shape.specs.Bytes.{every}
use Rattle.slip.specs.Meaning.{seats, openings, steps}
use Rattle.layout.specs.declared.rows.Account.{Account}
use Rattle.layout.specs.Rows.{head_long, head_row, account_row, step_long}
use Rattle.layout.specs.Seat.{accounts, seat_long, room_long, head_of, account_of, seat_of}
use Rattle.journal.specs.Steps.{sum_most}
use Rattle.journal.specs.Working.{journal_of, worked}
use Rattle.seat.specs.Settings.{opening_settings}

-- two lists of numbers are the same
unfoldable pub same : List ℕ → List ℕ → Bool
same [] [] = true
same [] (b ∷ t) = false
same (a ∷ s) [] = false
same (a ∷ s) (b ∷ t) = eqb a b && same s t

-- a closed seat
unfoldable pub closed_seat : ℕ → List ℕ
closed_seat opening = head_row (record { opening = opening; opened = 0; steps = 0 }) ++ replicate (seat_long - head_long) 0

-- an account that was just opened
abbrev pub open_account : ℕ → Account
open_account sum = record { opening = sum; balance = sum; turnover = 0; settings = opening_settings sum }

-- n accounts with these opening sums; where there are no more sums, with 0, which leaves all their numbers zero
unfoldable pub open_accounts : ℕ → List ℕ → List ℕ
open_accounts zero sums = []
open_accounts (suc n) [] = account_row (open_account 0) ++ open_accounts n []
open_accounts (suc n) (sum ∷ sums) = account_row (open_account sum) ++ open_accounts n sums

-- a seat that was just opened: its number, its accounts, an empty journal
unfoldable pub open_seat : ℕ → List ℕ → List ℕ
open_seat opening sums =
    head_row (record { opening = opening; opened = 1; steps = 0 }) ++ (open_accounts accounts sums ++ replicate (step_long * steps) 0)

-- the opening sums that stand in a seat, n of them from account i on
unfoldable pub sums_from : List ℕ → ℕ → ℕ → List ℕ
sums_from s i zero = []
sums_from s i (suc n) = (account_of s i).opening ∷ sums_from s (suc i) n

unfoldable pub sums_of : List ℕ → List ℕ
sums_of s = sums_from s 0 accounts

-- the numbers that come out are those that stand there
abbrev pub comes_out : List ℕ → Option (List ℕ) → Bool
comes_out s None = false
comes_out s (Some t) = same t s

unfoldable pub open_fits : List ℕ → Bool
open_fits s =
    leb 1 (head_of s).opening && leb (head_of s).opening openings && leb (head_of s).steps steps
    && every (λ (sum : ℕ). leb sum sum_most) (sums_of s)
    && comes_out s (worked (journal_of s) (open_seat (head_of s).opening (sums_of s)))

unfoldable pub closed_fits : List ℕ → Bool
closed_fits s = leb (head_of s).opening openings && same s (closed_seat (head_of s).opening)

unfoldable pub seat_fits : List ℕ → Bool
seat_fits s = eqb (length s) seat_long && cond (eqb (head_of s).opened 0) (closed_fits s) (open_fits s)

-- n seats of a room from the k-th on
abbrev pub seats_fit : List ℕ → ℕ → ℕ → Bool
seats_fit r k zero = true
seats_fit r k (suc n) = seat_fits (seat_of r k) && seats_fit r (suc k) n

unfoldable pub room_fits : List ℕ → Bool
room_fits r = eqb (length r) room_long && seats_fit r 0 seats
