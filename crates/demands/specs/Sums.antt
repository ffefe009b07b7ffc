-- The sum of an exercise's balances equals the sum that it was opened with: document 01, "Room, seats, directory".
use Rattle.std.specs.Prelude.{true, List, ◌≡◌, ℕ, zero, suc, ◌+◌, ◌<◌, get_or}
use Rattle.slip.specs.Meaning.{seats}
use Rattle.directory.specs.declared.Participant.{Participant}
use Rattle.layout.specs.declared.rows.Account.{Account}
use Rattle.layout.specs.Seat.{accounts, head_of, account_of, seat_of}
use Rattle.seat.specs.Fit.{room_fits}
use Rattle.strike.specs.Strike.{after_all}
use Rattle.demands.specs.Calls.{Call, opening, call_told, call_room, new_room}
use Rattle.demands.specs.Seats.{centre}

-- the sum of one number of each account, over n accounts from the i-th on
abbrev pub sum_from : (Account → ℕ) → List ℕ → ℕ → ℕ → ℕ
sum_from number s i zero = 0
sum_from number s i (suc n) = number (account_of s i) + sum_from number s (suc i) n

-- of a seat: all its balances, and all its opening sums
abbrev pub balances : List ℕ → ℕ
balances s = sum_from (λ (a : Account). a.balance) s 0 accounts

abbrev pub opening_sums : List ℕ → ℕ
opening_sums s = sum_from (λ (a : Account). a.opening) s 0 accounts

-- the room after a list of calls, from a new room on
abbrev pub room_after : List Participant → List Call → List ℕ
room_after dir calls = after_all (centre dir) calls new_room

-- the balances of an open seat of a room sum up to its opening sums
abbrev pub SumsUp : List ℕ → Type 0
SumsUp room = (k : ℕ) → k < seats → (head_of (seat_of room k)).opened ≡ 1 → balances (seat_of room k) ≡ opening_sums (seat_of room k)

pub record Sums : Type 0 where
  -- in every fit room
  pub fit : (room : List ℕ) → room_fits room ≡ true → SumsUp room
  -- and so in every room that calls reach, which is fit
  pub reached : (dir : List Participant) (calls : List Call) → (room_fits (room_after dir calls) ≡ true) × SumsUp (room_after dir calls)
  -- the opening sums that stand in a seat are those that it was opened with, and 0 where there were no more
  pub opened : (dir : List Participant) (room : List ℕ) (seat : ℕ) (sums : List ℕ) → (call_told dir (opening seat sums) room).number ≡ 0
      → (i : ℕ) → i < accounts → (account_of (seat_of (call_room dir (opening seat sums) room) seat) i).opening ≡ get_or sums i 0
