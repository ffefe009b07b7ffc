-- The laws of a room: a seat that was put is found again, the other seats are as they were, and a room is its seats.
-- Assumes nothing.
use mathlib.Core.Path.{◌≡◌, sym, ap, ◌∙◌}
use mathlib.Core.List.{List, ◌++◌}
use Prim.Native.Nat.{ℕ, ◌+◌, ◌-◌, ◌*◌, ◌≤◌, ◌<◌}
use native.Mathlib.Omega.{arith}
use native.Mathlib.Nat.{zero-add}
use lib.ListN.{length, take, drop}
use Rattle.slip.specs.Meaning.{seats}
use Rattle.layout.specs.Parts.{part, put}
use Rattle.layout.specs.Seat.{seat_long, room_long, seat_from, seat_of, with_seat}
use Rattle.layout.proofs.Parts.{lent, given_back, part_length, put-length, part-put, put-part, part-whole, row_other, rows_agree}

pub seat-within : (r : List ℕ) (k : ℕ) → length r ≡ room_long → k < seats → seat_from k + seat_long ≤ length r
seat-within r k l h = omega arith

-- what is lent as `&r[from..from + SEAT_LONG]`, from the place of a seat on, is the seat, and what comes back from there stands in its place
pub seat-lent : (r : List ℕ) (k from : ℕ) → from ≡ seat_from k → take ((from + seat_long) - from) (drop from r) ≡ seat_of r k
unfolding seat_of
seat-lent r k from e = lent r from seat_long ∙ ap (λ (a : ℕ). part r a seat_long) e

pub seat-back : (r : List ℕ) (k from : ℕ) → from ≡ seat_from k → (s : List ℕ)
    → take from r ++ (s ++ drop ((from + seat_long) - from) (drop from r)) ≡ with_seat r k s
unfolding with_seat
seat-back r k from e s = given_back r from seat_long s ∙ ap (λ (a : ℕ). put r a seat_long s) e

pub seat-length : (r : List ℕ) (k : ℕ) → length r ≡ room_long → k < seats → length (seat_of r k) ≡ seat_long
unfolding seat_of
seat-length r k l b = part_length r (seat_from k) seat_long (seat-within r k l b)

pub with-seat-length : (r : List ℕ) (k : ℕ) (s : List ℕ) → length r ≡ room_long → k < seats → length s ≡ seat_long
    → length (with_seat r k s) ≡ room_long
unfolding with_seat
with-seat-length r k s l b e = put-length r (seat_from k) seat_long s e (seat-within r k l b) ∙ l

-- a seat that was put is found again
pub seat-got : (r : List ℕ) (k : ℕ) (s : List ℕ) → length r ≡ room_long → k < seats → length s ≡ seat_long → seat_of (with_seat r k s) k ≡ s
unfolding seat_of with_seat
seat-got r k s l b e = part-put r (seat_from k) seat_long s (seat-within r k l b) e

-- another seat is as it was
pub seat-other : (r : List ℕ) (k m : ℕ) (s : List ℕ) → length r ≡ room_long → m < seats → length s ≡ seat_long → (k ≡ m → ⊥)
    → seat_of (with_seat r k s) m ≡ seat_of r m
unfolding seat_of with_seat
seat-other r k m s l b e apart =
    let within : (0 + seat_long * m) + seat_long ≤ length r = omega arith in
    rw (zero-add (seat_from k), zero-add (seat_from m)) at (row_other r 0 seat_long k m s apart e within)

-- to put the seat that is there changes nothing
pub seat-same : (r : List ℕ) (k : ℕ) → length r ≡ room_long → k < seats → with_seat r k (seat_of r k) ≡ r
unfolding seat_of with_seat
seat-same r k l b = put-part r (seat_from k) seat_long (seat-within r k l b)

-- a room is its seats
pub same-room : (r t : List ℕ) → length r ≡ room_long → length t ≡ room_long → ((k : ℕ) → k < seats → seat_of r k ≡ seat_of t k) → r ≡ t
unfolding seat_of
same-room r t d e same =
    sym (part-whole r room_long d)
    ∙ rows_agree r t 0 seat_long seats (λ (k : ℕ) (b : k < seats). rw (zero-add (seat_from k)) (same k b))
    ∙ part-whole t room_long e

pub ruleset rooms = (seat-lent, seat-back)
