-- The seats of a room, one after the other: the room is fit as far as the seats that are left are. So each seat of a fit room fits, and with a
-- fit seat put in place of another the room stays fit.
-- Assumes nothing.
use mathlib.Core.Path.{◌≡◌, refl, sym, ap, subst, ◌∙◌}
use mathlib.Core.Bool.{Bool, true, false}
use mathlib.Core.List.{List}
use Prim.Native.Nat.{ℕ, zero, suc, ◌+◌, ◌-◌, ◌<◌}
use native.Mathlib.Omega.{arith}
use native.Mathlib.Numerals.{add-one}
use lib.Dec.{eqb}
use lib.ListN.{length}
use borrow.Author.Tests.{eq-eqb, eqb-true, eqb-false}
use Rattle.shape.proofs.Tests.{and_left, and_right}
use Rattle.slip.specs.Meaning.{seats}
use Rattle.layout.specs.Seat.{room_long, seat_of, with_seat}
use Rattle.layout.proofs.Rooms.{with-seat-length, seat-got, seat-other}
use Rattle.seat.specs.Fit.{seat_fits, seats_fit, room_fits}
use Rattle.seat.proofs.Kept.{fit-long}

pub seats-begin : (r : List ℕ) → length r ≡ room_long → room_fits r ≡ seats_fit r 0 seats
unfolding room_fits
seats-begin r h = rw (eq-eqb (length r) room_long h)

-- the k-th seat
module _ (r : List ℕ) (k : ℕ) (here : k < seats) where
  left : seats - k ≡ suc (seats - (k + 1))
  left = omega arith

  pub seat-goes : seat_fits (seat_of r k) ≡ true → seats_fit r k (seats - k) ≡ seats_fit r (k + 1) (seats - (k + 1))
  seat-goes e = rw (left, e, add-one k)

-- n seats from the j-th on: each of them fits, and where each fits all do
seat-among : (r : List ℕ) (j n d k : ℕ) → k ≡ j + d → d < n → seats_fit r j n ≡ true → seat_fits (seat_of r k) ≡ true
seat-among r j zero d k p h e = absurd (omega arith)
seat-among r j (suc n) zero k p h e =
    let here : j ≡ k = omega arith in
    subst (λ (m : ℕ). seat_fits (seat_of r m) ≡ true) here (and_left (seat_fits (seat_of r j)) (seats_fit r (suc j) n) e)
seat-among r j (suc n) (suc d) k p h e =
    seat-among r (suc j) n d k (omega arith) (omega arith) (and_right (seat_fits (seat_of r j)) (seats_fit r (suc j) n) e)

seats-all : (r : List ℕ) (j n : ℕ) → ((k : ℕ) → k < j + n → seat_fits (seat_of r k) ≡ true) → seats_fit r j n ≡ true
seats-all r j zero each = refl
seats-all r j (suc n) each =
    rw (each j (omega arith)) (seats-all r (suc j) n (λ (k : ℕ) (h : k < suc j + n). each k (omega arith)))

-- what a fit room is
module _ (r : List ℕ) (e : room_fits r ≡ true) where
  pub room-long : length r ≡ room_long
  unfolding room_fits
  room-long = eqb-true (length r) room_long (and_left (eqb (length r) room_long) (seats_fit r 0 seats) e)

  pub room-seat : (k : ℕ) → k < seats → seat_fits (seat_of r k) ≡ true
  room-seat k h = seat-among r 0 seats k k (omega arith) h (sym (seats-begin r room-long) ∙ e)

-- a fit seat put into a fit room
pub room-keeps : (r s : List ℕ) → room_fits r ≡ true → (k : ℕ) → k < seats → seat_fits s ≡ true → room_fits (with_seat r k s) ≡ true
room-keeps r s e k b f =
    seats-begin (with_seat r k s) (with-seat-length r k s (room-long r e) b (fit-long s f))
    ∙ seats-all (with_seat r k s) 0 seats (λ (m : ℕ) (h : m < 0 + seats). go m (omega arith) (eqb k m) refl)
  where
    go : (m : ℕ) → m < seats → (t : Bool) → eqb k m ≡ t → seat_fits (seat_of (with_seat r k s) m) ≡ true
    go m h true q =
        subst (λ (j : ℕ). seat_fits (seat_of (with_seat r k s) j) ≡ true) (eqb-true k m q)
        (ap seat_fits (seat-got r k s (room-long r e) b (fit-long s f)) ∙ f)
    go m h false q = ap seat_fits (seat-other r k m s (room-long r e) h (fit-long s f) (eqb-false k m q)) ∙ room-seat r e m h
