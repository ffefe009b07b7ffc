-- A call on a fit room lends the part from its seat's place on. That part is the seat, which is long enough and fits, and what comes back is the
-- room with that seat put.
-- Assumes nothing.
use Rattle.std.specs.Prelude.{Result, Ok, Err}
use mathlib.Core.Path.{◌≡◌, refl, sym, ap, ◌∙◌}
use mathlib.Core.Bool.{Bool, true, false}
use mathlib.Core.List.{List, ◌++◌}
use Prim.Native.Nat.{ℕ, ◌-◌, ◌≤◌, ◌<◌}
use native.Mathlib.Omega.{arith}
use lib.Dec.{leb}
use borrow.Author.Tests.{leb-true, leb-false}
use lib.ListN.{length, take, drop}
use Rattle.std.specs.declared.ops.Range.{Range}
use Rattle.slip.specs.Meaning.{seats}
use Rattle.layout.specs.Seat.{seat_long, room_long, seat_from, seat_of, with_seat}
use Rattle.layout.proofs.Rooms.{seat-within, seat-lent, seat-back, seat-length, with-seat-length, seat-got}
use Rattle.seat.specs.Fit.{seat_fits, room_fits}
use Rattle.seat.proofs.Rooms.{room-long, room-seat}
use Rattle.centre.specs.declared.answers.Refusal.{Refusal}
use Rattle.centre.specs.declared.answers.Refusal.TheVariants.{NoTicket}
use Rattle.centre.specs.Calls.{no_seat, seat_place, seat_range}

-- the room is fit, there is such a seat, and its place is known
pub record Lent (room : List ℕ) (k : ℕ) (place : Range ℕ) : Type 0 where
  pub fit : room_fits room ≡ true
  pub low : k < seats
  pub is : place ≡ seat_place k

-- the part that is lent, and the room with what stands there then
abbrev pub lent_of : List ℕ → Range ℕ → List ℕ
lent_of room place = take (place.end - place.start) (drop place.start room)

abbrev pub back_in : List ℕ → Range ℕ → List ℕ → List ℕ
back_in room place s = take place.start room ++ (s ++ drop (place.end - place.start) (drop place.start room))

module _ {room : List ℕ} {k : ℕ} {place : Range ℕ} (l : Lent room k place) where
  pub lent-seat : lent_of room place ≡ seat_of room k
  lent-seat = rw l.is (seat-lent room k (seat_from k) refl)

  pub room_back : (s : List ℕ) → back_in room place s ≡ with_seat room k s
  room_back s = rw l.is (seat-back room k (seat_from k) refl s)

  pub seat-from : place.start ≡ seat_from k
  seat-from = ap (λ (p : Range ℕ). p.start) l.is

  pub seat-ends : place.end ≤ length room
  seat-ends = rw l.is (omega (arith, seat-within room k (room-long room l.fit) l.low))

  pub lent-long : length (lent_of room place) ≡ seat_long
  lent-long = ap length lent-seat ∙ seat-length room k (room-long room l.fit) l.low

  pub lent_fits : seat_fits (lent_of room place) ≡ true
  lent_fits = ap seat_fits lent-seat ∙ room-seat room l.fit k l.low

  -- a seat that came back is there
  module _ (s : List ℕ) (long : length s ≡ seat_long) where
    pub back_long : length (back_in room place s) ≡ room_long
    back_long = ap length (room_back s) ∙ with-seat-length room k s (room-long room l.fit) l.low long

    pub back-seat : seat_of (back_in room place s) k ≡ s
    back-seat = ap (λ (r : List ℕ). seat_of r k) (room_back s) ∙ seat-got room k s (room-long room l.fit) l.low long

-- where a seat's place is asked for: there is no such seat, or the room is fit and its part is lent
pub no-place : (k : ℕ) (r : Result (Range ℕ) Refusal) (refusal : Refusal) → r ≡ seat_range k → r ≡ Err refusal → (seats ≤ k) × (refusal ≡ NoTicket)
unfolding no_seat
no-place k r refusal e is = either (leb seats k) refl
  where
    either : (none : Bool) → leb seats k ≡ none → (seats ≤ k) × (refusal ≡ NoTicket)
    either true n = let same = rw n at (sym is ∙ e) in (leb-true seats k n, cc)
    either false n = let same = rw n at (sym is ∙ e) in absurd cc

pub lent-at : {room : List ℕ} {fits : Bool} {r : Result (Range ℕ) Refusal} {place : Range ℕ} (k : ℕ) → fits ≡ room_fits room → fits ≡ true
    → r ≡ seat_range k → r ≡ Ok place → Lent room k place
unfolding no_seat
lent-at {room} {fits} {r} {place} k f good e is = either (leb seats k) refl
  where
    either : (none : Bool) → leb seats k ≡ none → Lent room k place
    either true n = let same = rw n at (sym is ∙ e) in absurd cc
    either false n =
        let same = rw n at (sym is ∙ e) in
        record { fit = sym f ∙ good; low = leb-false seats k n; is = cc }
