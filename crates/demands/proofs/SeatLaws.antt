-- The centre keeps the laws of a machine of seats, for any directory: so demand 3 holds of it. A room is fit as the calls test it, and a part is
-- sound where it fits; a part of its own is a seat of a room in which nothing else was done.
-- Assumes nothing.
use Rattle.std.specs.Prelude.{Option, Some, None}
use mathlib.Core.Path.{◌≡◌, refl, sym, ap, ◌∙◌}
use mathlib.Core.Bool.{Bool, true, false}
use mathlib.Core.List.{List}
use Prim.Native.Nat.{ℕ, ◌*◌, ◌≤◌, ◌<◌}
use native.Mathlib.Omega.{arith}
use lib.Dec.{ltb}
use lib.ListN.{length}
use borrow.Author.Tests.{ltb-true, ltb-false}
use Rattle.slip.specs.Meaning.{seats}
use Rattle.directory.specs.declared.Participant.{Participant}
use Rattle.layout.specs.Seat.{seat_long, room_long, head_of, seat_of, with_seat}
use Rattle.layout.proofs.Parts.{part-put-behind}
use Rattle.layout.proofs.Rooms.{seat-got, seat-other}
use Rattle.journal.specs.Working.{backed}
use Rattle.seat.specs.Fit.{seat_fits, room_fits}
use Rattle.seat.proofs.Kept.{fit-long, room_fits_lem}
use Rattle.seat.proofs.Rooms.{room-long, room-seat, room-keeps}
use Rattle.strike.specs.Machine.{Deed, quiet, step, back, fresh, Laws}
use Rattle.strike.specs.Strike.{after_all}
use Rattle.strike.proofs.Struck.{all_fit, struck-out}
use Rattle.demands.specs.Calls.{Call, call_room, new_room}
use Rattle.demands.specs.Seats.{seat_for, deed_of, answer_of, alone, part_in, centre, Demand3}
use Rattle.demands.proofs.InSeat.{tells, writes, leaves}
use Rattle.demands.proofs.OwnSeat.{own-answer, own_room, none-room}
use Rattle.demands.proofs.SeatKept.{leaves-fit}
use Rattle.demands.proofs.Deeds.{quiet-left, back-left, step_left, fresh-left, new-steps}

-- another seat is as it was, and what would stand behind the last one too
seat-apart : (room : List ℕ) (j k : ℕ) (x : List ℕ) → length room ≡ room_long → j < seats → length x ≡ seat_long → (j ≡ k → ⊥)
    → seat_of (with_seat room j x) k ≡ seat_of room k
unfolding seat_of with_seat
seat-apart room j k x long h e apart = go (ltb k seats) refl
  where
    go : (b : Bool) → ltb k seats ≡ b → seat_of (with_seat room j x) k ≡ seat_of room k
    go true f = seat-other room j k x long (ltb-true k seats f) e apart
    go false f =
        let out : seats ≤ k = ltb-false k seats f in
        part-put-behind room (seat_long * j) seat_long x (seat_long * k) seat_long (omega arith) e

module _ (dir : List Participant) where
  -- a room with a fit part alone
  module _ (k : ℕ) (part : List ℕ) (h : k < seats) (fit : seat_fits part ≡ true) where
    alone-fit : room_fits (with_seat new_room k part) ≡ true
    alone-fit = room-keeps new_room part room_fits_lem k h fit

    alone-seat : seat_of (with_seat new_room k part) k ≡ part
    alone-seat = seat-got new_room k part (room-long new_room room_fits_lem) h (fit-long part fit)

  -- a call for a seat is for one of the room's
  within : (call : Call) (k : ℕ) → seat_for call ≡ Some k → k < seats
  within call k e = (own_room dir new_room room_fits_lem call k e).0

  -- the part that a call leaves in a fit room
  part_left : (call : Call) (k : ℕ) (room : List ℕ) → room_fits room ≡ true → seat_for call ≡ Some k
      → seat_of (call_room dir call room) k ≡ leaves dir call (seat_of room k)
  part_left call k room fit e =
      let own = own_room dir room fit call k e in
      let left : seat_fits (leaves dir call (seat_of room k)) ≡ true = leaves-fit dir (seat_of room k) (room-seat room fit k own.0) call in
      ap (λ (r : List ℕ). seat_of r k) own.1
      ∙ seat-got room k (leaves dir call (seat_of room k)) (room-long room fit) own.0 (fit-long (leaves dir call (seat_of room k)) left)

  -- what a call makes of a part, and what it answers there
  own_is : (call : Call) (k : ℕ) (part : List ℕ) → seat_fits part ≡ true → seat_for call ≡ Some k → (centre dir).own call part ≡ leaves dir call part
  own_is call k part fit e =
      let h : k < seats = within call k e in
      ap (λ (o : Option ℕ). part_in dir o (call_room dir call (alone dir o part))) e
      ∙ part_left call k (with_seat new_room k part) (alone-fit k part h fit) e
      ∙ ap (leaves dir call) (alone-seat k part h fit)

  answered-is : (call : Call) (k : ℕ) (part : List ℕ) → seat_fits part ≡ true → seat_for call ≡ Some k
      → (centre dir).answered call part ≡ (tells dir call part, writes dir call part)
  answered-is call k part fit e =
      let h : k < seats = within call k e in
      ap (λ (o : Option ℕ). answer_of dir call (alone dir o part)) e
      ∙ own-answer dir (with_seat new_room k part) (alone-fit k part h fit) call k e
      ∙ ap (λ (s : List ℕ). (tells dir call s, writes dir call s)) (alone-seat k part h fit)

  -- so what it did there is told by the part
  deed-is : (call : Call) (k : ℕ) (part : List ℕ) (d : Deed) → seat_fits part ≡ true → seat_for call ≡ Some k
      → deed_of call ((centre dir).answered call part) ≡ d → deed_of call (tells dir call part, writes dir call part) ≡ d
  deed-is call k part d fit e was = sym (ap (deed_of call) (answered-is call k part fit e)) ∙ was

  -- each call keeps a room fit
  keeps : (call : Call) (room : List ℕ) → room_fits room ≡ true → room_fits (call_room dir call room) ≡ true
  keeps call room fit = go (seat_for call) refl
    where
      go : (o : Option ℕ) → seat_for call ≡ o → room_fits (call_room dir call room) ≡ true
      go None e = ap room_fits (none-room dir room fit call e) ∙ fit
      go (Some k) e =
          let own = own_room dir room fit call k e in
          ap room_fits own.1
          ∙ room-keeps room (leaves dir call (seat_of room k)) fit k own.0 (leaves-fit dir (seat_of room k) (room-seat room fit k own.0) call)

  -- and the parts of the other seats
  others : (call : Call) (k : ℕ) (room : List ℕ) → room_fits room ≡ true → (seat_for call ≡ Some k → ⊥)
      → seat_of (call_room dir call room) k ≡ seat_of room k
  others call k room fit not-k = go (seat_for call) refl
    where
      go : (o : Option ℕ) → seat_for call ≡ o → seat_of (call_room dir call room) k ≡ seat_of room k
      go None e = ap (λ (r : List ℕ). seat_of r k) (none-room dir room fit call e)
      go (Some j) e =
          let own = own_room dir room fit call j e in
          let left : List ℕ = leaves dir call (seat_of room j) in
          let fits : seat_fits left ≡ true = leaves-fit dir (seat_of room j) (room-seat room fit j own.0) call in
          ap (λ (r : List ℕ). seat_of r k) own.1
          ∙ seat-apart room j k left (room-long room fit) own.0 (fit-long left fits) (λ (same : j ≡ k). not-k (e ∙ ap {B = Option ℕ} Some same))

  -- a seat of a new room
  new-part : (k : ℕ) → k < seats → seat_fits (seat_of new_room k) ≡ true
  new-part k h = room-seat new_room room_fits_lem k h

  -- a part on its own
  module _ (k : ℕ) (part : List ℕ) (sound : k < seats → seat_fits part ≡ true) where
    kept-sound : (call : Call) → seat_for call ≡ Some k → k < seats → seat_fits ((centre dir).own call part) ≡ true
    kept-sound call e h = ap seat_fits (own_is call k part (sound h) e) ∙ leaves-fit dir part (sound h) call

    quiet-part : (call : Call) → seat_for call ≡ Some k → deed_of call ((centre dir).answered call part) ≡ quiet → (centre dir).own call part ≡ part
    quiet-part call e was =
        let fit : seat_fits part ≡ true = sound (within call k e) in
        own_is call k part fit e ∙ quiet-left dir part call (writes dir call part) (deed-is call k part quiet fit e was)

    back-part : (call : Call) → seat_for call ≡ Some k → deed_of call ((centre dir).answered call part) ≡ back
        → ((centre dir).own call part ≡ backed part) × ((head_of part).steps ≡ 0 → ⊥)
    back-part call e was =
        let fit : seat_fits part ≡ true = sound (within call k e) in
        let left = back-left dir part call (writes dir call part) (deed-is call k part back fit e was) in
        (own_is call k part fit e ∙ left.0, left.1)

    step_part : (call : Call) → seat_for call ≡ Some k → deed_of call ((centre dir).answered call part) ≡ step
        → backed ((centre dir).own call part) ≡ part
    step_part call e was =
        let fit : seat_fits part ≡ true = sound (within call k e) in
        ap backed (own_is call k part fit e) ∙ step_left dir part call (writes dir call part) fit (deed-is call k part step fit e was)

    fresh-part : (call : Call) → seat_for call ≡ Some k → deed_of call ((centre dir).answered call part) ≡ fresh
        → (head_of ((centre dir).own call part)).steps ≡ 0
    fresh-part call e was =
        let fit : seat_fits part ≡ true = sound (within call k e) in
        ap (λ (s : List ℕ). (head_of s).steps) (own_is call k part fit e)
        ∙ fresh-left dir part call (writes dir call part) (deed-is call k part fresh fit e was)

  pub centre-laws : Laws (centre dir)
  centre-laws =
      record {
        Fit = λ room. room_fits room ≡ true;
        new-fit = room_fits_lem;
        keeps-fit = λ call room fit. keeps call room fit;
        by-own = λ call k room fit e.
            part_left call k room fit e ∙ sym (own_is call k (seat_of room k) (room-seat room fit k (within call k e)) e);
        by-answered = λ call k room fit e.
            own-answer dir room fit call k e ∙ sym (answered-is call k (seat_of room k) (room-seat room fit k (within call k e)) e);
        others-stay = λ call k room fit not-k. others call k room fit not-k;
        Sound = λ k part. k < seats → seat_fits part ≡ true;
        new-sound = λ k h. new-part k h;
        keeps-sound = λ call k part sound e h. kept-sound k part sound call e h;
        quiet-stays = λ call k part sound e was. quiet-part k part sound call e was;
        back-restores = λ call taker k part sound e f was took.
            (back-part k ((centre dir).own call part) (kept-sound k part sound call e) taker f took).0 ∙ step_part k part sound call e was;
        none-in-new = λ taker k f took. (back-part k (seat_of new_room k) (new-part k) taker f took).1 (new-steps k (within taker k f));
        none-after-fresh = λ call taker k part sound e f was took.
            (back-part k ((centre dir).own call part) (kept-sound k part sound call e) taker f took).1 (fresh-part k part sound call e was);
      }

  -- every room that calls reach is fit
  pub calls-fit : (calls : List Call) → room_fits (after_all (centre dir) calls new_room) ≡ true
  unfolding centre-laws
  calls-fit calls = all_fit (centre dir) centre-laws calls new_room room_fits_lem

-- demand 3
pub demand3 : Demand3
demand3 dir seat calls = struck-out (centre dir) (centre-laws dir) seat calls
