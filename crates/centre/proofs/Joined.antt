-- A seat's answer in the room's words is the rest of the room's table: both list the same tests in the same order, with the same numbers. And the
-- seat behind the seat's call, put back, is the room behind the room's: where the seat is as it came, so is the room.
-- Assumes nothing.
use mathlib.Core.Path.{◌≡◌, refl, ap, ◌∙◌}
use mathlib.Core.Bool.{Bool, true, false, cond}
use mathlib.Core.List.{List, []}
use Prim.Native.Nat.{ℕ, ◌<◌}
use lib.ListN.{length}
use Rattle.slip.specs.Meaning.{seats}
use Rattle.layout.specs.Seat.{room_long, seat_of, with_seat}
use Rattle.layout.proofs.Rooms.{seat-same}
use Rattle.std.specs.Prelude.{Ok, Err}
use Rattle.seat.specs.declared.calls.Refusal.TheVariants.{NoTicket, AlreadyOpen, NoOpeningLeft, BadNumber, JournalFull, NothingToTakeBack}
use Rattle.seat.specs.Calls.{Answer, number_of, behind as seat_behind}
use Rattle.centre.specs.Answers.{Told, done, refused, is_done, behind, seat_told}

-- each table with its tests left open
pub close-table : (t : Bool) → seat_told (cond t (Err NoTicket) (Ok tt)) [] ≡ cond t (refused 3) (done [])
unfolding seat_told number_of
close-table true = refl
close-table false = refl

pub open-table : (t u v : Bool) (values : List ℕ)
    → seat_told (cond t (Err AlreadyOpen) (cond u (Err NoOpeningLeft) (cond v (Err BadNumber) (Ok tt)))) values
    ≡ cond t (refused 4) (cond u (refused 5) (cond v (refused 6) (done values)))
unfolding seat_told number_of
open-table true u v values = refl
open-table false true v values = refl
open-table false false true values = refl
open-table false false false values = refl

pub set-table : (t u v : Bool)
    → seat_told (cond t (Err NoTicket) (cond u (Err BadNumber) (cond v (Err JournalFull) (Ok tt)))) []
    ≡ cond t (refused 3) (cond u (refused 6) (cond v (refused 9) (done [])))
unfolding seat_told number_of
set-table true u v = refl
set-table false true v = refl
set-table false false true = refl
set-table false false false = refl

pub back-table : (t u : Bool)
    → seat_told (cond t (Err NoTicket) (cond u (Err NothingToTakeBack) (Ok tt))) [] ≡ cond t (refused 3) (cond u (refused 10) (done []))
unfolding seat_told number_of
back-table true u = refl
back-table false true = refl
back-table false false = refl

pub read_table : (t u : Bool) (values : List ℕ)
    → seat_told (cond t (Err NoTicket) (cond u (Err BadNumber) (Ok tt))) values ≡ cond t (refused 3) (cond u (refused 6) (done values))
unfolding seat_told number_of
read_table true u values = refl
read_table false true values = refl
read_table false false values = refl

-- what a call gives back is told only where it is done
pub told_with : (a : Answer) (v w : List ℕ) → (a ≡ Ok tt → v ≡ w) → seat_told a v ≡ seat_told a w
unfolding seat_told
told_with (Ok u) v w e = ap done (e refl)
told_with (Err refusal) v w e = refl

-- the seat put back
module _ (room : List ℕ) (k : ℕ) (long : length room ≡ room_long) (h : k < seats) (made : List ℕ) where
  put_back : (a : Answer) (values : List ℕ)
      → with_seat room k (seat_behind a made (seat_of room k)) ≡ behind (seat_told a values) (with_seat room k made) room
  unfolding seat_told number_of behind is_done
  put_back (Ok u) values = refl
  put_back (Err NoTicket) values = seat-same room k long h
  put_back (Err AlreadyOpen) values = seat-same room k long h
  put_back (Err NoOpeningLeft) values = seat-same room k long h
  put_back (Err BadNumber) values = seat-same room k long h
  put_back (Err JournalFull) values = seat-same room k long h
  put_back (Err NothingToTakeBack) values = seat-same room k long h

  pub room-behind : (a : Answer) (values : List ℕ) (t : Told) → seat_told a values ≡ t
      → with_seat room k (seat_behind a made (seat_of room k)) ≡ behind t (with_seat room k made) room
  room-behind a values t e = put_back a values ∙ ap (λ (x : Told). behind x (with_seat room k made) room) e
