-- A submit that nothing but a check refuses: the first eleven rows of the table do not apply, so the room and the directory are fit, the ticket is
-- good, the numbers are in range, the buffer and the journal have room, and the sheet is a message.
-- Assumes nothing.
use Rattle.std.specs.Prelude.{Ok, Err}
use mathlib.Core.Path.{◌≡◌, refl, sym}
use mathlib.Core.Bool.{Bool, true, false, not, ◌&&◌, ◌||◌, false≢true}
use mathlib.Core.List.{List}
use Prim.Native.Nat.{ℕ, ◌<◌}
use lib.Dec.{leb, ltb, eqb, lit<}
use lib.ListN.{length, get_or, take}
use borrow.Author.Tests.{not-true, not-false, leb-false}
use Rattle.shape.specs.Dates.{is_date}
use Rattle.shape.proofs.Tests.{at_place}
use Rattle.slip.specs.Meaning.{slip_long, seats, steps}
use Rattle.message.specs.declared.Message.{Message}
use Rattle.message.specs.Message.{Answer}
use Rattle.message.specs.declared.Refusal.TheVariants.{IllFormed, BadField}
use Rattle.message.specs.Received.{received_of}
use Rattle.message.specs.Lowest.{number_of}
use Rattle.directory.specs.declared.Participant.{Participant}
use Rattle.directory.specs.Directory.{code_most, is_fit}
use Rattle.layout.specs.Seat.{head_of, seat_of}
use Rattle.seat.specs.Fit.{room_fits}
use Rattle.seat.specs.Calls.{no_ticket}
use Rattle.centre.specs.declared.Ticket.{Ticket}
use Rattle.centre.specs.Calls.{no_seat, ticket_bad}
use Rattle.demands.specs.Calls.{submit, under}
use Rattle.demands.specs.Refusals.{room_refused, directory_refused, ticket_refused, number_refused, slip_refused, table}
use Rattle.demands.specs.Messages.{Heard}

-- what the eleven rows leave
pub record Facts (dir : List Participant) (ticket : Ticket) (sender today : ℕ) (sheet slip room : List ℕ) : Type 0 where
  pub fit : room_fits room ≡ true
  pub listed : is_fit dir ≡ true
  pub ticketed : ticket_bad ticket room ≡ false
  pub named : (leb sender code_most && is_date today) ≡ true
  pub long : ltb (length slip) slip_long ≡ false
  pub free : eqb (head_of (seat_of room ticket.seat)).steps steps ≡ false
  pub formed : eqb (number_of (received_of sheet).answer).0 7 ≡ false
  pub filled : eqb (number_of (received_of sheet).answer).0 8 ≡ false

module _ (dir : List Participant) (ticket : Ticket) (sender today : ℕ) (sheet slip room : List ℕ)
    (heard : Heard dir ticket sender today sheet slip room (received_of sheet).answer) where
  abbrev rows : List (ℕ × Bool)
  rows = take 11 (table dir room (received_of sheet).answer (under ticket (submit sender today sheet slip)))

  passed : (k : ℕ) → k < 11 → not (get_or rows k (0, false)).1 ≡ true
  unfolding table
  passed k h = at_place (λ row. not row.1) rows (0, false) heard k h

  pub facts : Facts dir ticket sender today sheet slip room
  unfolding table room_refused directory_refused ticket_refused number_refused slip_refused
  facts = record {
    fit = not-false (room_fits room) (not-true (not (room_fits room)) (passed 0 (lit< tt)));
    listed = not-false (is_fit dir) (not-true (not (is_fit dir)) (passed 1 (lit< tt)));
    ticketed = not-true (ticket_bad ticket room) (passed 2 (lit< tt));
    named = not-false (leb sender code_most && is_date today) (not-true (not (leb sender code_most && is_date today)) (passed 5 (lit< tt)));
    long = not-true (ltb (length slip) slip_long) (passed 6 (lit< tt));
    free = not-true (eqb (head_of (seat_of room ticket.seat)).steps steps) (passed 7 (lit< tt));
    formed = not-true (eqb (number_of (received_of sheet).answer).0 7) (passed 9 (lit< tt));
    filled = not-true (eqb (number_of (received_of sheet).answer).0 8) (passed 10 (lit< tt));
  }

-- a sheet that is refused neither by 7 nor by 8 is a message
pub record Read (a : Answer) : Type 0 where
  pub message : Message
  pub good : a ≡ Ok message

pub read-good : (a : Answer) → eqb (number_of a).0 7 ≡ false → eqb (number_of a).0 8 ≡ false → Read a
read-good (Err (IllFormed place)) e f = absurd (false≢true (sym e))
read-good (Err (BadField number)) e f = absurd (false≢true (sym f))
read-good (Ok m) e f = record { message = m; good = refl }

-- neither of two tests holds
neither : (t u : Bool) → (t || u) ≡ false → (t ≡ false) × (u ≡ false)
neither true u e = absurd (false≢true (sym e))
neither false u e = (refl, e)

-- a good ticket names a seat of the room and is its own
module _ (ticket : Ticket) (room : List ℕ) (e : ticket_bad ticket room ≡ false) where
  both : (no_seat ticket.seat ≡ false) × (no_ticket ticket.opening (seat_of room ticket.seat) ≡ false)
  unfolding ticket_bad
  both = neither (no_seat ticket.seat) (no_ticket ticket.opening (seat_of room ticket.seat)) e

  pub seat-there : ticket.seat < seats
  unfolding no_seat
  seat-there = leb-false seats ticket.seat both.0

  pub seat-own : no_ticket ticket.opening (seat_of room ticket.seat) ≡ false
  seat-own = both.1
