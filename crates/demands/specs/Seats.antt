-- Demand 3, over demand 2's calls. For any list of calls with any arguments on any seats, from a room laid out once, with one directory, and any
-- chosen seat: strike out all calls for other seats, then each successful take-back with the step it took back and every call between them; run
-- from a new room, the calls left give that seat the same stored numbers and each of them its same answer and slip. The striking stands in
-- `strike`; here is the machine that it is about. Slip calls, and calls that name a seat above 11, belong to no seat.
use Rattle.std.specs.Prelude.{cond, List, [], ℕ, Option, Some, None}
use Rattle.directory.specs.declared.Participant.{Participant}
use Rattle.layout.specs.Seat.{seat_of, with_seat}
use Rattle.strike.specs.Machine.{Deed, quiet, step, back, fresh, Machine}
use Rattle.strike.specs.Strike.{Struck}
use Rattle.centre.specs.Answers.{Told, is_done}
use Rattle.centre.specs.Calls.{no_seat}
use Rattle.demands.specs.Calls.{Act, close, set, submit, take_back, read, Call, opening, under, writing, reading, call_told, call_room, call_slip, new_room}

-- the seat that a call is for
unfoldable pub seat_named : ℕ → Option ℕ
seat_named seat = cond (no_seat seat) None (Some seat)

unfoldable pub seat_for : Call → Option ℕ
seat_for (opening seat sums) = seat_named seat
seat_for (under ticket act) = seat_named ticket.seat
seat_for (writing slip buffer) = None
seat_for (reading bytes) = None

-- an answer with the slip buffer
abbrev pub Answer : Type 0
Answer = Told × List ℕ

-- what a call did, where it is done: open and close begin afresh, a set and a message are steps
abbrev pub act_deed : Act → Deed
act_deed close = fresh
act_deed (set owner number wish) = step
act_deed (submit sender today sheet slip) = step
act_deed take_back = back
act_deed (read owner number) = quiet

abbrev pub call_deed : Call → Deed
call_deed (opening seat sums) = fresh
call_deed (under ticket act) = act_deed act
call_deed (writing slip buffer) = quiet
call_deed (reading bytes) = quiet

unfoldable pub deed_of : Call → Answer → Deed
deed_of call answer = cond (is_done answer.0) (call_deed call) quiet

module _ (dir : List Participant) where
  unfoldable pub answer_of : Call → List ℕ → Answer
  answer_of call room = (call_told dir call room, call_slip dir call room)

  -- what a call makes of its seat's part and what it answers, in a room in which nothing else was done
  abbrev pub alone : Option ℕ → List ℕ → List ℕ
  alone None part = new_room
  alone (Some seat) part = with_seat new_room seat part

  abbrev pub part_in : Option ℕ → List ℕ → List ℕ
  part_in None room = []
  part_in (Some seat) room = seat_of room seat

  abbrev pub centre : Machine
  centre = record {
    Room = List ℕ;
    Call = Call;
    Answer = Answer;
    Part = List ℕ;
    new = new_room;
    seat_of = seat_for;
    after = call_room dir;
    answer = answer_of;
    part = λ seat room. seat_of room seat;
    own = λ call part. part_in (seat_for call) (call_room dir call (alone (seat_for call) part));
    answered = λ call part. answer_of call (alone (seat_for call) part);
    deed = deed_of;
  }

abbrev pub Demand3 : Type 0
Demand3 = (dir : List Participant) (seat : ℕ) (calls : List Call) → Struck (centre dir) seat calls
