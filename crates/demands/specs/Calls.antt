-- The calls of document 01 with all that they are given, what each answers and what it leaves. Nothing is defined anew here: each line cites the
-- definition that the contract of the call in `centre` cites (`proofs/CallsTied.antt` proves that over the contracts). The directory stays the same
-- over all calls and stands in front.
-- Laying out a room is a call of its own: the room is laid out before any list of calls begins.
use Rattle.std.specs.Prelude.{List, [], ℕ, replicate}
use Rattle.slip.specs.declared.Slip.{Slip}
use Rattle.slip.specs.Answers.{write_after}
use Rattle.directory.specs.declared.Participant.{Participant}
use Rattle.layout.specs.Seat.{room_long}
use Rattle.seat.specs.declared.settings.Wish.{Wish}
use Rattle.centre.specs.declared.Ticket.{Ticket}
use Rattle.centre.specs.Answers.{Told}
use Rattle.centre.specs.Calls.{open_told, open_after, close_told, close_after, set_told, set_after, back_told, back_after, read_told}
use Rattle.centre.specs.Submit.{submit_told, submit_after, submit_slip}
use Rattle.centre.specs.Slips.{write_told, read_told as slip_told}

-- what is done under a ticket: close; set an owner's account 1 or 2; submit a sheet for a sender on a date, with a slip buffer; take back; read
-- an owner's account 1 or 2
pub data Act : Type 0 where
  close : Act
  set : (owner number : ℕ) → (wish : Wish) → Act
  submit : (sender today : ℕ) → (sheet slip : List ℕ) → Act
  take_back : Act
  read : (owner number : ℕ) → Act

-- open a seat with sums; act under a ticket; write a slip into a buffer; read one
pub data Call : Type 0 where
  opening : (seat : ℕ) → (sums : List ℕ) → Call
  under : (ticket : Ticket) → (act : Act) → Call
  writing : (slip : Slip) → (buffer : List ℕ) → Call
  reading : (bytes : List ℕ) → Call

-- a new room, which is what laying out leaves
abbrev pub new_room : List ℕ
new_room = replicate room_long 0

module _ (dir : List Participant) where
  -- what a call answers in a room
  unfoldable pub act_told : Ticket → Act → List ℕ → Told
  act_told ticket close room = close_told ticket room
  act_told ticket (set owner number wish) room = set_told dir ticket owner number wish room
  act_told ticket (submit sender today sheet slip) room = submit_told dir ticket sender today sheet slip room
  act_told ticket take_back room = back_told ticket room
  act_told ticket (read owner number) room = read_told dir ticket owner number room

  unfoldable pub call_told : Call → List ℕ → Told
  call_told (opening seat sums) room = open_told dir seat sums room
  call_told (under ticket act) room = act_told ticket act room
  call_told (writing slip buffer) room = write_told slip buffer
  call_told (reading bytes) room = slip_told bytes

  -- the room that it leaves
  unfoldable pub act_room : Ticket → Act → List ℕ → List ℕ
  act_room ticket close room = close_after ticket room
  act_room ticket (set owner number wish) room = set_after dir ticket owner number wish room
  act_room ticket (submit sender today sheet slip) room = submit_after dir ticket sender today sheet slip room
  act_room ticket take_back room = back_after ticket room
  act_room ticket (read owner number) room = room

  unfoldable pub call_room : Call → List ℕ → List ℕ
  call_room (opening seat sums) room = open_after dir seat sums room
  call_room (under ticket act) room = act_room ticket act room
  call_room (writing slip buffer) room = room
  call_room (reading bytes) room = room

  -- the slip buffer that it leaves, nothing where it was lent none
  unfoldable pub act_slip : Ticket → Act → List ℕ → List ℕ
  act_slip ticket close room = []
  act_slip ticket (set owner number wish) room = []
  act_slip ticket (submit sender today sheet slip) room = submit_slip dir ticket sender today sheet slip room
  act_slip ticket take_back room = []
  act_slip ticket (read owner number) room = []

  unfoldable pub call_slip : Call → List ℕ → List ℕ
  call_slip (opening seat sums) room = []
  call_slip (under ticket act) room = act_slip ticket act room
  call_slip (writing slip buffer) room = write_after slip buffer
  call_slip (reading bytes) room = []

-- and the buffer as it was lent
unfoldable pub act_lent : Act → List ℕ
act_lent close = []
act_lent (set owner number wish) = []
act_lent (submit sender today sheet slip) = slip
act_lent take_back = []
act_lent (read owner number) = []

unfoldable pub slip_lent : Call → List ℕ
slip_lent (opening seat sums) = []
slip_lent (under ticket act) = act_lent act
slip_lent (writing slip buffer) = buffer
slip_lent (reading bytes) = []
