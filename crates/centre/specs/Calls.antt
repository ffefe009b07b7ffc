-- The calls of a room that need no message: document 01, "Calls and refusals". Of each call the table of its refusals, in their order, with its
-- answer, and the room after it. A seat is a part of the room; all that a call does to a room is done to its seat. The tests of the refusals have
-- their names in `seat` and, where they are about the whole room, here.
use Rattle.std.specs.Prelude.{Bool, not, ◌||◌, cond, List, [], ◌∷◌, ℕ, suc, ◌+◌, leb, eqb, length, replicate, Option, Result, Ok, Err}
use Rattle.std.specs.declared.ops.Range.{Range}
use Rattle.slip.specs.Meaning.{seats}
use Rattle.directory.specs.declared.Participant.{Participant}
use Rattle.directory.specs.declared.Listed.{Listed}
use Rattle.directory.specs.Directory.{found, is_fit}
use Rattle.layout.specs.Rows.{account_row}
use Rattle.layout.specs.Seat.{seat_long, room_long, seat_from, head_of, account_of, seat_of, with_seat}
use Rattle.journal.specs.Working.{stepped, backed}
use Rattle.seat.specs.declared.settings.Wish.{Wish}
use Rattle.seat.specs.Fit.{closed_seat, open_seat, room_fits}
use Rattle.seat.specs.Settings.{settings_of}
use Rattle.seat.specs.Calls.{
  no_ticket,
  seat_open,
  last_given_out,
  journal_full,
  nothing_to_take_back,
  sums_bad,
  account_bad,
  setting_bad,
  account_number,
  set_step,
}
use Rattle.centre.specs.declared.Ticket.{Ticket}
use Rattle.centre.specs.declared.answers.Refusal.{Refusal}
use Rattle.centre.specs.declared.answers.Refusal.TheVariants.{NoTicket}
use Rattle.centre.specs.Answers.{Told, done, refused, first, behind}

-- 3: the seat is above 11; or, but for opening, it is closed or its opening number differs
unfoldable pub no_seat : ℕ → Bool
no_seat seat = leb seats seat

-- where a seat stands in a room, and the same of any number, or that refusal
abbrev pub seat_place : ℕ → Range ℕ
seat_place seat = record { start = seat_from seat; end = seat_from seat + seat_long }

abbrev pub seat_range : ℕ → Result (Range ℕ) Refusal
seat_range seat = cond (no_seat seat) (Err NoTicket) (Ok (seat_place seat))

unfoldable pub ticket_bad : Ticket → List ℕ → Bool
ticket_bad ticket room = no_seat ticket.seat || no_ticket ticket.opening (seat_of room ticket.seat)

-- 1, for laying out: the length is wrong
abbrev pub length_wrong : List ℕ → Bool
length_wrong room = not (eqb (length room) room_long)

-- lay out a room: it looks at the length alone, and makes everything zero
unfoldable pub lay_told : List ℕ → Told
lay_told room = first ((length_wrong room, refused 1) ∷ []) (done [])

unfoldable pub lay_after : List ℕ → List ℕ
lay_after room = behind (lay_told room) (replicate room_long 0) room

-- open a seat with two sums for each record: its opening number grows by one, and is given back
unfoldable pub open_told : List Participant → ℕ → List ℕ → List ℕ → Told
open_told dir seat sums room =
    first (
    (not (room_fits room), refused 1)
    ∷ (not (is_fit dir), refused 2)
    ∷ (no_seat seat, refused 3)
    ∷ (seat_open (seat_of room seat), refused 4)
    ∷ (last_given_out (seat_of room seat), refused 5)
    ∷ (sums_bad dir sums, refused 6)
    ∷ []) (done (suc (head_of (seat_of room seat)).opening ∷ []))

unfoldable pub open_after : List Participant → ℕ → List ℕ → List ℕ → List ℕ
open_after dir seat sums room =
    behind (open_told dir seat sums room) (with_seat room seat (open_seat (suc (head_of (seat_of room seat)).opening) sums)) room

-- close a seat: all zeros but for its opening number
unfoldable pub close_told : Ticket → List ℕ → Told
close_told ticket room = first ((not (room_fits room), refused 1) ∷ (ticket_bad ticket room, refused 3) ∷ []) (done [])

unfoldable pub close_after : Ticket → List ℕ → List ℕ
close_after ticket room =
    behind (close_told ticket room) (with_seat room ticket.seat (closed_seat (head_of (seat_of room ticket.seat)).opening)) room

-- set an account's blocks and limits, all four at once, as one step. Of the directory it matters whether it is fit and what is found of the owner
abbrev pub set_by : Bool → Option Listed → Ticket → ℕ → Wish → List ℕ → Told
set_by fit owner ticket number wish room =
    first (
    (not (room_fits room), refused 1)
    ∷ (not fit, refused 2)
    ∷ (ticket_bad ticket room, refused 3)
    ∷ (setting_bad owner number (settings_of wish), refused 6)
    ∷ (journal_full (seat_of room ticket.seat), refused 9)
    ∷ []) (done [])

unfoldable pub set_told : List Participant → Ticket → ℕ → ℕ → Wish → List ℕ → Told
set_told dir ticket owner number wish room = set_by (is_fit dir) (found dir owner) ticket number wish room

-- the seat with that step
unfoldable pub set_in : ℕ → Wish → List ℕ → List ℕ
set_in account wish s = stepped (set_step account (account_of s account).settings (settings_of wish)) s

abbrev pub set_left : Bool → Option Listed → Ticket → ℕ → Wish → List ℕ → List ℕ
set_left fit owner ticket number wish room =
    behind (set_by fit owner ticket number wish room)
    (with_seat room ticket.seat (set_in (account_number owner number) wish (seat_of room ticket.seat))) room

unfoldable pub set_after : List Participant → Ticket → ℕ → ℕ → Wish → List ℕ → List ℕ
set_after dir ticket owner number wish room = set_left (is_fit dir) (found dir owner) ticket number wish room

-- take back the last step
unfoldable pub back_told : Ticket → List ℕ → Told
back_told ticket room =
    first (
    (not (room_fits room), refused 1)
    ∷ (ticket_bad ticket room, refused 3)
    ∷ (nothing_to_take_back (seat_of room ticket.seat), refused 10)
    ∷ []) (done [])

unfoldable pub back_after : Ticket → List ℕ → List ℕ
back_after ticket room =
    behind (back_told ticket room) (with_seat room ticket.seat (backed (seat_of room ticket.seat))) room

-- read an account: all it holds
abbrev pub read_by : Bool → Option Listed → Ticket → ℕ → List ℕ → Told
read_by fit owner ticket number room =
    first (
    (not (room_fits room), refused 1)
    ∷ (not fit, refused 2)
    ∷ (ticket_bad ticket room, refused 3)
    ∷ (account_bad owner number, refused 6)
    ∷ []) (done (account_row (account_of (seat_of room ticket.seat) (account_number owner number))))

unfoldable pub read_told : List Participant → Ticket → ℕ → ℕ → List ℕ → Told
read_told dir ticket owner number room = read_by (is_fit dir) (found dir owner) ticket number room
