-- Submit: a message of a sender, on a date, as a sheet. Document 01, "Calls and refusals", "The checks", "The slip". A message that passes refusal
-- 12 is one step, carried out or not, and its slip stands in the first bytes of the buffer.
use Rattle.std.specs.Prelude.{Bool, true, not, ◌&&◌, ◌||◌, List, [], ◌∷◌, ◌++◌, ◌≡◌, ℕ, suc, leb, eqb, drop, Ok, Err}
use Rattle.shape.specs.Dates.{is_date}
use Rattle.slip.specs.declared.Slip.{Slip}
use Rattle.slip.specs.Meaning.{slip_long}
use Rattle.slip.specs.Image.{image}
use Rattle.slip.specs.Answers.{buffer_short}
use Rattle.message.specs.declared.Message.{Message}
use Rattle.message.specs.declared.Refusal.TheVariants.{IllFormed, BadField}
use Rattle.message.specs.Message.{Answer}
use Rattle.message.specs.Received.{received_of}
use Rattle.message.specs.Lowest.{number_of}
use Rattle.directory.specs.declared.Participant.{Participant}
use Rattle.directory.specs.Directory.{code_most, is_fit}
use Rattle.layout.specs.declared.rows.Step.{Step}
use Rattle.layout.specs.Seat.{head_of, seat_of, with_seat}
use Rattle.journal.specs.Steps.{no_step}
use Rattle.journal.specs.Working.{stepped}
use Rattle.seat.specs.Fit.{room_fits}
use Rattle.seat.specs.Calls.{journal_full}
use Rattle.judge.specs.declared.case.Case.{Case}
use Rattle.judge.specs.declared.case.Looked.{Looked}
use Rattle.judge.specs.Case.{looked_up, case_of}
use Rattle.judge.specs.Verdict.{verdict, judged_step}
use Rattle.centre.specs.declared.Ticket.{Ticket}
use Rattle.centre.specs.Answers.{Told, done, refused, refused_with, first, behind}
use Rattle.centre.specs.Calls.{ticket_bad}

-- the check that the message of a sheet fails by in a seat, by the case that it is; 0 where the sheet is no message
unfoldable pub verdict_on : (Message → Case) → Answer → List ℕ → ℕ
verdict_on cases (Ok m) s = verdict (cases m) s
verdict_on cases (Err (IllFormed place)) s = 0
verdict_on cases (Err (BadField number)) s = 0

-- 12: it fails check 1 or 2
unfoldable pub not_taken : ℕ → Bool
not_taken check = eqb check 1 || eqb check 2

-- 6, submitting: the sender or the date is bad
abbrev pub call_bad : ℕ → ℕ → Bool
call_bad sender today = not (leb sender code_most && is_date today)

-- 7: the sheet is ill-formed. 8: the message is unknown, or a field missing, doubled or ill-shaped
abbrev pub sheet_bad : Answer → Bool
sheet_bad received = eqb (number_of received).0 7

abbrev pub field_bad : Answer → Bool
field_bad received = eqb (number_of received).0 8

-- the step that it is
unfoldable pub step_on : (Message → Case) → Answer → List ℕ → Step
step_on cases (Ok m) s = judged_step (cases m) s
step_on cases (Err (IllFormed place)) s = no_step
step_on cases (Err (BadField number)) s = no_step

-- the slip of a step: its kind, status and check, with its seat, opening and number
unfoldable pub slip_of : Ticket → ℕ → Step → Slip
slip_of ticket number x = record {
  kind = x.kind;
  status = x.status;
  check = x.check;
  seat = ticket.seat;
  opening = ticket.opening;
  step = number;
}

-- a message in its seat: the answer, the seat and the buffer after it
unfoldable pub judged_told : Case → List ℕ → Told
judged_told c s = first ((not_taken (verdict c s), refused_with 12 (verdict c s)) ∷ []) (done [])

unfoldable pub judged_after : Case → List ℕ → List ℕ
judged_after c s = behind (judged_told c s) (stepped (judged_step c s) s) s

unfoldable pub judged_slip : Ticket → Case → List ℕ → List ℕ → List ℕ
judged_slip ticket c s slip =
    behind (judged_told c s) (image (slip_of ticket (suc (head_of s).steps) (judged_step c s)) ++ drop slip_long slip) slip

-- submit what a sheet was received as. Of the directory it matters whether it is fit and what case a message is by it
abbrev pub submit_by : Bool → (Message → Case) → Ticket → ℕ → ℕ → Answer → List ℕ → List ℕ → Told
submit_by fit cases ticket sender today received slip room =
    let s : List ℕ = seat_of room ticket.seat in
    first (
    (not (room_fits room), refused 1)
    ∷ (not fit, refused 2)
    ∷ (ticket_bad ticket room, refused 3)
    ∷ (call_bad sender today, refused 6)
    ∷ (buffer_short slip, refused 11)
    ∷ (journal_full s, refused 9)
    ∷ (sheet_bad received, refused_with 7 (number_of received).1)
    ∷ (field_bad received, refused_with 8 (number_of received).1)
    ∷ (not_taken (verdict_on cases received s), refused_with 12 (verdict_on cases received s))
    ∷ []) (done [])

unfoldable pub submit_told : List Participant → Ticket → ℕ → ℕ → List ℕ → List ℕ → List ℕ → Told
submit_told dir ticket sender today sheet slip room =
    submit_by (is_fit dir) (case_of dir sender today) ticket sender today (received_of sheet).answer slip room

-- the room after it: one step more in the seat
abbrev pub submit_left : Bool → (Message → Case) → Ticket → ℕ → ℕ → Answer → List ℕ → List ℕ → List ℕ
submit_left fit cases ticket sender today received slip room =
    let s : List ℕ = seat_of room ticket.seat in
    behind (submit_by fit cases ticket sender today received slip room)
    (with_seat room ticket.seat (stepped (step_on cases received s) s)) room

unfoldable pub submit_after : List Participant → Ticket → ℕ → ℕ → List ℕ → List ℕ → List ℕ → List ℕ
submit_after dir ticket sender today sheet slip room =
    submit_left (is_fit dir) (case_of dir sender today) ticket sender today (received_of sheet).answer slip room

-- the buffer after it: the slip in its first bytes, the rest as it was
abbrev pub submit_written : Bool → (Message → Case) → Ticket → ℕ → ℕ → Answer → List ℕ → List ℕ → List ℕ
submit_written fit cases ticket sender today received slip room =
    let s : List ℕ = seat_of room ticket.seat in
    behind (submit_by fit cases ticket sender today received slip room)
    (image (slip_of ticket (suc (head_of s).steps) (step_on cases received s)) ++ drop slip_long slip) slip

unfoldable pub submit_slip : List Participant → Ticket → ℕ → ℕ → List ℕ → List ℕ → List ℕ → List ℕ
submit_slip dir ticket sender today sheet slip room =
    submit_written (is_fit dir) (case_of dir sender today) ticket sender today (received_of sheet).answer slip room

-- what was looked up for what a sheet was received as, and whether the directory is fit: all by one directory and one sheet
pub record Sought (fit : Bool) (looked : Looked) (sender : ℕ) (received : Answer) : Type 0 where
  pub dir : List Participant
  pub sheet : List ℕ
  pub fitness : fit ≡ is_fit dir
  pub reading : received ≡ (received_of sheet).answer
  pub finding : fit ≡ true → (m : Message) → received ≡ Ok m → looked ≡ looked_up dir sender m
