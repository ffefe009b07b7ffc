-- Each call answers with the number of the first row of the table that applies: its own table of refusals is the table of all, without the rows
-- that do not concern it, and these never apply. A refusal has the detail named and no values, as every line of its table has.
-- Assumes nothing.
use mathlib.Core.Path.{◌≡◌, refl, ◌∙◌}
use mathlib.Core.Bool.{Bool, true, false, not, ◌&&◌, ◌||◌}
use mathlib.Core.List.{List, [], ◌∷◌, map}
use Prim.Native.Nat.{ℕ, suc}
use lib.Dec.{leb, ltb, eqb}
use lib.ListN.{length}
use borrow.Author.Tests.{eqb-false, not-true}
use Rattle.shape.specs.Bytes.{every}
use Rattle.shape.specs.Dates.{is_date}
use Rattle.shape.proofs.Tests.{and_left, and_right}
use Rattle.slip.specs.Meaning.{slip_long, openings, steps}
use Rattle.slip.specs.Image.{slip_of}
use Rattle.slip.specs.Answers.{can_write, holds_slip}
use Rattle.message.specs.Message.{Answer}
use Rattle.message.specs.Received.{received_of}
use Rattle.message.specs.Lowest.{number_of}
use Rattle.directory.specs.declared.Participant.{Participant}
use Rattle.directory.specs.Directory.{code_most, found, is_fit}
use Rattle.layout.specs.Rows.{account_row}
use Rattle.layout.specs.Seat.{head_of, account_of, seat_of}
use Rattle.journal.specs.Steps.{settings_fit}
use Rattle.seat.specs.Fit.{room_fits}
use Rattle.seat.specs.Settings.{settings_of}
use Rattle.seat.specs.Calls.{sums_good, account_named, account_number}
use Rattle.judge.specs.Case.{case_of}
use Rattle.centre.specs.declared.Ticket.{Ticket}
use Rattle.centre.specs.Answers.{Told, done, refused, refused_with, slip_values, first}
use Rattle.centre.specs.Calls.{no_seat, ticket_bad, open_told, close_told, set_told, back_told, read_told}
use Rattle.centre.specs.Submit.{verdict_on, not_taken, submit_told}
use Rattle.centre.specs.Slips.{write_told, read_told as slip_told}
use Rattle.demands.specs.Calls.{Act, close, set, submit, take_back, read, Call, opening, under, writing, reading, act_told, call_told}
use Rattle.demands.specs.Refusals.{
  none,
  room_refused,
  directory_refused,
  ticket_refused,
  open_refused,
  last_refused,
  number_refused,
  slip_refused,
  sheet_in,
  table,
  detail_of,
  gives_back,
}
use Rattle.demands.proofs.Firsts.{first_number, distinct, zero-exactly}

-- the numbers of a call's own table
abbrev numbers : List (Bool × Told) → List (ℕ × Bool)
numbers lines = map (λ (line : Bool × Told). (line.1.number, line.0)) lines

first-number : (lines : List (Bool × Told)) (values : List ℕ) → (first lines (done values)).number ≡ first_number (numbers lines)
first-number [] values = refl
first-number ((true, line) ∷ lines) values = refl
first-number ((false, line) ∷ lines) values = first-number lines values

-- every line has the detail that belongs to its number, and no values
abbrev Plain : (ℕ → ℕ) → Told → Type 0
Plain detail line = (line.detail ≡ detail line.number) × (line.values ≡ [])

abbrev AllPlain : (ℕ → ℕ) → List (Bool × Told) → Type 0
AllPlain detail [] = Unit {0}
AllPlain detail (line ∷ lines) = Plain detail line.1 × AllPlain detail lines

first_plain : (detail : ℕ → ℕ) (lines : List (Bool × Told)) (values : List ℕ) → AllPlain detail lines
    → ((first lines (done values)).number ≡ 0 → ⊥) → Plain detail (first lines (done values))
first_plain detail [] values all some = absurd (some refl)
first_plain detail ((true, line) ∷ lines) values all some = all.0
first_plain detail ((false, line) ∷ lines) values all some = first_plain detail lines values all.1 some

-- a table whose lines all refuse: the answer is 0 only where none of them is given
abbrev all_refuse : List (Bool × Told) → Bool
all_refuse lines = every (λ (line : Bool × Told). not (eqb line.1.number 0)) lines

first_done : (lines : List (Bool × Told)) (values : List ℕ) → all_refuse lines ≡ true → (first lines (done values)).number ≡ 0
    → first lines (done values) ≡ done values
first_done [] values all e = refl
first_done ((true, line) ∷ lines) values all e =
    absurd (eqb-false line.number 0 (not-true (eqb line.number 0) (and_left (not (eqb line.number 0)) (all_refuse lines) all)) e)
first_done ((false, line) ∷ lines) values all e =
    first_done lines values (and_right (not (eqb line.number 0)) (all_refuse lines) all) e

-- an answer by a table: the number of its first row that applies, and where that is not 0 the detail of that number and no values; where it is 0,
-- what the call gives back
pub record Tells (told : Told) (rows : List (ℕ × Bool)) (detail : ℕ → ℕ) (values : List ℕ) : Type 0 where
  pub number : told.number ≡ first_number rows
  pub plain : (told.number ≡ 0 → ⊥) → Plain detail told
  pub gives : told.number ≡ 0 → told ≡ done values

-- the tests of an opening stand in front of those of acts, which are false there
pub or-false : (t : Bool) → (t || false) ≡ t
or-false true = refl
or-false false = refl

-- by its lines: their numbers are first as those of the rows
tells : {rows : List (ℕ × Bool)} {detail : ℕ → ℕ} (lines : List (Bool × Told)) (values : List ℕ) → all_refuse lines ≡ true
    → first_number (numbers lines) ≡ first_number rows → AllPlain detail lines → Tells (first lines (done values)) rows detail values
tells {detail = detail} lines values refuse same all =
    record { number = first-number lines values ∙ same; plain = first_plain detail lines values all; gives = first_done lines values refuse }

-- of each call: its lines are the rows of the table that concern it, in the same order; the other rows compute to false
module _ (dir : List Participant) (room : List ℕ) where
  -- what the sheet of a call is received as
  abbrev pub got : Call → Answer
  got call = (received_of (sheet_in call)).answer

  -- the table of a call, the details of its refusals, and what it gives back
  abbrev pub table_of : Call → List (ℕ × Bool)
  table_of call = table dir room (got call) call

  abbrev pub details_of : Call → ℕ → ℕ
  details_of call = detail_of dir room (got call) call

  abbrev pub values_of : Call → List ℕ
  values_of call = gives_back dir room call

  pub table-distinct : (call : Call) → distinct (table_of call) ≡ true
  unfolding table
  table-distinct call = refl

  act-tells : (ticket : Ticket) (act : Act)
      → Tells (call_told dir (under ticket act) room) (table_of (under ticket act)) (details_of (under ticket act)) (values_of (under ticket act))
  unfolding call_told act_told close_told set_told submit_told back_told read_told table room_refused directory_refused ticket_refused open_refused last_refused number_refused slip_refused not_taken
  act-tells ticket close =
      tells ((not (room_fits room), refused 1) ∷ (ticket_bad ticket room, refused 3) ∷ []) [] refl refl ((refl, refl), ((refl, refl), tt))
  act-tells ticket (set owner number wish) =
      tells (
      (not (room_fits room), refused 1)
      ∷ (not (is_fit dir), refused 2)
      ∷ (ticket_bad ticket room, refused 3)
      ∷ (not (account_named (found dir owner) number && settings_fit (settings_of wish)), refused 6)
      ∷ (eqb (head_of (seat_of room ticket.seat)).steps steps, refused 9)
      ∷ []) [] refl refl ((refl, refl), ((refl, refl), ((refl, refl), ((refl, refl), ((refl, refl), tt)))))
  act-tells ticket (submit sender today sheet slip) =
      let s : List ℕ = seat_of room ticket.seat in
      let received : Answer = (received_of sheet).answer in
      tells (
      (not (room_fits room), refused 1)
      ∷ (not (is_fit dir), refused 2)
      ∷ (ticket_bad ticket room, refused 3)
      ∷ (not (leb sender code_most && is_date today), refused 6)
      ∷ (ltb (length slip) slip_long, refused 11)
      ∷ (eqb (head_of s).steps steps, refused 9)
      ∷ (eqb (number_of received).0 7, refused_with 7 (number_of received).1)
      ∷ (eqb (number_of received).0 8, refused_with 8 (number_of received).1)
      ∷ (not_taken (verdict_on (case_of dir sender today) received s), refused_with 12 (verdict_on (case_of dir sender today) received s))
      ∷ []) [] refl refl
      ((refl, refl), ((refl, refl), ((refl, refl), ((refl, refl), ((refl, refl), ((refl, refl), ((refl, refl), ((refl, refl), ((refl, refl), tt)))))))))
  act-tells ticket take_back =
      tells (
      (not (room_fits room), refused 1)
      ∷ (ticket_bad ticket room, refused 3)
      ∷ (eqb (head_of (seat_of room ticket.seat)).steps 0, refused 10)
      ∷ []) [] refl refl ((refl, refl), ((refl, refl), ((refl, refl), tt)))
  act-tells ticket (read owner number) =
      tells (
      (not (room_fits room), refused 1)
      ∷ (not (is_fit dir), refused 2)
      ∷ (ticket_bad ticket room, refused 3)
      ∷ (not (account_named (found dir owner) number), refused 6)
      ∷ []) (account_row (account_of (seat_of room ticket.seat) (account_number (found dir owner) number))) refl refl
      ((refl, refl), ((refl, refl), ((refl, refl), ((refl, refl), tt))))

  pub call-tells : (call : Call) → Tells (call_told dir call room) (table_of call) (details_of call) (values_of call)
  unfolding call_told open_told write_told slip_told table room_refused directory_refused ticket_refused open_refused last_refused number_refused slip_refused
  call-tells (opening seat sums) =
      tells (
      (not (room_fits room), refused 1)
      ∷ (not (is_fit dir), refused 2)
      ∷ (no_seat seat, refused 3)
      ∷ (eqb (head_of (seat_of room seat)).opened 1, refused 4)
      ∷ (eqb (head_of (seat_of room seat)).opening openings, refused 5)
      ∷ (not (sums_good dir sums), refused 6)
      ∷ []) (suc (head_of (seat_of room seat)).opening ∷ []) refl
      (rw (or-false (not (room_fits room)), or-false (not (is_fit dir)), or-false (no_seat seat), or-false (not (sums_good dir sums))))
      ((refl, refl), ((refl, refl), ((refl, refl), ((refl, refl), ((refl, refl), ((refl, refl), tt))))))
  call-tells (under ticket act) = act-tells ticket act
  call-tells (writing slip buffer) = tells ((not (can_write slip buffer), refused 11) ∷ []) [] refl refl ((refl, refl), tt)
  call-tells (reading bytes) = tells ((not (holds_slip bytes), refused 11) ∷ []) (slip_values (slip_of bytes)) refl refl ((refl, refl), tt)

  -- a call that is done is one that no row applies to
  pub done_none : (call : Call) → (call_told dir call room).number ≡ 0 → none (table_of call) ≡ true
  done_none call = (zero-exactly (call_told dir call room).number (table_of call) (table-distinct call) (call-tells call).number).0
