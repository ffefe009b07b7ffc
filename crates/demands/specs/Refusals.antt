-- Demand 1. Every call ends properly on all inputs: bad rooms, directories, tickets, sheets and numbers are refused by document 01's numbers, each
-- given exactly when its row of the table applies and none before it in the order does, and a refusal changes neither the room nor the slip
-- buffer. That a call ends at all is what the checker proves of each function.
use Rattle.std.specs.Prelude.{Bool, true, false, not, ◌&&◌, ◌||◌, cond, List, [], ◌∷◌, ◌++◌, ◌≡◌, ℕ, suc, eqb, length}
use Rattle.shape.specs.Bytes.{every}
use Rattle.slip.specs.Image.{slip_of}
use Rattle.slip.specs.Answers.{buffer_short}
use Rattle.message.specs.Message.{Answer}
use Rattle.message.specs.Lowest.{number_of}
use Rattle.message.specs.Due.{Due}
use Rattle.directory.specs.declared.Participant.{Participant}
use Rattle.directory.specs.Directory.{found, is_fit}
use Rattle.layout.specs.Rows.{account_row}
use Rattle.layout.specs.Seat.{room_long, head_of, account_of, seat_of}
use Rattle.seat.specs.Fit.{room_fits}
use Rattle.seat.specs.Settings.{settings_of}
use Rattle.seat.specs.Calls.{seat_open, last_given_out, journal_full, nothing_to_take_back, sums_bad, account_bad, setting_bad, account_number}
use Rattle.judge.specs.Case.{case_of}
use Rattle.centre.specs.declared.Ticket.{Ticket}
use Rattle.centre.specs.Answers.{done as finished, refused, slip_values}
use Rattle.centre.specs.Calls.{no_seat, ticket_bad, lay_told, lay_after}
use Rattle.centre.specs.Slips.{write_bad, read_bad}
use Rattle.centre.specs.Submit.{call_bad, sheet_bad, field_bad, not_taken, verdict_on}
use Rattle.demands.specs.Calls.{
  Act,
  close,
  set,
  submit,
  take_back,
  read,
  Call,
  opening,
  under,
  writing,
  reading,
  call_told,
  call_room,
  call_slip,
  slip_lent,
  new_room,
}

-- none of these rows applies
abbrev pub none : List (ℕ × Bool) → Bool
none rows = every (λ (row : ℕ × Bool). not row.1) rows

-- a test of calls that open and of acts under a ticket; slip calls know 11 alone
abbrev pub of_opening : (ℕ → List ℕ → Bool) → Call → Bool
of_opening test (opening seat sums) = test seat sums
of_opening test (under ticket act) = false
of_opening test (writing slip buffer) = false
of_opening test (reading bytes) = false

abbrev pub of_acts : (Ticket → Act → Bool) → Call → Bool
of_acts test (opening seat sums) = false
of_acts test (under ticket act) = test ticket act
of_acts test (writing slip buffer) = false
of_acts test (reading bytes) = false

-- what concerns submits alone, and what is said of every other act
abbrev pub of_submit : {A : Type 0} → A → (ℕ → ℕ → List ℕ → List ℕ → A) → Act → A
of_submit otherwise test close = otherwise
of_submit otherwise test (set owner number wish) = otherwise
of_submit otherwise test (submit sender today sheet slip) = test sender today sheet slip
of_submit otherwise test take_back = otherwise
of_submit otherwise test (read owner number) = otherwise

-- the sheet that a call hands in
abbrev pub sheet_in : Call → List ℕ
sheet_in (opening seat sums) = []
sheet_in (under ticket act) = of_submit [] (λ sender today sheet slip. sheet) act
sheet_in (writing slip buffer) = []
sheet_in (reading bytes) = []

module _ (dir : List Participant) (room : List ℕ) where
  -- 1: room unfit
  unfoldable pub room_refused : Call → Bool
  room_refused call = of_opening (λ seat sums. not (room_fits room)) call || of_acts (λ ticket act. not (room_fits room)) call

  -- 2: directory unfit. Close and take back take none
  abbrev pub takes_directory : Act → Bool
  takes_directory close = false
  takes_directory (set owner number wish) = true
  takes_directory (submit sender today sheet slip) = true
  takes_directory take_back = false
  takes_directory (read owner number) = true

  unfoldable pub directory_refused : Call → Bool
  directory_refused call = of_opening (λ seat sums. not (is_fit dir)) call || of_acts (λ ticket act. takes_directory act && not (is_fit dir)) call

  -- 3: seat above 11; or, but for opening, seat closed or opening number differs
  unfoldable pub ticket_refused : Call → Bool
  ticket_refused call = of_opening (λ seat sums. no_seat seat) call || of_acts (λ ticket act. ticket_bad ticket room) call

  -- 4: opening a seat that is open
  unfoldable pub open_refused : Call → Bool
  open_refused call = of_opening (λ seat sums. seat_open (seat_of room seat)) call

  -- 5: the seat's opening number 65,535 was given out
  unfoldable pub last_refused : Call → Bool
  last_refused call = of_opening (λ seat sums. last_given_out (seat_of room seat)) call

  -- 6: a sum, limit, date, sender, account number or account owner is bad; a wrong count of sums; a sum not 0 for a non-owner
  abbrev pub number_bad : Act → Bool
  number_bad close = false
  number_bad (set owner number wish) = setting_bad (found dir owner) number (settings_of wish)
  number_bad (submit sender today sheet slip) = call_bad sender today
  number_bad take_back = false
  number_bad (read owner number) = account_bad (found dir owner) number

  unfoldable pub number_refused : Call → Bool
  number_refused call = of_opening (λ seat sums. sums_bad dir sums) call || of_acts (λ ticket act. number_bad act) call

  -- 7: sheet ill-formed; 8: unknown message, or a field missing, doubled or ill-shaped. Both go by what the sheet is received as, which is what the
  -- grammar and the tables of fields say (`Due`)
  abbrev pub sheet_refused : Answer → Act → Bool
  sheet_refused received act = of_submit false (λ sender today sheet slip. sheet_bad received) act

  abbrev pub field_refused : Answer → Act → Bool
  field_refused received act = of_submit false (λ sender today sheet slip. field_bad received) act

  -- 9: submit or set with 24 steps
  abbrev pub makes_step : Act → Bool
  makes_step close = false
  makes_step (set owner number wish) = true
  makes_step (submit sender today sheet slip) = true
  makes_step take_back = false
  makes_step (read owner number) = false

  -- 10: take back with no step
  abbrev pub takes_back : Act → Bool
  takes_back close = false
  takes_back (set owner number wish) = false
  takes_back (submit sender today sheet slip) = false
  takes_back take_back = true
  takes_back (read owner number) = false

  -- 11: slip buffer under 5 bytes; to write, fields that no slip has; to read, not exactly a slip
  unfoldable pub slip_refused : Call → Bool
  slip_refused (opening seat sums) = false
  slip_refused (under ticket act) = of_submit false (λ sender today sheet slip. buffer_short slip) act
  slip_refused (writing slip buffer) = write_bad slip buffer
  slip_refused (reading bytes) = read_bad bytes

  -- 12: submit fails check 1 or 2
  abbrev pub check_of : Answer → Ticket → Act → ℕ
  check_of received ticket act =
      of_submit 0 (λ sender today sheet slip. verdict_on (case_of dir sender today) received (seat_of room ticket.seat)) act

  -- the table of refusals in its order, 1 to 6, 11, 9, 10, 7, 8, 12: each number, and whether its row applies
  unfoldable pub table : Answer → Call → List (ℕ × Bool)
  table received call =
      (1, room_refused call)
      ∷ (2, directory_refused call)
      ∷ (3, ticket_refused call)
      ∷ (4, open_refused call)
      ∷ (5, last_refused call)
      ∷ (6, number_refused call)
      ∷ (11, slip_refused call)
      ∷ (9, of_acts (λ ticket act. makes_step act && journal_full (seat_of room ticket.seat)) call)
      ∷ (10, of_acts (λ ticket act. takes_back act && nothing_to_take_back (seat_of room ticket.seat)) call)
      ∷ (7, of_acts (λ ticket act. sheet_refused received act) call)
      ∷ (8, of_acts (λ ticket act. field_refused received act) call)
      ∷ (12, of_acts (λ ticket act. not_taken (check_of received ticket act)) call)
      ∷ []

  -- the place, the field or the check that 7, 8 and 12 name; every other detail is 0
  abbrev pub detail_by : Answer → Ticket → Act → ℕ → ℕ
  detail_by received ticket act n =
      of_submit 0
      (λ sender today sheet slip. cond (eqb n 7 || eqb n 8) (number_of received).1 (cond (eqb n 12) (check_of received ticket act) 0))
      act

  abbrev pub detail_of : Answer → Call → ℕ → ℕ
  detail_of received (opening seat sums) n = 0
  detail_of received (under ticket act) n = detail_by received ticket act n
  detail_of received (writing slip buffer) n = 0
  detail_of received (reading bytes) n = 0

  -- what a call that is done gives back: the opening number, one above the seat's last; all that the account holds; what the slip says
  abbrev pub gives_back : Call → List ℕ
  gives_back (opening seat sums) = suc (head_of (seat_of room seat)).opening ∷ []
  gives_back (under ticket close) = []
  gives_back (under ticket (set owner number wish)) = []
  gives_back (under ticket (submit sender today sheet slip)) = []
  gives_back (under ticket take_back) = []
  gives_back (under ticket (read owner number)) =
      account_row (account_of (seat_of room ticket.seat) (account_number (found dir owner) number))
  gives_back (writing slip buffer) = []
  gives_back (reading bytes) = slip_values (slip_of bytes)

-- either way
abbrev pub Exactly : Type 0 → Type 0 → Type 0
Exactly A B = (A → B) × (B → A)

-- the demand, of one call in one room with one directory, none of which is asked for anything
pub record Refused (dir : List Participant) (room : List ℕ) (received : Answer) (call : Call) : Type 0 where
  -- each number is given exactly when its row applies and none before it in the order does
  pub given : (before : List (ℕ × Bool)) (n : ℕ) (applies : Bool) (later : List (ℕ × Bool))
      → table dir room received call ≡ before ++ ((n, applies) ∷ later)
      → Exactly ((call_told dir call room).number ≡ n) ((applies ≡ true) × (none before ≡ true))
  -- and 0 exactly when no row applies; then there is no detail, and the values are what the call gives back
  pub done : Exactly ((call_told dir call room).number ≡ 0) (none (table dir room received call) ≡ true)
  pub gives : (call_told dir call room).number ≡ 0 → call_told dir call room ≡ finished (gives_back dir room call)
  -- a refusal has the detail named and no values
  pub detail : ((call_told dir call room).number ≡ 0 → ⊥)
      → ((call_told dir call room).detail ≡ detail_of dir room received call (call_told dir call room).number) × ((call_told dir call room).values ≡ [])
  -- and leaves the room and the slip buffer as they came
  pub stays : ((call_told dir call room).number ≡ 0 → ⊥) → (call_room dir call room ≡ room) × (call_slip dir call room ≡ slip_lent call)

-- every sheet is due one answer, and no second one
pub record OneDue (sheet : List ℕ) : Type 0 where
  pub received : Answer
  pub due : Due sheet received
  pub only : (other : Answer) → Due sheet other → other ≡ received

-- laying out: 1 exactly when the length is wrong, with no detail and no values, and the room stays then; else 0, and the room is a new one
pub record LaidOut (room : List ℕ) : Type 0 where
  pub given : Exactly (lay_told room ≡ refused 1) (length room ≡ room_long → ⊥)
  pub done : Exactly (lay_told room ≡ finished []) (length room ≡ room_long)
  pub stays : (length room ≡ room_long → ⊥) → lay_after room ≡ room
  pub left : length room ≡ room_long → lay_after room ≡ new_room

abbrev pub Demand1 : Type 0
Demand1 =
    ((dir : List Participant) (room : List ℕ) (call : Call) (received : Answer) → Due (sheet_in call) received → Refused dir room received call)
    × ((sheet : List ℕ) → OneDue sheet)
    × ((room : List ℕ) → LaidOut room)
