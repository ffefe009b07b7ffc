-- Demand 2. A message, where nothing but a check refuses it, is carried out exactly when no check listed for its kind fails; otherwise the answer is
-- the first failing one in that order. Money moves only then, by exactly the amount. A pacs.008 that passes waits and moves nothing; the pacs.002
-- that answers it moves what it keeps, or rejects it. Slips written are read back the same, and no other bytes are read as a slip.
use Rattle.std.specs.Prelude.{Bool, true, not, ◌&&◌, cond, List, [], ◌∷◌, ◌++◌, ◌≡◌, ℕ, suc, ◌≤◌, ◌<◌, eqb, length, take, drop, Some, Ok}
use Rattle.shape.specs.Bytes.{every}
use Rattle.table.specs.declared.Kind.{Kind}
use Rattle.table.specs.declared.Kind.TheVariants.{Pacs008, Camt050, Pacs028, Pacs002}
use Rattle.table.specs.Checks.{order_of}
use Rattle.slip.specs.declared.Slip.{Slip}
use Rattle.slip.specs.declared.Status.{Status}
use Rattle.slip.specs.declared.Status.TheVariants.{Pdng, Accc, Rjct, Waits}
use Rattle.slip.specs.declared.Form.{Form}
use Rattle.slip.specs.declared.Form.TheVariants.{FiveBytes, SixBytes}
use Rattle.slip.specs.Meaning.{steps, slip_long, kind_number, status_number, measures, is_slip_in, is_slip}
use Rattle.slip.specs.Image.{are_bytes, image_in, image}
use Rattle.slip.specs.Answers.{write_after}
use Rattle.message.specs.declared.Message.{Message}
use Rattle.message.specs.Message.{Answer}
use Rattle.message.specs.Due.{Due}
use Rattle.directory.specs.declared.Participant.{Participant}
use Rattle.layout.specs.declared.rows.Account.{Account}
use Rattle.layout.specs.declared.rows.Step.{Step}
use Rattle.layout.specs.Seat.{accounts, head_of, account_of, step_of, seat_of, with_seat}
use Rattle.journal.specs.declared.results.Outcome.{Outcome}
use Rattle.journal.specs.Steps.{no_settings}
use Rattle.journal.specs.Answers.{result_now}
use Rattle.journal.specs.Working.{debited, credited, turned}
use Rattle.judge.specs.declared.case.Case.{Case}
use Rattle.judge.specs.Values.{or_zero}
use Rattle.judge.specs.Case.{case_of}
use Rattle.judge.specs.Rows.{asked_after, due_to, movement_in}
use Rattle.judge.specs.Verdict.{fails, told_of, closed_by}
use Rattle.centre.specs.declared.Ticket.{Ticket}
use Rattle.centre.specs.Answers.{Told, done, refused_with, slip_values}
use Rattle.centre.specs.Submit.{submit_told, submit_after, submit_slip}
use Rattle.centre.specs.Slips.{write_told, read_told}
use Rattle.demands.specs.Calls.{submit, under}
use Rattle.demands.specs.Refusals.{none, table, Exactly}
use Rattle.journal.specs.Traces.{placed}

-- money that moves: the debited account, the credited one and the amount
pub record Move : Type 0 where
  pub debit : ℕ
  pub credit : ℕ
  pub amount : ℕ

-- where none moves a step stores zeros
abbrev pub no_move : Move
no_move = record { debit = 0; credit = 0; amount = 0 }

-- what a step keeps beside its message and its result: a movement, the bank that is to answer it, and the number of the step that it answers
pub record Kept : Type 0 where
  pub move : Move
  pub receiver : ℕ
  pub answers : ℕ

abbrev pub moving : Move → Kept
moving move = record { move = move; receiver = 0; answers = 0 }

abbrev pub answering : Move → ℕ → Kept
answering move number = record { move = move; receiver = 0; answers = number }

-- an account after a movement: debited, credited, or as it was. One account both times: the balance stays, turnover grows
abbrev pub after_move : Move → ℕ → Account → Account
after_move move i a =
    cond (eqb i move.debit && eqb i move.credit) (turned move.amount a)
    (cond (eqb i move.debit) (debited move.amount a)
    (cond (eqb i move.credit) (credited move.amount a) a))

-- a camt.050 or an answer that passes every check ends as ACCC with 0, a pacs.008 that does waits
abbrev pub passed_status : Kind → Status
passed_status Pacs008 = Waits
passed_status Camt050 = Accc
passed_status Pacs028 = Accc
passed_status Pacs002 = Accc

abbrev pub accepted : Outcome
accepted = record { status = status_number Accc; check = 0 }

abbrev pub waiting : Outcome
waiting = record { status = status_number Waits; check = 0 }

-- one that fails ends as RJCT with the check, a pacs.028 as PDNG with it
abbrev pub failed_as : Kind → Status
failed_as Pacs008 = Rjct
failed_as Camt050 = Rjct
failed_as Pacs028 = Pdng
failed_as Pacs002 = Rjct

abbrev pub failed_by : Kind → ℕ → Outcome
failed_by kind k = record { status = status_number (failed_as kind); check = k }

module _ (dir : List Participant) (ticket : Ticket) (sender today : ℕ) (sheet slip room : List ℕ) where
  abbrev pub answer : Told
  answer = submit_told dir ticket sender today sheet slip room

  abbrev pub room_then : List ℕ
  room_then = submit_after dir ticket sender today sheet slip room

  abbrev pub slip_then : List ℕ
  slip_then = submit_slip dir ticket sender today sheet slip room

  -- the seat before and after
  abbrev pub seat : List ℕ
  seat = seat_of room ticket.seat

  abbrev pub seat_then : List ℕ
  seat_then = seat_of room_then ticket.seat

  -- how many steps stood in its journal, which is the place of the next one
  abbrev pub count : ℕ
  count = (head_of seat).steps

  -- nothing but a check refuses what the sheet was received as: of the table of refusals no row but the last, which is 12, applies
  abbrev pub Heard : Answer → Type 0
  Heard received = none (take 11 (table dir room received (under ticket (submit sender today sheet slip)))) ≡ true

  -- what the slip says: kind, status, check, seat, opening and step
  abbrev pub slip_said : Message → Outcome → Slip
  slip_said m o = record {
    kind = kind_number m.kind;
    status = o.status;
    check = o.check;
    seat = ticket.seat;
    opening = ticket.opening;
    step = suc count;
  }

  -- what the step stores: kind, result, sender, MsgId, UETR, creation time, end-to-end identifier, and what it keeps. Settings are a set's
  abbrev pub step_stored : Message → Outcome → Kept → Step
  step_stored m o kept = record {
    kind = kind_number m.kind;
    status = o.status;
    check = o.check;
    sender = sender;
    id = m.id.stored;
    uetr = m.uetr;
    created = or_zero m.created;
    reference = m.reference;
    debit = kept.move.debit;
    credit = kept.move.credit;
    amount = kept.move.amount;
    account = 0;
    old = no_settings;
    given = no_settings;
    receiver = kept.receiver;
    answers = kept.answers;
  }

  -- the message was one step more with this outcome, which keeps this, and has its slip
  pub record Recorded (m : Message) (o : Outcome) (keeps : Kept) : Type 0 where
    pub answered : answer ≡ done []
    -- the slip stands in the first bytes, the rest of the buffer stays; it is a slip, and is read back as what it says
    pub slipped : slip_then ≡ image (slip_said m o) ++ drop slip_long slip
    pub sound : is_slip (slip_said m o) ≡ true
    pub read_back : read_told (take slip_long slip_then) ≡ done (slip_values (slip_said m o))
    -- the step stands in the first free place
    pub stored : step_of seat_then count ≡ step_stored m o keeps
    -- of the room only its seat changed, of the seat's head only the count; the other places of the journal are as they were
    pub elsewhere : room_then ≡ with_seat room ticket.seat seat_then
    pub headed : head_of seat_then ≡ record { opening = (head_of seat).opening; opened = (head_of seat).opened; steps = suc count }
    pub kept : (k : ℕ) → k < steps → (k ≡ count → ⊥) → step_of seat_then k ≡ step_of seat k
    -- what has become of an earlier step: the one that is answered ended as the answer did, each other as before
    pub became : (k : ℕ) → k < count → result_now seat_then k ≡ cond (eqb keeps.answers (suc k)) o (result_now seat k)

  -- each account is as a movement leaves it
  abbrev pub AccountsAfter : Move → Type 0
  AccountsAfter move = (i : ℕ) → i < accounts → account_of seat_then i ≡ after_move move i (account_of seat i)

  -- no account changed
  abbrev pub Unmoved : Type 0
  Unmoved = (i : ℕ) → i < accounts → account_of seat_then i ≡ account_of seat i

  -- the case of a message, and the checks that it passes in its seat
  abbrev pub case_on : Message → Case
  case_on m = case_of dir sender today m

  abbrev pub passes : Message → ℕ → Bool
  passes m k = not (fails (case_on m) seat k)

  -- a pacs.008 waits for InstdAgt's answer; its amount and its two accounts are kept, and nothing moves
  pub record Awaits (m : Message) : Type 0 where
    pub move : Move
    pub receiver : ℕ
    pub debits : (movement_in (case_on m) seat).debit ≡ Some move.debit
    pub credits : (movement_in (case_on m) seat).credit ≡ Some move.credit
    pub amounts : m.amount ≡ Some move.amount
    pub receives : m.instructed ≡ Some receiver
    pub recorded : Recorded m waiting (record { move = move; receiver = receiver; answers = 0 })
    pub rests : Unmoved

  -- a camt.050 is recorded as ACCC, and the money moved, by exactly the amount, from the one account to the other; of the accounts nothing else
  -- changed but that turnover
  pub record Transferred (m : Message) : Type 0 where
    pub move : Move
    pub debits : (movement_in (case_on m) seat).debit ≡ Some move.debit
    pub credits : (movement_in (case_on m) seat).credit ≡ Some move.credit
    pub amounts : m.amount ≡ Some move.amount
    pub there : move.amount ≤ (account_of seat move.debit).balance
    pub recorded : Recorded m accepted (moving move)
    pub moved : AccountsAfter move

  -- an accepting pacs.002 settles the transfer that waits for it: exactly the amount that this one keeps moves between the two accounts that it keeps
  pub record Settles (m : Message) : Type 0 where
    pub place : ℕ
    pub due : due_to (case_on m) seat ≡ Some (placed place (step_of seat place))
    pub early : place < count
    pub move : Move
    pub same : move ≡ record { debit = (step_of seat place).debit; credit = (step_of seat place).credit; amount = (step_of seat place).amount }
    pub there : move.amount ≤ (account_of seat move.debit).balance
    pub recorded : Recorded m accepted (answering move (suc place))
    pub moved : AccountsAfter move

  -- how a message is carried out that passes every check; a pacs.028 tells what has become of the payment that it asks after
  abbrev pub CarriedOut : Kind → Message → Type 0
  CarriedOut Pacs008 m = Awaits m
  CarriedOut Camt050 m = Transferred m
  CarriedOut Pacs028 m = Recorded m (told_of (asked_after (case_on m) seat) seat) (moving no_move) × Unmoved
  CarriedOut Pacs002 m = Settles m

  -- how one ends that fails by a check: checks 1 and 2 are refusal 12, without a step; by a later one it is recorded, and no money moves. A pacs.002
  -- that fails by a rejecting check names the transfer that waits for it, and so rejects it; by an earlier one it names none
  pub record FailedBy (m : Message) (k : ℕ) : Type 0 where
    pub refuses : k ≤ 2 → (answer ≡ refused_with 12 k) × (room_then ≡ room) × (slip_then ≡ slip)
    pub records : 2 < k → Recorded m (failed_by m.kind k) (answering no_move (closed_by m.kind k (due_to (case_on m) seat))) × Unmoved

  -- that it ended by the check, as far as its answer and its place in the journal show it
  pub record EndedBy (m : Message) (k : ℕ) : Type 0 where
    pub refused : k ≤ 2 → answer ≡ refused_with 12 k
    pub stored : 2 < k → ((step_of seat_then count).status ≡ status_number (failed_as m.kind)) × ((step_of seat_then count).check ≡ k)

  pub record Judged (m : Message) : Type 0 where
    -- it is carried out where every check of the kind's order passes, and ends by the first failing one in that order where one fails
    pub carried : every (passes m) (order_of m.kind) ≡ true → CarriedOut m.kind m
    pub failed : (before : List ℕ) (k : ℕ) (later : List ℕ) → order_of m.kind ≡ before ++ (k ∷ later)
        → every (passes m) before ≡ true → fails (case_on m) seat k ≡ true → FailedBy m k
    -- a pacs.008 waits, and a camt.050 or a pacs.002 has ACCC, exactly when every check of its order passes
    pub accepts : (m.kind ≡ Pacs028 → ⊥)
        → Exactly ((step_of seat_then count).status ≡ status_number (passed_status m.kind)) (every (passes m) (order_of m.kind) ≡ true)
    -- and a message ends by a check of its order exactly when that is the first failing one
    pub ends : (before : List ℕ) (k : ℕ) (later : List ℕ) → order_of m.kind ≡ before ++ (k ∷ later)
        → Exactly (EndedBy m k) ((every (passes m) before ≡ true) × (fails (case_on m) seat k ≡ true))

  -- where nothing but a check refuses, the sheet is a message, and it is judged so
  pub record Heeded (received : Answer) : Type 0 where
    pub message : Message
    pub good : received ≡ Ok message
    pub judged : Judged message

-- a slip of a form is read from its bytes there, and from no others of their length
pub record OneImage (form : Form) (slip : Slip) : Type 0 where
  pub long : length (image_in (measures form) slip) ≡ (measures form).long
  pub read_back : read_told (image_in (measures form) slip) ≡ done (slip_values slip)
  pub only : (bytes : List ℕ) → are_bytes bytes ≡ true → length bytes ≡ (measures form).long → read_told bytes ≡ done (slip_values slip)
      → bytes ≡ image_in (measures form) slip

-- bytes that are read as a slip are what that slip is in one of the two forms
pub record ReadAs (bytes : List ℕ) : Type 0 where
  pub slip : Slip
  pub form : Form
  pub sound : is_slip_in (measures form) slip ≡ true
  pub values : read_told bytes ≡ done (slip_values slip)
  pub same : bytes ≡ image_in (measures form) slip

-- slips written are read back the same; a slip of a form has one image in it, five bytes or six, and what five can say six can; no other bytes
-- are read as a slip
pub record Slips : Type 0 where
  pub back : (slip : Slip) (buffer : List ℕ) → (write_told slip buffer).number ≡ 0
      → read_told (take slip_long (write_after slip buffer)) ≡ done (slip_values slip)
  pub one : (form : Form) (slip : Slip) → is_slip_in (measures form) slip ≡ true → OneImage form slip
  pub both : (slip : Slip) → is_slip_in (measures FiveBytes) slip ≡ true → is_slip_in (measures SixBytes) slip ≡ true
  pub only : (bytes : List ℕ) → (read_told bytes).number ≡ 0 → are_bytes bytes ≡ true → ReadAs bytes

abbrev pub Demand2 : Type 0
Demand2 =
    ((dir : List Participant) (ticket : Ticket) (sender today : ℕ) (sheet slip room : List ℕ) (received : Answer) → Due sheet received
    → Heard dir ticket sender today sheet slip room received → Heeded dir ticket sender today sheet slip room received)
    × Slips
