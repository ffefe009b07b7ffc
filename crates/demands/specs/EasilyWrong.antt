-- "Easy to get wrong": the three lines of document 01, each as it has to be.
use Rattle.std.specs.Prelude.{Bool, true, false, ◌||◌, List, ◌∷◌, ◌++◌, ◌≡◌, ℕ, ◌<◌, Some, None, Ok}
use Rattle.shape.specs.Bytes.{every}
use Rattle.shape.specs.Stored.{same_identifier, same_uetr}
use Rattle.table.specs.declared.Kind.{Kind}
use Rattle.table.specs.declared.Kind.TheVariants.{Pacs008, Camt050, Pacs028, Pacs002}
use Rattle.table.specs.Checks.{order_of}
use Rattle.slip.specs.Meaning.{steps, kind_number}
use Rattle.message.specs.declared.Message.{Message}
use Rattle.message.specs.Due.{Due}
use Rattle.directory.specs.declared.Participant.{Participant}
use Rattle.layout.specs.declared.rows.Account.{Account}
use Rattle.layout.specs.declared.rows.Step.{Step}
use Rattle.layout.specs.Seat.{head_of, step_of}
use Rattle.journal.specs.Steps.{set_kind, is_kind}
use Rattle.journal.specs.Working.{stepped, backed, possible}
use Rattle.seat.specs.Fit.{seat_fits}
use Rattle.journal.specs.Limits.{turnover_above, turnover_shut}
use Rattle.seat.specs.Settings.{limit_number}
use Rattle.judge.specs.declared.case.Case.{Case}
use Rattle.judge.specs.Rows.{identifier_repeated, uetr_repeated}
use Rattle.centre.specs.declared.Ticket.{Ticket}
use Rattle.demands.specs.Messages.{answer, room_then, Heard, passes, FailedBy}

-- the kinds of messages that have a UETR of their own
abbrev pub is_transfer : Kind → Bool
is_transfer Pacs008 = true
is_transfer Camt050 = true
is_transfer Pacs028 = false
is_transfer Pacs002 = false

-- what a submit hands in
pub record Handed : Type 0 where
  pub sender : ℕ
  pub today : ℕ
  pub sheet : List ℕ
  pub slip : List ℕ

-- two submits under one ticket, which are the messages m and n: the first is done, however it ended, and where it left the room nothing but a check
-- refuses the second
pub record OneAfterOther (dir : List Participant) (ticket : Ticket) (room : List ℕ) (first second : Handed) (m n : Message) : Type 0 where
  pub first-is : Due first.sheet (Ok m)
  pub first_done : (answer dir ticket first.sender first.today first.sheet first.slip room).number ≡ 0
  pub second_is : Due second.sheet (Ok n)
  pub second-heard : Heard dir ticket second.sender second.today second.sheet second.slip
      (room_then dir ticket first.sender first.today first.sheet first.slip room) (Ok n)

-- then the second fails by this check, unless one that stands before it in the order of its kind fails
abbrev pub EndsBy : ℕ → (dir : List Participant) (ticket : Ticket) (room : List ℕ) (first second : Handed) (m n : Message) → Type 0
EndsBy check dir ticket room first second m n =
    let then : List ℕ = room_then dir ticket first.sender first.today first.sheet first.slip room in
    (before later : List ℕ) → order_of n.kind ≡ before ++ (check ∷ later)
    → every (passes dir ticket second.sender second.today second.sheet second.slip then n) before ≡ true
    → FailedBy dir ticket second.sender second.today second.sheet second.slip then n check

-- a step that is taken in an open seat with a free place
pub record Taken (x : Step) (s : List ℕ) : Type 0 where
  pub fit : seat_fits s ≡ true
  pub opened : (head_of s).opened ≡ 1
  pub free : (head_of s).steps < steps
  pub can : possible x s ≡ true

pub record EasilyWrong : Type 0 where
  -- a transfer keeps its UETR however it ended, a rejected camt.050 too: a second transfer with it fails by 17
  pub uetr-kept : (dir : List Participant) (ticket : Ticket) (room : List ℕ) (first second : Handed) (m n : Message)
      → OneAfterOther dir ticket room first second m n → is_transfer m.kind ≡ true → is_transfer n.kind ≡ true → n.uetr ≡ m.uetr
      → EndsBy 17 dir ticket room first second m n
  -- and a message of any kind its identifier: a second one with it fails by 6
  pub identifier-kept : (dir : List Participant) (ticket : Ticket) (room : List ℕ) (first second : Handed) (m n : Message)
      → OneAfterOther dir ticket room first second m n → n.id.stored ≡ m.id.stored → EndsBy 6 dir ticket room first second m n
  -- and so as long as the step stands in the journal, whatever came between: the checks on repeats fail
  pub uetr-stays : (s : List ℕ) (k : ℕ) → k < (head_of s).steps
      → (is_kind (kind_number Pacs008) (step_of s k) || is_kind (kind_number Camt050) (step_of s k)) ≡ true
      → (c : Case) → same_uetr (step_of s k).uetr c.message.uetr ≡ true → uetr_repeated c s ≡ true
  pub identifier-stays : (s : List ℕ) (k : ℕ) → k < (head_of s).steps → is_kind set_kind (step_of s k) ≡ false
      → (c : Case) → same_identifier (step_of s k).id c.message.id.stored ≡ true → identifier_repeated c s ≡ true
  -- a take-back restores all: money, turnover, old settings, free identifiers; the very numbers of the seat
  pub all-restored : (x : Step) (s : List ℕ) → Taken x s → backed (stepped x s) ≡ s
  -- LPO 0 is a limit, reported as 24 and never as 23; no LPO is no limit
  pub zero-shut : (a : Account) (amount : ℕ) → a.settings.lpo ≡ limit_number (Some 0)
      → (turnover_shut a ≡ true) × (turnover_above a amount ≡ false)
  pub none_free : (a : Account) (amount : ℕ) → a.settings.lpo ≡ limit_number None
      → (turnover_shut a ≡ false) × (turnover_above a amount ≡ false)
