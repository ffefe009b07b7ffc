-- Demand 2, put together: a message that is heard is carried out exactly where it passes every check, and otherwise answered by the first that fails.
-- Assumes nothing.
use Rattle.std.specs.Prelude.{Ok}
use mathlib.Core.Path.{◌≡◌, refl, sym, ap, subst, ◌∙◌}
use mathlib.Core.Bool.{Bool, true, false, not, false≢true}
use mathlib.Core.List.{List, ◌∷◌, ◌++◌}
use Prim.Native.Nat.{ℕ, ◌≤◌, ◌<◌}
use native.Mathlib.Omega.{arith}
use lib.Dec.{leb, eqb}
use borrow.Author.Tests.{eq-eqb, eqb-true, eqb-false, leb-true, leb-false}
use Rattle.shape.specs.Bytes.{every}
use Rattle.table.specs.declared.Kind.{Kind}
use Rattle.table.specs.declared.Kind.TheVariants.{Pacs008, Camt050, Pacs028, Pacs002}
use Rattle.table.specs.Checks.{order_of}
use Rattle.slip.specs.declared.Status.TheVariants.{Accc, Waits}
use Rattle.slip.specs.Meaning.{status_number}
use Rattle.message.specs.declared.Message.{Message}
use Rattle.message.specs.Message.{Answer}
use Rattle.message.specs.Received.{received_of}
use Rattle.message.specs.Due.{Due}
use Rattle.message.proofs.Due.{due-received}
use Rattle.directory.specs.declared.Participant.{Participant}
use Rattle.layout.specs.declared.rows.Step.{Step}
use Rattle.layout.specs.Seat.{head_of, step_of, seat_of}
use Rattle.journal.specs.declared.results.Outcome.{Outcome}
use Rattle.judge.specs.declared.case.Case.{Case}
use Rattle.judge.specs.Case.{case_of}
use Rattle.judge.specs.Rows.{due_to}
use Rattle.judge.specs.Verdict.{fails, verdict, outcome, carried, awaits, closed_by}
use Rattle.judge.proofs.Ends.{told-apart, carried_none, waits-none}
use Rattle.centre.specs.declared.Ticket.{Ticket}
use Rattle.centre.specs.Answers.{Told, refused_with}
use Rattle.centre.specs.Submit.{not_taken, submit_told, submit_after, submit_slip}
use Rattle.centre.proofs.Judged.{not-one, not-two}
use Rattle.demands.specs.Refusals.{Exactly}
use Rattle.demands.specs.Messages.{
  passed_status,
  accepted,
  waiting,
  failed_as,
  failed_by,
  no_move,
  answering,
  Heard,
  Recorded,
  Unmoved,
  CarriedOut,
  FailedBy,
  EndedBy,
  Judged,
  Heeded,
  Demand2,
}
use Rattle.demands.proofs.Decided.{
  verdict-none,
  verdict-first,
  zero-passes,
  low-not-taken,
  high_taken,
  passed_as,
  outcome-passed,
  outcome-failed,
  Rests,
  failed-rests,
}
use Rattle.demands.proofs.Heard.{Facts, facts, Read, read-good}
use Rattle.demands.proofs.Taken.{seat-open, not_taken_lem, place-free, told-done, stored-outcome}
use Rattle.demands.proofs.Money.{rested, passed-carried}
use Rattle.demands.proofs.Slips.{slips}

-- no kind passes with the status of an empty place
passed-some : (kind : Kind) → 0 ≡ status_number (passed_status kind) → ⊥
unfolding status_number
passed-some Pacs008 e = eqb-false 0 3 refl e
passed-some Camt050 e = eqb-false 0 1 refl e
passed-some Pacs028 e = eqb-false 0 1 refl e
passed-some Pacs002 e = eqb-false 0 1 refl e

-- a message of a kind that moves money or waits has passed, where it has the status of one that passes
status-passed : (kind : Kind) (c : Case) (s : List ℕ) → c.message.kind ≡ kind → (kind ≡ Pacs028 → ⊥)
    → (outcome c s).status ≡ status_number (passed_status kind) → verdict c s ≡ 0
unfolding carried awaits
status-passed Pacs008 c s same transfers e =
    waits-none c s (subst (λ (k : Kind). awaits k (outcome c s) ≡ true) (sym same) (eq-eqb (outcome c s).status (status_number Waits) e))
status-passed Camt050 c s same transfers e =
    carried_none c s (subst (λ (k : Kind). carried k (outcome c s) ≡ true) (sym same) (eq-eqb (outcome c s).status (status_number Accc) e))
status-passed Pacs028 c s same transfers e = absurd (transfers refl)
status-passed Pacs002 c s same transfers e =
    carried_none c s (subst (λ (k : Kind). carried k (outcome c s) ≡ true) (sym same) (eq-eqb (outcome c s).status (status_number Accc) e))

-- neither status is that of a failing message
accepted-apart : (k : ℕ) → accepted ≡ failed_by Camt050 k → ⊥
unfolding status_number
accepted-apart k e = eqb-false 1 2 refl (ap (λ (o : Outcome). o.status) e)

waiting-apart : (k : ℕ) → waiting ≡ failed_by Pacs008 k → ⊥
unfolding status_number
waiting-apart k e = eqb-false 3 2 refl (ap (λ (o : Outcome). o.status) e)

module _ (dir : List Participant) (ticket : Ticket) (sender today : ℕ) (sheet slip room : List ℕ)
    (f : Facts dir ticket sender today sheet slip room) (m : Message) (good : (received_of sheet).answer ≡ Ok m) where
  abbrev case : Case
  case = case_of dir sender today m

  abbrev place : List ℕ
  place = seat_of room ticket.seat

  -- it passes every check exactly where its verdict is 0
  passes-all : Exactly (every (λ (k : ℕ). not (fails case place k)) (order_of m.kind) ≡ true) (verdict case place ≡ 0)
  unfolding case_of
  passes-all = verdict-none case place

  -- and check k is the first that it fails by exactly where that is its verdict
  fails-first : (before : List ℕ) (k : ℕ) (later : List ℕ) → order_of m.kind ≡ before ++ (k ∷ later)
      → Exactly ((every (λ (j : ℕ). not (fails case place j)) before ≡ true) × (fails case place k ≡ true)) (verdict case place ≡ k)
  unfolding case_of
  fails-first before k later split = verdict-first case place before k later split

  ends-passed : verdict case place ≡ 0 → outcome case place ≡ passed_as m.kind case place
  unfolding case_of
  ends-passed none = outcome-passed case place none

  ends-failed : (k : ℕ) → 2 < k → verdict case place ≡ k → outcome case place ≡ failed_by m.kind k
  unfolding case_of
  ends-failed k high first = outcome-failed case place k high first

  -- one that passes does not end as one that fails
  apart : (kind : Kind) (k : ℕ) → 2 < k → passed_as kind case place ≡ failed_by kind k → ⊥
  apart Pacs008 k high e = waiting-apart k e
  apart Camt050 k high e = accepted-apart k e
  apart Pacs028 k high e =
      told-apart case place (seat-open dir ticket sender today sheet slip room f m good) k (λ (z : k ≡ 0). omega arith) e
  apart Pacs002 k high e = accepted-apart k e

  -- what stands in its place in the journal
  abbrev stored : Step
  stored = step_of (seat_of (submit_after dir ticket sender today sheet slip room) ticket.seat) (head_of place).steps

  stored-status : not_taken (verdict case place) ≡ false → stored.status ≡ (outcome case place).status
  stored-status takes = ap (λ (o : Outcome). o.status) (stored-outcome dir ticket sender today sheet slip room f m good takes)

  -- a message that has the status of one that passes, passed
  has-passed : (m.kind ≡ Pacs028 → ⊥) → stored.status ≡ status_number (passed_status m.kind) → verdict case place ≡ 0
  unfolding case_of
  has-passed transfers e = go (not_taken (verdict case place)) refl
    where
      go : (t : Bool) → not_taken (verdict case place) ≡ t → verdict case place ≡ 0
      go true refuses =
          absurd (passed-some m.kind (ap (λ (x : Step). x.status) (sym (place-free dir ticket sender today sheet slip room f m good refuses)) ∙ e))
      go false takes = status-passed m.kind case place refl transfers (sym (stored-status takes) ∙ e)

  -- and one that passed has it
  has-accepted : (kind : Kind) → (kind ≡ Pacs028 → ⊥) → CarriedOut dir ticket sender today sheet slip room kind m
      → stored.status ≡ status_number (passed_status kind)
  has-accepted Pacs008 transfers out = ap (λ (x : Step). x.status) out.recorded.stored
  has-accepted Camt050 transfers out = ap (λ (x : Step). x.status) out.recorded.stored
  has-accepted Pacs028 transfers out = absurd (transfers refl)
  has-accepted Pacs002 transfers out = ap (λ (x : Step). x.status) out.recorded.stored

  -- no check has the number 0
  not-zero : (k : ℕ) → fails case place k ≡ true → k ≡ 0 → ⊥
  not-zero k t z = false≢true (sym (zero-passes case place) ∙ subst (λ (n : ℕ). fails case place n ≡ true) z t)

  -- check k is the first that it fails by
  module _ (k : ℕ) (first : verdict case place ≡ k) where
    refused-low : fails case place k ≡ true → k ≤ 2
        → (submit_told dir ticket sender today sheet slip room ≡ refused_with 12 k)
        × (submit_after dir ticket sender today sheet slip room ≡ room)
        × (submit_slip dir ticket sender today sheet slip room ≡ slip)
    refused-low t low =
        let nothing =
        not_taken_lem dir ticket sender today sheet slip room f m good (ap not_taken first ∙ low-not-taken k low (not-zero k t)) in
        (nothing.0 ∙ ap (refused_with 12) first, nothing.1, nothing.2)

    failed-high : 2 < k
        → Recorded dir ticket sender today sheet slip room m (failed_by m.kind k) (answering no_move (closed_by m.kind k (due_to case place)))
        × Unmoved dir ticket sender today sheet slip room
    failed-high high =
        let ended = ends-failed k high first in
        let still =
        rested dir ticket sender today sheet slip room f m good (ap not_taken first ∙ high_taken k high) (failed_by m.kind k) ended
        (subst (λ (o : Outcome). Rests m.kind o) (sym ended) (failed-rests m.kind k)) in (
          subst
              (λ (n : ℕ).
              Recorded dir ticket sender today sheet slip room m (failed_by m.kind k) (answering no_move (closed_by m.kind n (due_to case place))))
              first still.0,
          still.1,
        )

  -- ended by check k, it is the first that fails
  refused-first : (k : ℕ) → submit_told dir ticket sender today sheet slip room ≡ refused_with 12 k → verdict case place ≡ k
  refused-first k e = go (not_taken (verdict case place)) refl
    where
      go : (t : Bool) → not_taken (verdict case place) ≡ t → verdict case place ≡ k
      go true refuses =
          ap (λ (t : Told). t.detail) (sym (not_taken_lem dir ticket sender today sheet slip room f m good refuses).0 ∙ e)
      go false takes =
          let twelve : ◌≡◌ {A = ℕ} 0 12 =
          ap (λ (t : Told). t.number) (sym (told-done dir ticket sender today sheet slip room f m good takes) ∙ e) in
          absurd (omega arith)

  outcome-first : not_taken (verdict case place) ≡ false → (k : ℕ) → 2 < k → outcome case place ≡ failed_by m.kind k → verdict case place ≡ k
  outcome-first takes k high ended = go (eqb (verdict case place) 0) refl
    where
      go : (t : Bool) → eqb (verdict case place) 0 ≡ t → verdict case place ≡ k
      go true e = absurd (apart m.kind k high (sym (ends-passed (eqb-true (verdict case place) 0 e)) ∙ ended))
      go false e =
          let some : verdict case place ≡ 0 → ⊥ = eqb-false (verdict case place) 0 e in
          let later : 2 < verdict case place = omega (arith, some, not-one (verdict case place) takes, not-two (verdict case place) takes) in
          ap (λ (o : Outcome). o.check) (sym (ends-failed (verdict case place) later refl) ∙ ended)

  stored-first : (k : ℕ) → 2 < k → stored.status ≡ status_number (failed_as m.kind) → stored.check ≡ k → verdict case place ≡ k
  stored-first k high status check = go (not_taken (verdict case place)) refl
    where
      go : (t : Bool) → not_taken (verdict case place) ≡ t → verdict case place ≡ k
      go true refuses =
          let none : 0 ≡ k = ap (λ (x : Step). x.check) (sym (place-free dir ticket sender today sheet slip room f m good refuses)) ∙ check in
          absurd (omega arith)
      go false takes =
          let both : record { status = stored.status; check = stored.check } ≡ failed_by m.kind k = rw (status, check) in
          outcome-first takes k high (sym (stored-outcome dir ticket sender today sheet slip room f m good takes) ∙ both)

  ended-first : (k : ℕ) → EndedBy dir ticket sender today sheet slip room m k → verdict case place ≡ k
  ended-first k ended = go (leb k 2) refl
    where
      go : (t : Bool) → leb k 2 ≡ t → verdict case place ≡ k
      go true e = refused-first k (ended.refused (leb-true k 2 e))
      go false e =
          let high : 2 < k = leb-false k 2 e in
          stored-first k high (ended.stored high).0 (ended.stored high).1

  -- and the other way: what it shows is a part of how it ended
  shows-end : (k : ℕ) → FailedBy dir ticket sender today sheet slip room m k → EndedBy dir ticket sender today sheet slip room m k
  shows-end k failed = record {
    refused = λ low. (failed.refuses low).0;
    stored = λ high.
        let step = (failed.records high).0.stored in
        (ap (λ (x : Step). x.status) step, ap (λ (x : Step). x.check) step);
  }

  fails-so : (k : ℕ) → verdict case place ≡ k → fails case place k ≡ true → FailedBy dir ticket sender today sheet slip room m k
  fails-so k first t = record { refuses = refused-low k first t; records = failed-high k first }

  carried-so : every (λ (k : ℕ). not (fails case place k)) (order_of m.kind) ≡ true → CarriedOut dir ticket sender today sheet slip room m.kind m
  carried-so e = passed-carried dir ticket sender today sheet slip room f m good (passes-all.0 e)

  pub judged : Judged dir ticket sender today sheet slip room m
  judged = record {
    carried = carried-so;
    failed = λ before k later split e t. fails-so k ((fails-first before k later split).0 (e, t)) t;
    accepts = λ transfers. (λ e. passes-all.1 (has-passed transfers e), λ e. has-accepted m.kind transfers (carried-so e));
    ends = λ before k later split. (
      λ ended. (fails-first before k later split).1 (ended-first k ended),
      λ h. shows-end k (fails-so k ((fails-first before k later split).0 h) h.1),
    );
  }

-- of what a sheet is received as, and so of what it is due
heeded-received : (dir : List Participant) (ticket : Ticket) (sender today : ℕ) (sheet slip room : List ℕ)
    → Heard dir ticket sender today sheet slip room (received_of sheet).answer
    → Heeded dir ticket sender today sheet slip room (received_of sheet).answer
heeded-received dir ticket sender today sheet slip room heard =
    let f : Facts dir ticket sender today sheet slip room = facts dir ticket sender today sheet slip room heard in
    let read : Read (received_of sheet).answer = read-good (received_of sheet).answer f.formed f.filled in
    record {
      message = read.message;
      good = read.good;
      judged = judged dir ticket sender today sheet slip room f read.message read.good;
    }

heeded : (dir : List Participant) (ticket : Ticket) (sender today : ℕ) (sheet slip room : List ℕ) (received : Answer) → Due sheet received
    → Heard dir ticket sender today sheet slip room received → Heeded dir ticket sender today sheet slip room received
heeded dir ticket sender today sheet slip room received due =
    subst (λ (a : Answer). Heard dir ticket sender today sheet slip room a → Heeded dir ticket sender today sheet slip room a)
    (due-received sheet received due) (heeded-received dir ticket sender today sheet slip room)

pub demand2 : Demand2
demand2 = (heeded, slips)
