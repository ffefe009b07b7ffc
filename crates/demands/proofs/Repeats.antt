-- A UETR and an identifier stay used as long as the step that brought them stands in the journal: the first of two submits stores them, whatever its
-- result is, so that the check on repeats fails for the second.
-- Assumes nothing.
use Rattle.std.specs.Prelude.{Ok}
use mathlib.Core.Path.{◌≡◌, refl, sym, ap, subst, ◌∙◌}
use mathlib.Core.Bool.{Bool, true, false, not, ◌||◌, false≢true}
use mathlib.Core.List.{List, [], ◌∷◌}
use Prim.Native.Nat.{ℕ, zero, suc, ◌<◌}
use native.Mathlib.Omega.{arith}
use lib.Dec.{eqb, lit<}
use lib.ListN.{take}
use borrow.Author.Tests.{eq-eqb, not-true}
use Rattle.shape.specs.declared.stored.Identifier.{Identifier}
use Rattle.shape.specs.declared.stored.Uetr.{Uetr}
use Rattle.shape.specs.Stored.{same_identifier, same_uetr}
use Rattle.shape.proofs.Tests.{and_left, and_right, at_place}
use Rattle.table.specs.declared.Kind.{Kind}
use Rattle.table.specs.declared.Kind.TheVariants.{Pacs008, Camt050, Pacs028, Pacs002}
use Rattle.slip.specs.Meaning.{kind_number}
use Rattle.message.specs.declared.Message.{Message}
use Rattle.message.specs.Message.{Answer}
use Rattle.message.specs.Received.{received_of}
use Rattle.message.proofs.Due.{due-received}
use Rattle.directory.specs.declared.Participant.{Participant}
use Rattle.layout.specs.declared.rows.Head.{Head}
use Rattle.layout.specs.declared.rows.Step.{Step}
use Rattle.layout.specs.Seat.{head_of, step_of, seat_of}
use Rattle.journal.specs.declared.traces.Trace.{Trace}
use Rattle.journal.specs.declared.traces.Trace.TheVariants as trace
use Rattle.journal.specs.Steps.{set_kind, is_kind}
use Rattle.journal.specs.Traces.{leaves, earliest, is_there}
use Rattle.journal.proofs.TraceLaws.{none-leaves}
use Rattle.judge.specs.declared.case.Case.{Case}
use Rattle.judge.specs.Case.{case_of}
use Rattle.judge.specs.Rows.{identifier_repeated, uetr_repeated}
use Rattle.judge.specs.Verdict.{fails, rows_of, verdict, step_made, step_by, judged_step}
use Rattle.judge.proofs.Possible.{no-set-kind}
use Rattle.centre.specs.declared.Ticket.{Ticket}
use Rattle.centre.specs.Submit.{verdict_on, not_taken, submit_told, submit_after}
use Rattle.demands.specs.Calls.{Call, submit, under, act_told, call_told}
use Rattle.demands.specs.Refusals.{none, table}
use Rattle.demands.specs.Messages.{Heard}
use Rattle.demands.specs.EasilyWrong.{is_transfer, Handed, OneAfterOther, EndsBy}
use Rattle.demands.proofs.Tables.{table_of, done_none}
use Rattle.demands.proofs.Heard.{Facts, facts}
use Rattle.demands.proofs.Taken.{head-after, step_after}
use Rattle.demands.proofs.Heeded.{judged}

-- a step of the journal leaves the trace, so a first one is there
found_in : (trace : Trace) (s : List ℕ) (k : ℕ) → k < (head_of s).steps → leaves trace s k (step_of s k) ≡ true → is_there (earliest trace s) ≡ true
found_in trace s k there e = go (is_there (earliest trace s)) refl
  where
    go : (t : Bool) → is_there (earliest trace s) ≡ t → t ≡ true
    go true f = refl
    go false f = absurd (false≢true (sym (none-leaves trace s f k there) ∙ e))

module _ (s : List ℕ) (k : ℕ) (there : k < (head_of s).steps) where
  pub uetr-found : (is_kind (kind_number Pacs008) (step_of s k) || is_kind (kind_number Camt050) (step_of s k)) ≡ true
      → (c : Case) → same_uetr (step_of s k).uetr c.message.uetr ≡ true → uetr_repeated c s ≡ true
  unfolding uetr_repeated leaves
  uetr-found kind c same = found_in (trace.Transfer c.message.uetr) s k there (rw (kind, same))

  pub identifier-found : is_kind set_kind (step_of s k) ≡ false
      → (c : Case) → same_identifier (step_of s k).id c.message.id.stored ≡ true → identifier_repeated c s ≡ true
  unfolding identifier_repeated leaves
  identifier-found kind c same = found_in (trace.Message c.message.id.stored) s k there (rw (kind, same))

-- the rows that are taken of a table that does not apply do not apply
taken_none : (n : ℕ) (rows : List (ℕ × Bool)) → none rows ≡ true → none (take n rows) ≡ true
taken_none zero rows e = refl
taken_none (suc n) [] e = refl
taken_none (suc n) (row ∷ rows) e =
    rw (and_left (not row.1) (none rows) e, taken_none n rows (and_right (not row.1) (none rows) e))

-- a submit that is done was heard, and its check is none of the first two
module _ (dir : List Participant) (ticket : Ticket) (sender today : ℕ) (sheet slip room : List ℕ)
    (done : (submit_told dir ticket sender today sheet slip room).number ≡ 0) where
  abbrev call : Call
  call = under ticket (submit sender today sheet slip)

  none-applies : none (table_of dir room call) ≡ true
  unfolding call_told act_told
  none-applies = done_none dir room call done

  was-heard : Facts dir ticket sender today sheet slip room
  was-heard = facts dir ticket sender today sheet slip room (taken_none 11 (table_of dir room call) none-applies)

  was-taken : not_taken (verdict_on (case_of dir sender today) (received_of sheet).answer (seat_of room ticket.seat)) ≡ false
  unfolding table
  was-taken =
      not-true (not_taken (verdict_on (case_of dir sender today) (received_of sheet).answer (seat_of room ticket.seat)))
      (at_place (λ row. not row.1) (table_of dir room call) (0, false) none-applies 11 (lit< tt))

-- the step of a transfer is one
transfer-kind : (kind : Kind) → is_transfer kind ≡ true
    → (eqb (kind_number kind) (kind_number Pacs008) || eqb (kind_number kind) (kind_number Camt050)) ≡ true
unfolding kind_number
transfer-kind Pacs008 e = refl
transfer-kind Camt050 e = refl
transfer-kind Pacs028 e = absurd (false≢true e)
transfer-kind Pacs002 e = absurd (false≢true e)

-- what is stored is the same as itself
same-uetr : (x y : Uetr) → y ≡ x → same_uetr x y ≡ true
unfolding same_uetr
same-uetr x y e = rw (e, eq-eqb x.high x.high refl, eq-eqb x.low x.low refl)

same-identifier : (x y : Identifier) → y ≡ x → same_identifier x y ≡ true
unfolding same_identifier
same-identifier x y e =
    rw (
      e,
      eq-eqb x.first x.first refl,
      eq-eqb x.second x.second refl,
      eq-eqb x.third x.third refl,
      eq-eqb x.fourth x.fourth refl,
      eq-eqb x.fifth x.fifth refl,
    )

-- the two submits
module _ (dir : List Participant) (ticket : Ticket) (room : List ℕ) (first second : Handed) (m n : Message)
    (both : OneAfterOther dir ticket room first second m n) where
  abbrev then : List ℕ
  then = submit_after dir ticket first.sender first.today first.sheet first.slip room

  abbrev seat_then : List ℕ
  seat_then = seat_of then ticket.seat

  abbrev count : ℕ
  count = (head_of (seat_of room ticket.seat)).steps

  first_good : (received_of first.sheet).answer ≡ Ok m
  first_good = due-received first.sheet (Ok m) both.first-is

  first-facts : Facts dir ticket first.sender first.today first.sheet first.slip room
  first-facts = was-heard dir ticket first.sender first.today first.sheet first.slip room both.first_done

  first_taken : not_taken (verdict (case_of dir first.sender first.today m) (seat_of room ticket.seat)) ≡ false
  unfolding verdict_on
  first_taken =
      ap (λ (a : Answer). not_taken (verdict_on (case_of dir first.sender first.today) a (seat_of room ticket.seat))) (sym first_good)
      ∙ was-taken dir ticket first.sender first.today first.sheet first.slip room both.first_done

  -- its step stands in the journal
  first-there : count < (head_of seat_then).steps
  first-there =
      let more : (head_of seat_then).steps ≡ suc count =
      ap (λ (h : Head). h.steps)
      (head-after dir ticket first.sender first.today first.sheet first.slip room first-facts m first_good first_taken) in
      omega arith

  first_step : step_of seat_then count ≡ judged_step (case_of dir first.sender first.today m) (seat_of room ticket.seat)
  first_step = step_after dir ticket first.sender first.today first.sheet first.slip room first-facts m first_good first_taken

  first_kind : (step_of seat_then count).kind ≡ kind_number m.kind
  unfolding judged_step step_by step_made case_of
  first_kind = ap (λ (x : Step). x.kind) first_step

  first-uetr : (step_of seat_then count).uetr ≡ m.uetr
  unfolding judged_step step_by step_made case_of
  first-uetr = ap (λ (x : Step). x.uetr) first_step

  first-identifier : (step_of seat_then count).id ≡ m.id.stored
  unfolding judged_step step_by step_made case_of
  first-identifier = ap (λ (x : Step). x.id) first_step

  -- the second is judged there
  second-good : (received_of second.sheet).answer ≡ Ok n
  second-good = due-received second.sheet (Ok n) both.second_is

  second-facts : Facts dir ticket second.sender second.today second.sheet second.slip then
  second-facts =
      facts dir ticket second.sender second.today second.sheet second.slip then
      (subst (λ (a : Answer). Heard dir ticket second.sender second.today second.sheet second.slip then a) (sym second-good) both.second-heard)

  abbrev second_case : Case
  second_case = case_of dir second.sender second.today n

  ends_by : (check : ℕ) → fails second_case seat_then check ≡ true → EndsBy check dir ticket room first second m n
  ends_by check fails-so before later split passed =
      (judged dir ticket second.sender second.today second.sheet second.slip then second-facts n second-good
      ).failed before check later split passed fails-so

  uetr-repeated : is_transfer m.kind ≡ true → n.uetr ≡ m.uetr → fails second_case seat_then 17 ≡ true
  unfolding fails rows_of case_of
  uetr-repeated transfers same =
      uetr-found seat_then count first-there (rw first_kind (transfer-kind m.kind transfers)) second_case
      (same-uetr (step_of seat_then count).uetr n.uetr (same ∙ sym first-uetr))

  identifier-repeated : n.id.stored ≡ m.id.stored → fails second_case seat_then 6 ≡ true
  unfolding fails rows_of case_of
  identifier-repeated same =
      identifier-found seat_then count first-there (rw first_kind (no-set-kind m.kind)) second_case
      (same-identifier (step_of seat_then count).id n.id.stored (same ∙ sym first-identifier))

  pub uetr-kept : is_transfer m.kind ≡ true → is_transfer n.kind ≡ true → n.uetr ≡ m.uetr → EndsBy 17 dir ticket room first second m n
  uetr-kept transfers other same = ends_by 17 (uetr-repeated transfers same)

  pub identifier-kept : n.id.stored ≡ m.id.stored → EndsBy 6 dir ticket room first second m n
  identifier-kept same = ends_by 6 (identifier-repeated same)
