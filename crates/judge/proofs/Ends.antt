-- What becomes of a message is what a row of its kind may hold: a transfer ends with 0 or with a check that it can fail by, and a pacs.028 with its
-- own check or with what has become of the payment that it asks after, which is a fit step of the journal.
-- Assumes nothing.
use Rattle.std.specs.Prelude.{Option, Some, None}
use mathlib.Core.Path.{◌≡◌, refl, sym, ap, subst, ◌∙◌}
use mathlib.Core.Bool.{Bool, true, false, ◌&&◌, ◌||◌, cond, false≢true}
use mathlib.Core.List.{List}
use Prim.Native.Nat.{ℕ, ◌≤◌}
use lib.Dec.{eqb}
use borrow.Author.Tests.{eqb-true, eqb-false, not-false}
use Rattle.shape.specs.Stored.{same_identifier}
use Rattle.shape.proofs.Tests.{and_left, and_right, or_left, or_right}
use Rattle.shape.specs.declared.stored.Identifier.{Identifier}
use Rattle.table.specs.declared.Kind.{Kind}
use Rattle.table.specs.declared.Kind.TheVariants.{Pacs008, Camt050, Pacs028, Pacs002}
use Rattle.table.specs.Checks.{order_of, runs}
use Rattle.slip.specs.declared.Status.{Status}
use Rattle.slip.specs.declared.Status.TheVariants.{Pdng, Accc, Waits}
use Rattle.slip.specs.Meaning.{steps, kind_number, status_number}
use Rattle.layout.specs.declared.rows.Step.{Step}
use Rattle.layout.specs.Seat.{head_of, step_of}
use Rattle.journal.specs.declared.results.Outcome.{Outcome}
use Rattle.journal.specs.declared.traces.Trace.TheVariants.{Payment, Waiting, Due}
use Rattle.journal.specs.declared.traces.Placed.{Placed}
use Rattle.journal.specs.Results.{fails_by, ends_as, sent_as, told_as, result_fits}
use Rattle.journal.specs.Answers.{waits, result_now}
use Rattle.journal.specs.Steps.{is_kind}
use Rattle.journal.specs.Traces.{waits_as, leaves, earliest, is_there, is_known, place_fits, placed}
use Rattle.journal.proofs.ResultLaws.{sent-fits, moved-fits, asked-fits, answer-fits}
use Rattle.journal.proofs.ToldLaws.{result-told, result-ended}
use Rattle.journal.proofs.TraceLaws.{earliest-leaves, none-leaves, earliest-place, earliest-within, known-there, known-none-waits}
use Rattle.seat.specs.Fit.{open_fits}
use Rattle.seat.proofs.Traces.{row_fits}
use Rattle.judge.specs.declared.case.Case.{Case}
use Rattle.judge.specs.Rows.{asked_after, due_to, original_unknown}
use Rattle.judge.specs.Verdict.{fails, rows_of, verdict, transferred, sent, told_of, answered, end_of, outcome, carried, awaits}
use Rattle.judge.proofs.Verdicts.{none-fails, verdict-stored}

-- a camt.050 or an answer that fails by no check ends with 0, one that fails by a check with that check
transferred-ends : (kind : Kind) (check : ℕ) → ((check ≡ 0 → ⊥) → fails_by kind check ≡ true)
    → ends_as kind (transferred check).status (transferred check).check ≡ true
unfolding ends_as transferred status_number
transferred-ends kind check shown = go (eqb check 0) refl
  where
    Ends : Outcome → Type 0
    Ends o = ends_as kind o.status o.check ≡ true

    go : (t : Bool) → eqb check 0 ≡ t → Ends (cond t (record { status = 1; check = 0 }) (record { status = 2; check = check }))
    go true e = refl
    go false e = shown (eqb-false check 0 e)

-- and a pacs.008 waits, or ends with that check
sent-ends : (check : ℕ) → ((check ≡ 0 → ⊥) → fails_by Pacs008 check ≡ true) → sent_as (sent check).status (sent check).check ≡ true
unfolding sent_as sent status_number
sent-ends check shown = go (eqb check 0) refl
  where
    Ends : Outcome → Type 0
    Ends o = sent_as o.status o.check ≡ true

    go : (t : Bool) → eqb check 0 ≡ t → Ends (cond t (record { status = 3; check = 0 }) (record { status = 2; check = check }))
    go true e = refl
    go false e = shown (eqb-false check 0 e)

-- a pacs.028 tells of its own check, or what has become of a payment
abbrev Told : Outcome → Type 0
Told o = told_as o.status o.check ≡ true

abbrev Asks : Outcome → Type 0
Asks o = (eqb o.status 0 && fails_by Pacs028 o.check || told_as o.status o.check) ≡ true

answered-asks : (check : ℕ) (told : Outcome) → ((check ≡ 0 → ⊥) → fails_by Pacs028 check ≡ true) → (check ≡ 0 → Told told)
    → Asks (answered check told)
unfolding answered status_number
answered-asks check told shown tells = go (eqb check 0) refl
  where
    go : (t : Bool) → eqb check 0 ≡ t → Asks (cond t told (record { status = 0; check = check }))
    go true e =
        or_right (eqb told.status 0 && fails_by Pacs028 told.check) (told_as told.status told.check) (tells (eqb-true check 0 e))
    go false e = or_left (fails_by Pacs028 check) (told_as 0 check) (shown (eqb-false check 0 e))

-- so a row of each kind may hold how its message ends
end_fits : (kind : Kind) (check : ℕ) (told : Outcome) → ((check ≡ 0 → ⊥) → fails_by kind check ≡ true)
    → (kind ≡ Pacs028 → check ≡ 0 → Told told)
    → result_fits (kind_number kind) (end_of kind check told).status (end_of kind check told).check ≡ true
unfolding kind_number end_of
end_fits Pacs008 check told shown tells =
    let o : Outcome = sent check in
    sent-fits 1 o.status o.check refl ∙ sent-ends check shown
end_fits Camt050 check told shown tells =
    let o : Outcome = transferred check in
    moved-fits 2 o.status o.check refl ∙ transferred-ends Camt050 check shown
end_fits Pacs028 check told shown tells =
    let o : Outcome = answered check told in
    asked-fits 3 o.status o.check refl ∙ answered-asks check told shown (tells refl)
end_fits Pacs002 check told shown tells =
    let o : Outcome = transferred check in
    answer-fits 4 o.status o.check refl ∙ transferred-ends Pacs002 check shown

-- the payment that a pacs.028 asks after is a fit step and a pacs.008, so once none waits what has become of it can be told
module _ (id : Identifier) (s : List ℕ) (fit : open_fits s ≡ true) (k : ℕ) (x : Step) (found : earliest (Payment id) s ≡ Some (placed k x)) where
  payment-kind : is_kind 1 (step_of s k) ≡ true
  unfolding leaves kind_number
  payment-kind =
      subst (λ (y : Step). is_kind 1 y ≡ true) (earliest-place (Payment id) s k x found).0
      (and_left (is_kind 1 x) (same_identifier x.id id) (earliest-leaves (Payment id) s k x found))

  payment-named : same_identifier (step_of s k).id id ≡ true
  unfolding leaves kind_number
  payment-named =
      subst (λ (y : Step). same_identifier y.id id ≡ true) (earliest-place (Payment id) s k x found).0
      (and_right (is_kind 1 x) (same_identifier x.id id) (earliest-leaves (Payment id) s k x found))

  payment-told : is_there (earliest (Waiting id) s) ≡ false → Told (result_now s k)
  unfolding leaves waits_as
  payment-told none =
      let low = (earliest-place (Payment id) s k x found).1 in
      let over : (same_identifier (step_of s k).id id && waits s k (step_of s k)) ≡ false = none-leaves (Waiting id) s none k low in
      result-told s k (row_fits s fit) low payment-kind (rw payment-named at over)

  payment-ended : eqb (result_now s k).status 0 ≡ false
  payment-ended = result-ended s k (row_fits s fit) (earliest-place (Payment id) s k x found).1 payment-kind

asked-told : (c : Case) (s : List ℕ) → open_fits s ≡ true → is_known c.message.original.stored s ≡ true → Told (told_of (asked_after c s) s)
unfolding asked_after is_there told_of
asked-told c s fit known = go (asked_after c s) refl (known-there id s known)
  where
    id : Identifier
    id = c.message.original.stored

    go : (y : Option Placed) → asked_after c s ≡ y → is_there y ≡ true → Told (told_of y s)
    go (Some e) found there = payment-told id s fit e.place e.step found (known-none-waits id s known)
    go None found there = absurd (false≢true there)

-- what is told of a payment is never PDNG with a check, which is how a pacs.028 ends that fails itself
pub told-apart : (c : Case) (s : List ℕ) → open_fits s ≡ true → (check : ℕ) → (check ≡ 0 → ⊥)
    → told_of (asked_after c s) s ≡ record { status = status_number Pdng; check = check } → ⊥
unfolding asked_after told_of status_number
told-apart c s fit check some e = go (asked_after c s) refl e
  where
    go : (y : Option Placed) → asked_after c s ≡ y → told_of y s ≡ record { status = status_number Pdng; check = check } → ⊥
    go (Some e) found same =
        false≢true (sym (payment-ended c.message.original.stored s fit e.place e.step found) ∙ ap (λ (o : Outcome). eqb o.status 0) same)
    go None found same = some (ap (λ (o : Outcome). o.check) (sym same))

-- what is asked after stands at a place that a journal has
pub asked-within : (c : Case) (s : List ℕ) → (head_of s).steps ≤ steps → place_fits (asked_after c s) ≡ true
unfolding asked_after
asked-within c s few = earliest-within (Payment c.message.original.stored) s few

pub due-within : (c : Case) (s : List ℕ) → (head_of s).steps ≤ steps → place_fits (due_to c s) ≡ true
unfolding due_to
due-within c s few = earliest-within (Due c.message.original.stored c.sender) s few

original-known : (c : Case) (s : List ℕ) → verdict c s ≡ 0 → c.message.kind ≡ Pacs028 → is_known c.message.original.stored s ≡ true
unfolding fails rows_of original_unknown runs order_of
original-known c s none same =
    not-false (is_known c.message.original.stored s)
    (none-fails c s none 10 (subst (λ (x : Kind). runs x 10 ≡ true) (sym same) refl))

-- what becomes of a message that passes the checks on its sender is what a row of its kind may hold
pub outcome_fits : (c : Case) (s : List ℕ) → open_fits s ≡ true → (verdict c s ≡ 1 → ⊥) → (verdict c s ≡ 2 → ⊥)
    → result_fits (kind_number c.message.kind) (outcome c s).status (outcome c s).check ≡ true
unfolding outcome
outcome_fits c s fit one two =
    end_fits c.message.kind (verdict c s) (told_of (asked_after c s) s)
    (λ (some : verdict c s ≡ 0 → ⊥). verdict-stored c s some one two)
    (λ (same : c.message.kind ≡ Pacs028). λ (none : verdict c s ≡ 0). asked-told c s fit (original-known c s none same))

-- money is moved only where no check fails, and a transfer waits only there
abbrev end_as : Status → ℕ → Bool → Outcome
end_as good check none = cond none (record { status = status_number good; check = 0 }) (record { status = 2; check = check })

good_none : (good : Status) (check : ℕ) → eqb 2 (status_number good) ≡ false → eqb (end_as good check (eqb check 0)).status (status_number good) ≡ true
    → check ≡ 0
good_none good check other e = go (eqb check 0) refl e
  where
    go : (t : Bool) → eqb check 0 ≡ t → eqb (end_as good check t).status (status_number good) ≡ true → check ≡ 0
    go true none accepted = eqb-true check 0 none
    go false none accepted = absurd (false≢true (sym other ∙ accepted))

carried-by : (kind : Kind) (check : ℕ) (told : Outcome) → carried kind (end_of kind check told) ≡ true → check ≡ 0
unfolding carried end_of transferred status_number
carried-by Pacs008 check told e = absurd (false≢true e)
carried-by Camt050 check told e = good_none Accc check refl e
carried-by Pacs028 check told e = absurd (false≢true e)
carried-by Pacs002 check told e = good_none Accc check refl e

waits-by : (kind : Kind) (check : ℕ) (told : Outcome) → awaits kind (end_of kind check told) ≡ true → check ≡ 0
unfolding awaits end_of sent status_number
waits-by Pacs008 check told e = good_none Waits check refl e
waits-by Camt050 check told e = absurd (false≢true e)
waits-by Pacs028 check told e = absurd (false≢true e)
waits-by Pacs002 check told e = absurd (false≢true e)

pub carried_none : (c : Case) (s : List ℕ) → carried c.message.kind (outcome c s) ≡ true → verdict c s ≡ 0
unfolding outcome
carried_none c s e = carried-by c.message.kind (verdict c s) (told_of (asked_after c s) s) e

pub waits-none : (c : Case) (s : List ℕ) → awaits c.message.kind (outcome c s) ≡ true → verdict c s ≡ 0
unfolding outcome
waits-none c s e = waits-by c.message.kind (verdict c s) (told_of (asked_after c s) s) e
