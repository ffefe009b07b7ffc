-- The check that a message fails by, read off the order of its kind: 0 exactly where every check of the order passes, else the one that fails after
-- checks that all pass. And what becomes of the message by that check.
-- Assumes nothing.
use mathlib.Core.Path.{◌≡◌, refl, sym, ap, ◌∙◌}
use mathlib.Core.Bool.{Bool, true, false, not, ◌&&◌, cond}
use mathlib.Core.List.{List, [], ◌∷◌, ◌++◌, map}
use Prim.Native.Nat.{ℕ, zero, suc, ◌≤◌, ◌<◌}
use native.Mathlib.Omega.{arith}
use borrow.Author.Tests.{ne_eqb}
use Rattle.shape.specs.Bytes.{every}
use Rattle.table.specs.declared.Kind.{Kind}
use Rattle.table.specs.declared.Kind.TheVariants.{Pacs008, Camt050, Pacs028, Pacs002}
use Rattle.table.specs.Checks.{order_of}
use Rattle.slip.specs.Meaning.{status_number}
use Rattle.judge.specs.declared.case.Case.{Case}
use Rattle.journal.specs.declared.results.Outcome.{Outcome}
use Rattle.judge.specs.Rows.{asked_after}
use Rattle.judge.specs.Verdict.{fails, rows_of, first_failing, verdict, transferred, sent, told_of, answered, end_of, outcome, carried, awaits}
use Rattle.centre.specs.Submit.{not_taken}
use Rattle.demands.specs.Refusals.{none, Exactly}
use Rattle.demands.specs.Messages.{accepted, waiting, failed_by}
use Rattle.demands.proofs.Firsts.{first_number, distinct, given-exactly, zero-exactly}

-- the checks of an order, each with whether it fails, are rows of a table: the first that fails is the number of the first row that applies
abbrev rows_by : (ℕ → Bool) → List ℕ → List (ℕ × Bool)
rows_by failing order = map (λ (k : ℕ). (k, failing k)) order

first-row : (failing : ℕ → Bool) (order : List ℕ) → first_failing failing order ≡ first_number (rows_by failing order)
unfolding first_failing
first-row failing [] = refl
first-row failing (k ∷ order) = ap (λ (n : ℕ). cond (failing k) k n) (first-row failing order)

rows_pass : (failing : ℕ → Bool) (order : List ℕ) → none (rows_by failing order) ≡ every (λ (k : ℕ). not (failing k)) order
rows_pass failing [] = refl
rows_pass failing (k ∷ order) = ap (λ (t : Bool). not (failing k) && t) (rows_pass failing order)

rows_split : (failing : ℕ → Bool) (before : List ℕ) (k : ℕ) (later : List ℕ)
    → rows_by failing (before ++ (k ∷ later)) ≡ rows_by failing before ++ ((k, failing k) ∷ rows_by failing later)
rows_split failing [] k later = refl
rows_split failing (j ∷ before) k later = ap (λ (rows : List (ℕ × Bool)). (j, failing j) ∷ rows) (rows_split failing before k later)

-- no check stands twice in an order, and none has the number 0
rows-distinct : (failing : ℕ → Bool) (kind : Kind) → distinct (rows_by failing (order_of kind)) ≡ true
unfolding order_of
rows-distinct failing Pacs008 = refl
rows-distinct failing Camt050 = refl
rows-distinct failing Pacs028 = refl
rows-distinct failing Pacs002 = refl

module _ (c : Case) (s : List ℕ) where
  abbrev order : List ℕ
  order = order_of c.message.kind

  abbrev rows : List (ℕ × Bool)
  rows = rows_by (fails c s) order

  by_rows : verdict c s ≡ first_number rows
  unfolding verdict
  by_rows = first-row (fails c s) order

  -- the verdict is 0 exactly where every check of the order passes
  pub verdict-none : Exactly (every (λ (k : ℕ). not (fails c s k)) order ≡ true) (verdict c s ≡ 0)
  verdict-none =
      let zero-rows = zero-exactly (verdict c s) rows (rows-distinct (fails c s) c.message.kind) by_rows in
      (λ e. zero-rows.1 (rows_pass (fails c s) order ∙ e), λ e. sym (rows_pass (fails c s) order) ∙ zero-rows.0 e)

  -- and a check of the order exactly where it fails and those before it pass
  pub verdict-first : (before : List ℕ) (k : ℕ) (later : List ℕ) → order ≡ before ++ (k ∷ later)
      → Exactly ((every (λ (j : ℕ). not (fails c s j)) before ≡ true) × (fails c s k ≡ true)) (verdict c s ≡ k)
  verdict-first before k later split =
      let one-row =
      given-exactly (verdict c s) rows (rows-distinct (fails c s) c.message.kind) by_rows
      (rows_by (fails c s) before) k (fails c s k) (rows_by (fails c s) later)
      (ap (rows_by (fails c s)) split ∙ rows_split (fails c s) before k later) in (
        λ h. one-row.1 (h.1, rows_pass (fails c s) before ∙ h.0),
        λ e. (sym (rows_pass (fails c s) before) ∙ (one-row.0 e).1, (one-row.0 e).0),
      )

  -- no check has the number 0
  pub zero-passes : fails c s 0 ≡ false
  unfolding fails rows_of
  zero-passes = refl

-- 1 and 2 are refusal 12, 0 and those above are not
pub low-not-taken : (k : ℕ) → k ≤ 2 → (k ≡ 0 → ⊥) → not_taken k ≡ true
unfolding not_taken
low-not-taken zero h n = absurd (n refl)
low-not-taken (suc zero) h n = refl
low-not-taken (suc (suc zero)) h n = refl
low-not-taken (suc (suc (suc k))) h n = absurd (omega arith)

pub none-taken : not_taken 0 ≡ false
unfolding not_taken
none-taken = refl

pub high_taken : (k : ℕ) → 2 < k → not_taken k ≡ false
unfolding not_taken
high_taken k h = rw (ne_eqb k 1 (λ (e : k ≡ 1). omega arith), ne_eqb k 2 (λ (e : k ≡ 2). omega arith))

-- how a message ends that passes every check: a camt.050 or an answer with ACCC and 0, a pacs.008 waits, a pacs.028 with what has become of the
-- payment that it asks after
abbrev pub passed_as : Kind → Case → List ℕ → Outcome
passed_as Pacs008 c s = waiting
passed_as Camt050 c s = accepted
passed_as Pacs028 c s = told_of (asked_after c s) s
passed_as Pacs002 c s = accepted

-- a message that passes every check, and one that fails by one
end-passed : (kind : Kind) (c : Case) (s : List ℕ) → end_of kind 0 (told_of (asked_after c s) s) ≡ passed_as kind c s
unfolding end_of transferred sent answered
end-passed Pacs008 c s = refl
end-passed Camt050 c s = refl
end-passed Pacs028 c s = refl
end-passed Pacs002 c s = refl

end-failed : (kind : Kind) (k : ℕ) → 2 < k → (c : Case) (s : List ℕ) → end_of kind k (told_of (asked_after c s) s) ≡ failed_by kind k
unfolding end_of transferred sent answered
end-failed Pacs008 k h c s = rw (ne_eqb k 0 (λ (e : k ≡ 0). omega arith))
end-failed Camt050 k h c s = rw (ne_eqb k 0 (λ (e : k ≡ 0). omega arith))
end-failed Pacs028 k h c s = rw (ne_eqb k 0 (λ (e : k ≡ 0). omega arith))
end-failed Pacs002 k h c s = rw (ne_eqb k 0 (λ (e : k ≡ 0). omega arith))

module _ (c : Case) (s : List ℕ) where
  pub outcome-passed : verdict c s ≡ 0 → outcome c s ≡ passed_as c.message.kind c s
  unfolding outcome
  outcome-passed e = rw e (end-passed c.message.kind c s)

  pub outcome-failed : (k : ℕ) → 2 < k → verdict c s ≡ k → outcome c s ≡ failed_by c.message.kind k
  unfolding outcome
  outcome-failed k h e = rw e (end-failed c.message.kind k h c s)

-- a message that fails by a check neither moves money nor waits, and neither does a pacs.028
abbrev pub Rests : Kind → Outcome → Type 0
Rests kind o = (carried kind o ≡ false) × (awaits kind o ≡ false)

pub failed-rests : (kind : Kind) (k : ℕ) → Rests kind (failed_by kind k)
unfolding carried awaits status_number
failed-rests Pacs008 k = (refl, refl)
failed-rests Camt050 k = (refl, refl)
failed-rests Pacs028 k = (refl, refl)
failed-rests Pacs002 k = (refl, refl)

pub asked-rests : (o : Outcome) → Rests Pacs028 o
unfolding carried awaits
asked-rests o = (refl, refl)
