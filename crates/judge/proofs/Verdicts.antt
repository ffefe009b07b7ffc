-- The check that a message fails by: it is one of the kind's order and fails, and where it is 0 none of the order fails, as 0 is in no order.
-- Assumes nothing.
use mathlib.Core.Path.{◌≡◌, refl, sym, subst, ◌∙◌}
use mathlib.Core.Bool.{Bool, true, false, ◌||◌, cond, false≢true}
use mathlib.Core.List.{List, [], ◌∷◌}
use Prim.Native.Nat.{ℕ}
use lib.Dec.{eqb}
use borrow.Author.Tests.{eqb-true, eq-eqb, ne_eqb}
use Rattle.shape.proofs.Tests.{or_cases, or_left, or_right}
use Rattle.table.specs.declared.Kind.{Kind}
use Rattle.table.specs.declared.Kind.TheVariants.{Pacs008, Camt050, Pacs028, Pacs002}
use Rattle.table.specs.Checks.{order_of, is_in, runs}
use Rattle.journal.specs.Results.{fails_by}
use Rattle.journal.proofs.ResultLaws.{fails-in-order}
use Rattle.judge.specs.declared.case.Case.{Case}
use Rattle.judge.specs.Verdict.{fails, first_failing, verdict}

-- 0 is in no order
zero-nowhere : (kind : Kind) → is_in 0 (order_of kind) ≡ false
unfolding order_of
zero-nowhere Pacs008 = refl
zero-nowhere Camt050 = refl
zero-nowhere Pacs028 = refl
zero-nowhere Pacs002 = refl

-- both are false where their disjunction is
pub or-neither : (t u : Bool) → (t || u) ≡ false → (t ≡ false) × (u ≡ false)
or-neither true u e = absurd (false≢true (sym e))
or-neither false u e = (refl, e)

-- where the first failing one of a list without 0 is 0, none fails
none-failing : (failing : ℕ → Bool) (order : List ℕ) → is_in 0 order ≡ false → first_failing failing order ≡ 0
    → (k : ℕ) → is_in k order ≡ true → failing k ≡ false
unfolding first_failing
none-failing failing [] without first k inside = absurd (false≢true inside)
none-failing failing (j ∷ order) without first k inside =
    go (failing j) refl first
    (λ (rest : first_failing failing order ≡ 0). none-failing failing order (or-neither (eqb 0 j) (is_in 0 order) without).1 rest k)
  where
    go : (t : Bool) → failing j ≡ t → cond t j (first_failing failing order) ≡ 0
        → (first_failing failing order ≡ 0 → is_in k order ≡ true → failing k ≡ false) → failing k ≡ false
    go true e nothing further =
        absurd (false≢true (sym (or-neither (eqb 0 j) (is_in 0 order) without).0 ∙ subst (λ (n : ℕ). eqb 0 n ≡ true) (sym nothing) refl))
    go false e rest further =
        or_cases (eqb k j) (is_in k order) inside
        (λ (same : eqb k j ≡ true). subst (λ (n : ℕ). failing n ≡ false) (sym (eqb-true k j same)) e)
        (further rest)

-- the first failing one, where it is not 0, is of the list and fails
first-fails : (failing : ℕ → Bool) (order : List ℕ) → (first_failing failing order ≡ 0 → ⊥)
    → (is_in (first_failing failing order) order ≡ true) × (failing (first_failing failing order) ≡ true)
unfolding first_failing
first-fails failing [] some = absurd (some refl)
first-fails failing (j ∷ order) some = go (failing j) refl some (first-fails failing order)
  where
    go : (t : Bool) → failing j ≡ t → (cond t j (first_failing failing order) ≡ 0 → ⊥)
        → ((first_failing failing order ≡ 0 → ⊥)
        → (is_in (first_failing failing order) order ≡ true) × (failing (first_failing failing order) ≡ true))
        → (is_in (cond t j (first_failing failing order)) (j ∷ order) ≡ true) × (failing (cond t j (first_failing failing order)) ≡ true)
    go true e here further = (or_left (eqb j j) (is_in j order) (eq-eqb j j refl), e)
    go false e there further =
        (or_right (eqb (first_failing failing order) j) (is_in (first_failing failing order) order) (further there).0, (further there).1)

-- a message that fails by none passes each check of its order
pub none-fails : (c : Case) (s : List ℕ) → verdict c s ≡ 0 → (k : ℕ) → runs c.message.kind k ≡ true → fails c s k ≡ false
unfolding verdict runs
none-fails c s e k r = none-failing (fails c s) (order_of c.message.kind) (zero-nowhere c.message.kind) e k r

-- a message that fails by a check fails by one of its order
pub verdict-fails : (c : Case) (s : List ℕ) → (verdict c s ≡ 0 → ⊥)
    → (runs c.message.kind (verdict c s) ≡ true) × (fails c s (verdict c s) ≡ true)
unfolding verdict runs
verdict-fails c s some = first-fails (fails c s) (order_of c.message.kind) some

-- and, but for checks 1 and 2, by one that a step can have failed by
pub verdict-stored : (c : Case) (s : List ℕ) → (verdict c s ≡ 0 → ⊥) → (verdict c s ≡ 1 → ⊥) → (verdict c s ≡ 2 → ⊥)
    → fails_by c.message.kind (verdict c s) ≡ true
verdict-stored c s some one two =
    sym (fails-in-order c.message.kind (verdict c s))
    ∙ rw ((verdict-fails c s some).0, ne_eqb (verdict c s) 1 one, ne_eqb (verdict c s) 2 two)
