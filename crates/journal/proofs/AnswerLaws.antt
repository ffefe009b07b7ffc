-- The search for the answer to a step: its beginning, one turn and its end; and what is found stands in the journal and names the step.
-- Assumes nothing.
use Rattle.std.specs.Prelude.{ℕ, Option, Some, None, unwrap_or}
use mathlib.Core.Path.{◌≡◌, refl, sym, ap, subst, ◌∙◌}
use mathlib.Core.Bool.{Bool, true, false, not, cond}
use mathlib.Core.List.{List}
use Prim.Native.Nat.{ℕ, zero, suc, ◌+◌, ◌-◌, ◌≤◌, ◌<◌}
use native.Mathlib.Numerals.{add-one}
use native.Mathlib.Omega.{arith}
use lib.Dec.{eqb}
use borrow.Author.Tests.{eq-eqb, ne_eqb, eqb-true}
use Rattle.shape.proofs.Tests.{and_left}
use Rattle.slip.specs.Meaning.{steps}
use Rattle.layout.specs.declared.rows.Head.{Head}
use Rattle.layout.specs.declared.rows.Step.{Step}
use Rattle.layout.specs.Seat.{head_of, step_of}
use Rattle.journal.specs.Steps.{is_waiting}
use Rattle.journal.specs.Answers.{answer_from, answer_to, is_answered, waits, row_result, result_in, result_now}

pub answer-begin : (s : List ℕ) (k : ℕ) (h : Head) → h ≡ head_of s → answer_to s k ≡ answer_from s (k + 1) 0 (h.steps - 0)
unfolding answer_to
answer-begin s k h read =
    let same : (head_of s).steps ≡ h.steps - 0 = omega (arith, ap (λ (g : Head). g.steps) read) in
    ap (answer_from s (suc k) 0) same ∙ ap (λ (n : ℕ). answer_from s n 0 (h.steps - 0)) (sym (add-one k))

module _ (s : List ℕ) (number j n : ℕ) (here : j < n) where
  answer-turn : answer_from s number j (n - j) ≡ cond (eqb (step_of s j).answers number) (Some j) (answer_from s number (j + 1) (n - (j + 1)))
  unfolding answer_from
  answer-turn =
      let one : n - j ≡ suc (n - (j + 1)) = omega arith in
      rw one
      (ap (λ (i : ℕ). cond (eqb (step_of s j).answers number) (Some j) (answer_from s number i (n - (j + 1)))) (sym (add-one j)))

  pub answer-hit : (step_of s j).answers ≡ number → answer_from s number j (n - j) ≡ Some j
  answer-hit e = answer-turn ∙ rw (eq-eqb (step_of s j).answers number e)

  pub answer-miss : ((step_of s j).answers ≡ number → ⊥) → answer_from s number j (n - j) ≡ answer_from s number (j + 1) (n - (j + 1))
  answer-miss e = answer-turn ∙ rw (ne_eqb (step_of s j).answers number e)

pub answer-end : (s : List ℕ) (number j n : ℕ) → n ≤ j → answer_from s number j (n - j) ≡ None
unfolding answer_from
answer-end s number j n h = let nothing : n - j ≡ 0 = omega arith in rw nothing

-- what is found is the place at hand, or is found after it
found-cases : (P : ℕ → Type 0) (t : Bool) (i : ℕ) (rest : Option ℕ) (j : ℕ) → (t ≡ true → P i) → (rest ≡ Some j → P j) → cond t (Some i) rest ≡ Some j → P j
found-cases P true i rest j here after e = let place : i ≡ j = cc in subst P place (here refl)
found-cases P false i rest j here after e = after e

nothing-found : (j : ℕ) → None ≡ Some j → ⊥
nothing-found j e = let z : ◌≡◌ {A = ℕ} 0 1 = cc in omega arith

from_place : (s : List ℕ) (number i n j : ℕ) → answer_from s number i n ≡ Some j → ((step_of s j).answers ≡ number) × (j < i + n)
unfolding answer_from
from_place s number i zero j e = absurd (nothing-found j e)
from_place s number i (suc n) j e =
    found-cases (λ (p : ℕ). ((step_of s p).answers ≡ number) × (p < i + suc n)) (eqb (step_of s i).answers number) i (answer_from s number (suc i) n) j
    (λ (h : eqb (step_of s i).answers number ≡ true). (eqb-true (step_of s i).answers number h, omega arith))
    (λ (rest : answer_from s number (suc i) n ≡ Some j).
    let there = from_place s number (suc i) n j rest in
    (there.0, omega (arith, there.1)))
    e

-- the answer that is found names the step, and is one of the journal's
pub answer-place : (s : List ℕ) (k j : ℕ) → answer_to s k ≡ Some j → ((step_of s j).answers ≡ suc k) × (j < (head_of s).steps)
unfolding answer_to
answer-place s k j e =
    let there = from_place s (suc k) 0 (head_of s).steps j e in
    (there.0, omega (arith, there.1))

-- where a step waits, its row says so
pub waits-row : (s : List ℕ) (k : ℕ) (x : Step) → waits s k x ≡ true → is_waiting x ≡ true
unfolding waits
waits-row s k x e = and_left (is_waiting x) (not (is_answered (answer_to s k))) e

-- the step that is answered has a place
pub answered-below : (x : Step) (s : List ℕ) (h : Head) → h ≡ head_of s → (head_of s).steps ≤ steps → x.answers ≤ h.steps → x.answers - 1 < steps
answered-below x s h read few early =
    let count : h.steps ≡ (head_of s).steps = ap (λ (g : Head). g.steps) read in
    omega (arith, count)

-- the row that tells what has become of a step: that of its answer, else its own
module _ (s : List ℕ) (k : ℕ) where
  pub told-within : (head_of s).steps ≤ steps → k < steps → unwrap_or (answer_to s k) k < steps
  told-within few here = go (answer_to s k) refl
    where
      go : (found : Option ℕ) → answer_to s k ≡ found → unwrap_or found k < steps
      go (Some j) e = omega (arith, (answer-place s k j e).1)
      go None e = here

  pub told-there : row_result s (unwrap_or (answer_to s k) k) ≡ result_now s k
  unfolding result_now result_in
  told-there = go (answer_to s k)
    where
      go : (found : Option ℕ) → row_result s (unwrap_or found k) ≡ result_in s k found
      go (Some j) = refl
      go None = refl

pub ruleset loop_of_answer_to = (answer-begin, answer-hit, answer-miss, answer-end)
