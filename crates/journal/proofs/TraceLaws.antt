-- What is found in a journal: it is the step at its place, leaves the trace that was looked for, and fits where each step there does. One turn of the
-- loop that looks leaves what is found as it was, with one step less to go.
-- Assumes nothing.
use Rattle.std.specs.Prelude.{Option, Some, None}
use mathlib.Core.Path.{◌≡◌, refl, sym, ap, subst, ◌∙◌}
use mathlib.Core.Logic.{⊎_elim}
use mathlib.Core.Bool.{Bool, true, false, not, cond, false≢true}
use mathlib.Core.List.{List, [], ◌∷◌}
use Prim.Native.Nat.{ℕ, zero, suc, ◌+◌, ◌-◌, ◌≤◌, ◌<◌}
use native.Mathlib.Numerals.{add-one}
use native.Mathlib.Omega.{arith}
use native.Mathlib.Nat.{eq-or-lt_of_le}
use borrow.Author.Tests.{lt-ltb, not-true}
use Rattle.shape.specs.Bytes.{every}
use Rattle.shape.specs.declared.stored.Identifier.{Identifier}
use Rattle.shape.proofs.Tests.{and_left, and_right}
use Rattle.slip.specs.Meaning.{steps}
use Rattle.layout.specs.declared.rows.Head.{Head}
use Rattle.layout.specs.declared.rows.Step.{Step}
use Rattle.layout.specs.Seat.{head_of, step_of}
use Rattle.journal.specs.declared.traces.Trace.{Trace}
use Rattle.journal.specs.declared.traces.Trace.TheVariants.{Payment, Waiting}
use Rattle.journal.specs.declared.traces.Placed.{Placed}
use Rattle.journal.specs.Steps.{step_fits}
use Rattle.journal.specs.Working.{steps_from, journal_of}
use Rattle.journal.specs.Traces.{leaves, first_in, earliest, is_there, is_known, place_fits, placed}
use Rattle.journal.proofs.WorkedLaws.{steps-left}

-- what is found is the step at hand, or is found after it
found-cases : (P : ℕ → Step → Type 0) (t : Bool) (j : ℕ) (y : Step) (rest : Option Placed) (k : ℕ) (x : Step) → (t ≡ true → P j y)
    → (rest ≡ Some (placed k x) → P k x) → cond t (Some (placed j y)) rest ≡ Some (placed k x) → P k x
found-cases P true j y rest k x here after e =
    let found : placed j y ≡ placed k x = cc in
    let place : j ≡ k = ap (λ (p : Placed). p.place) found in
    let same : y ≡ x = ap (λ (p : Placed). p.step) found in
    subst (λ (i : ℕ). P i x) place (subst (P j) same (here refl))
found-cases P false j y rest k x here after e = after e

nothing-found : (k : ℕ) (x : Step) → None ≡ Some (placed k x) → ⊥
nothing-found k x e = let z : ◌≡◌ {A = ℕ} 0 1 = cc in omega arith

first_passes : (test : ℕ → Step → Bool) (j : ℕ) (xs : List Step) (k : ℕ) (x : Step) → first_in test j xs ≡ Some (placed k x) → test k x ≡ true
unfolding first_in
first_passes test j [] k x e = absurd (nothing-found k x e)
first_passes test j (y ∷ xs) k x e =
    found-cases (λ (i : ℕ) (z : Step). test i z ≡ true) (test j y) j y (first_in test (suc j) xs) k x
    (λ (h : test j y ≡ true). h) (first_passes test (suc j) xs k x) e

pub first_fits : (test : ℕ → Step → Bool) (j : ℕ) (xs : List Step) (k : ℕ) (x : Step) → every step_fits xs ≡ true → first_in test j xs ≡ Some (placed k x)
    → step_fits x ≡ true
unfolding first_in
first_fits test j [] k x f e = absurd (nothing-found k x e)
first_fits test j (y ∷ xs) k x f e =
    found-cases (λ (i : ℕ) (z : Step). step_fits z ≡ true) (test j y) j y (first_in test (suc j) xs) k x
    (λ (h : test j y ≡ true). and_left (step_fits y) (every step_fits xs) f)
    (first_fits test (suc j) xs k x (and_right (step_fits y) (every step_fits xs) f)) e

-- among n steps of a seat from the j-th on, what is found is the step that stands at its place
first-place : (test : ℕ → Step → Bool) (s : List ℕ) (j n k : ℕ) (x : Step) → first_in test j (steps_from s j n) ≡ Some (placed k x)
    → (x ≡ step_of s k) × (k < j + n)
unfolding first_in steps_from
first-place test s j zero k x e = absurd (nothing-found k x e)
first-place test s j (suc n) k x e =
    found-cases (λ (i : ℕ) (z : Step). (z ≡ step_of s i) × (i < j + suc n)) (test j (step_of s j)) j (step_of s j)
    (first_in test (suc j) (steps_from s (suc j) n)) k x
    (λ (h : test j (step_of s j) ≡ true). (refl, omega arith))
    (λ (rest : first_in test (suc j) (steps_from s (suc j) n) ≡ Some (placed k x)).
    let there = first-place test s (suc j) n k x rest in
    (there.0, omega (arith, there.1)))
    e

pub earliest-leaves : (trace : Trace) (s : List ℕ) (k : ℕ) (x : Step) → earliest trace s ≡ Some (placed k x) → leaves trace s k x ≡ true
unfolding earliest
earliest-leaves trace s k x e = first_passes (leaves trace s) 0 (journal_of s) k x e

-- where nothing is found, no step of the journal leaves the trace
first-none : (test : ℕ → Step → Bool) (s : List ℕ) (j n : ℕ) → is_there (first_in test j (steps_from s j n)) ≡ false
    → (k : ℕ) → j ≤ k → k < j + n → test k (step_of s k) ≡ false
unfolding first_in steps_from is_there
first-none test s j zero e k a b = absurd (omega arith)
first-none test s j (suc n) e k a b =
    go (test j (step_of s j)) refl e
    (λ (there : is_there (first_in test (suc j) (steps_from s (suc j) n)) ≡ false). λ (l : j < k). first-none test s (suc j) n there k l (omega arith))
  where
    go : (t : Bool) → test j (step_of s j) ≡ t → is_there (cond t (Some (placed j (step_of s j))) (first_in test (suc j) (steps_from s (suc j) n))) ≡ false
        → (is_there (first_in test (suc j) (steps_from s (suc j) n)) ≡ false → j < k → test k (step_of s k) ≡ false)
        → test k (step_of s k) ≡ false
    go true h there further = absurd (false≢true (sym there))
    go false h there further =
        ⊎_elim (λ (p : j ≡ k). subst (λ (i : ℕ). test i (step_of s i) ≡ false) p h) (further there) (eq-or-lt_of_le a)

pub none-leaves : (trace : Trace) (s : List ℕ) → is_there (earliest trace s) ≡ false → (k : ℕ) → k < (head_of s).steps
    → leaves trace s k (step_of s k) ≡ false
unfolding earliest journal_of
none-leaves trace s e k h = first-none (leaves trace s) s 0 (head_of s).steps e k (omega arith) (omega arith)

-- what is found in a journal stands at its place there
pub earliest-place : (trace : Trace) (s : List ℕ) (k : ℕ) (x : Step) → earliest trace s ≡ Some (placed k x) → (x ≡ step_of s k) × (k < (head_of s).steps)
unfolding earliest journal_of
earliest-place trace s k x e =
    let there = first-place (leaves trace s) s 0 (head_of s).steps k x e in
    (there.0, omega (arith, there.1))

pub earliest-within : (trace : Trace) (s : List ℕ) → (head_of s).steps ≤ steps → place_fits (earliest trace s) ≡ true
earliest-within trace s few = go (earliest trace s) refl
  where
    go : (y : Option Placed) → earliest trace s ≡ y → place_fits y ≡ true
    go (Some y) e = lt-ltb y.place steps (omega (arith, (earliest-place trace s y.place y.step e).1))
    go None e = refl

-- where it is known what became of a pacs.008, there is a first one, and none waits
pub known-there : (id : Identifier) (s : List ℕ) → is_known id s ≡ true → is_there (earliest (Payment id) s) ≡ true
unfolding is_known
known-there id s e = and_left (is_there (earliest (Payment id) s)) (not (is_there (earliest (Waiting id) s))) e

pub known-none-waits : (id : Identifier) (s : List ℕ) → is_known id s ≡ true → is_there (earliest (Waiting id) s) ≡ false
unfolding is_known
known-none-waits id s e =
    not-true (is_there (earliest (Waiting id) s)) (and_right (is_there (earliest (Payment id) s)) (not (is_there (earliest (Waiting id) s))) e)

-- the loop that looks: at its start, one turn, and at its end
pub look-begin : (trace : Trace) (s : List ℕ) (h : Head) → h ≡ head_of s → earliest trace s ≡ first_in (leaves trace s) 0 (steps_from s 0 (h.steps - 0))
unfolding earliest journal_of
look-begin trace s h read =
    let same : h.steps ≡ (head_of s).steps = ap (λ (g : Head). g.steps) read in
    ap (λ (n : ℕ). first_in (leaves trace s) 0 (steps_from s 0 n)) (omega (arith, same))

module _ (trace : Trace) (s : List ℕ) (x : Step) (k n : ℕ) (here : k < n) (read : x ≡ step_of s k) where
  abbrev further : ℕ → Option Placed
  further j = first_in (leaves trace s) j (steps_from s (k + 1) (n - (k + 1)))

  look-turn : first_in (leaves trace s) k (steps_from s k (n - k)) ≡ cond (leaves trace s k x) (Some (placed k x)) (further (k + 1))
  unfolding first_in
  look-turn =
      rw (steps-left s k n here, read) (ap (λ (j : ℕ). cond (leaves trace s k (step_of s k)) (Some (placed k (step_of s k))) (further j)) (sym (add-one k)))

  pub look_hit : leaves trace s k x ≡ true → first_in (leaves trace s) k (steps_from s k (n - k)) ≡ Some (placed k x)
  look_hit e = look-turn ∙ rw e

  pub look-miss : leaves trace s k x ≡ false
      → first_in (leaves trace s) k (steps_from s k (n - k)) ≡ first_in (leaves trace s) (k + 1) (steps_from s (k + 1) (n - (k + 1)))
  look-miss e = look-turn ∙ rw e

pub look-end : (trace : Trace) (s : List ℕ) (k n : ℕ) → n ≤ k → first_in (leaves trace s) k (steps_from s k (n - k)) ≡ None
unfolding first_in steps_from
look-end trace s k n h =
    let nothing : n - k ≡ 0 = omega arith in
    rw nothing

pub ruleset loop_of_earliest = (look-begin, look_hit, look-miss, look-end)
