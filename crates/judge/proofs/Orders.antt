-- The first failing check of an order, looked for one place after the other; and no check fails whose number is none of 1 to 37.
-- Assumes nothing.
use mathlib.Core.Path.{◌≡◌, refl}
use mathlib.Core.Bool.{Bool, true, false}
use mathlib.Core.List.{List}
use Prim.Native.Nat.{ℕ, zero, suc, ◌+◌, ◌≤◌, ◌<◌}
use native.Mathlib.Omega.{arith}
use native.Mathlib.Numerals.{add-one}
use lib.ListN.{length, get_or, drop, drop_of_length-le, get_or-eq_default}
use lib.Seq.{drop-cons}
use Rattle.table.specs.Checks.{checks_most}
use Rattle.judge.specs.declared.case.Case.{Case}
use Rattle.judge.specs.Verdict.{rows_of, fails, first_failing}

module _ (failing : ℕ → Bool) (order : List ℕ) (i k : ℕ) where
  pub hit : i < length order → k ≡ get_or order i 0 → failing k ≡ true → first_failing failing (drop i order) ≡ k
  unfolding first_failing
  hit h e t = rw (drop-cons order i 0 h, ← e, t)

  pub miss : i < length order → k ≡ get_or order i 0 → failing k ≡ false → first_failing failing (drop i order) ≡ first_failing failing (drop (i + 1) order)
  unfolding first_failing
  miss h e t = rw (add-one, drop-cons order i 0 h, ← e, t)

pub none : (failing : ℕ → Bool) (order : List ℕ) (i : ℕ) → length order ≤ i → first_failing failing (drop i order) ≡ 0
unfolding first_failing
none failing order i h = rw (drop_of_length-le order h)

-- k is none of 1 to n
abbrev pub NoneTo : ℕ → ℕ → Type 0
NoneTo zero k = Unit {0}
NoneTo (suc n) k = NoneTo n k × (k ≡ suc n → ⊥)

beyond : (n k : ℕ) → NoneTo n (suc k) → n ≤ k
beyond zero k h = omega arith
beyond (suc n) k h = let below : n ≤ k = beyond n k h.0 in let other : suc k ≡ suc n → ⊥ = h.1 in omega arith

pub outside : (c : Case) (s : List ℕ) (k : ℕ) → NoneTo checks_most k → fails c s k ≡ false
unfolding fails rows_of
outside c s zero h = refl
outside c s (suc k) h =
    let above : checks_most ≤ k = beyond checks_most k h in
    let past : suc checks_most ≤ suc k = omega arith in
    get_or-eq_default (rows_of c s) false {n = suc k} past
