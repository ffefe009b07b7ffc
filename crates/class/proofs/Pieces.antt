-- A text ends within itself; and of the values of an opening, those after the first are its sums.
-- Assumes nothing.
use mathlib.Core.Path.{◌≡◌, sym, ◌∙◌}
use mathlib.Core.List.{List, []}
use Prim.Native.Nat.{ℕ, ◌-◌, ◌≤◌, ◌<◌}
use native.Mathlib.Omega.{arith}
use lib.ListN.{length, take, drop, length-take, length-drop, drop_of_length-le}
use lib.Seq.{take_all, take-nil}
use Rattle.script.proofs.Runs.{text-within}

pub ruleset within = (text-within, length-take)

-- the sums after the first value: none, all, or as many as are counted
pub sums_none : (count : ℕ) (values : List ℕ) → count < 1 → [] ≡ take (count - 1) (drop 1 values)
sums_none count values h = let e : count - 1 ≡ 0 = omega arith in rw e

pub sums-empty : (count : ℕ) (values : List ℕ) → length values < 1 → [] ≡ take (count - 1) (drop 1 values)
sums-empty count values h =
    let l : length values ≤ 1 = omega arith in
    rw (drop_of_length-le values l) (sym (take-nil (count - 1)))

pub sums-all : (count : ℕ) (values : List ℕ) → length values < count → take (length values - 1) (drop 1 values) ≡ take (count - 1) (drop 1 values)
sums-all count values h =
    take_all (length values - 1) (drop 1 values) (omega (arith, length-drop 1 values))
    ∙ sym (take_all (count - 1) (drop 1 values) (omega (arith, length-drop 1 values)))
