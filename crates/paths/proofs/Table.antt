-- The rules of the tree's two tables. A test that computes looks at a whole table, and a law carries it to each entry.
-- Assumes nothing.
use mathlib.Core.Path.{◌≡◌, refl}
use mathlib.Core.Bool.{Bool, true, ◌&&◌}
use mathlib.Core.List.{List, [], ◌∷◌}
use Prim.Native.Nat.{ℕ, zero, suc, ◌+◌, ◌-◌, ◌<◌, ◌≤◌}
use native.Mathlib.Omega.{arith}
use native.Mathlib.Nat.{le_of_suc-le-suc}
use lib.Dec.{eqb, leb}
use lib.ListN.{length, get_or}
use borrow.Author.Tests.{eqb-true, leb-true}
use Rattle.shape.proofs.Tests.{and_left, and_right, at_place}
use Rattle.paths.specs.Tree.{nodes, name_wide, names, firsts}

-- the last byte of a name
abbrev pub name_end : ℕ
name_end = name_wide - 1

-- a name has its width in bytes, the last of them a blank
is-line : List ℕ → Bool
is-line line = eqb (length line) name_wide && eqb (get_or line name_end 0) 32

line-tested : (v : ℕ) → v < nodes → is-line (get_or names v []) ≡ true
unfolding names is-line
line-tested v h = at_place is-line names [] refl v h

pub line-long : (v : ℕ) → v < nodes → length (get_or names v []) ≡ name_wide
unfolding is-line
line-long v h =
    eqb-true (length (get_or names v [])) name_wide
    (and_left (eqb (length (get_or names v [])) name_wide) (eqb (get_or (get_or names v []) name_end 0) 32) (line-tested v h))

pub line-ends : (v : ℕ) → v < nodes → get_or (get_or names v []) name_end 0 ≡ 32
unfolding is-line
line-ends v h =
    eqb-true (get_or (get_or names v []) name_end 0) 32
    (and_right (eqb (length (get_or names v [])) name_wide) (eqb (get_or (get_or names v []) name_end 0) 32) (line-tested v h))

-- no entry is below the one before it, and the first is not below a
ascends : ℕ → List ℕ → Bool
ascends a [] = true
ascends a (b ∷ l) = leb a b && ascends b l

-- law: then none is below a, and none below one that stands before it
from_first : (a : ℕ) (l : List ℕ) → ascends a l ≡ true → (j : ℕ) → j < length l → a ≤ get_or l j 0
unfolding ascends
from_first a [] t j h = absurd (omega arith)
from_first a (b ∷ l) t zero h = leb-true a b (and_left (leb a b) (ascends b l) t)
from_first a (b ∷ l) t (suc j) h =
    omega (arith, leb-true a b (and_left (leb a b) (ascends b l) t), from_first b l (and_right (leb a b) (ascends b l) t) j (le_of_suc-le-suc h))

in_order : (a : ℕ) (l : List ℕ) → ascends a l ≡ true → (i j : ℕ) → i ≤ j → j < length l → get_or l i 0 ≤ get_or l j 0
unfolding ascends
in_order a [] t i j h k = absurd (omega arith)
in_order a (b ∷ l) t zero zero h k = omega arith
in_order a (b ∷ l) t zero (suc j) h k = from_first b l (and_right (leb a b) (ascends b l) t) j (le_of_suc-le-suc k)
in_order a (b ∷ l) t (suc i) zero h k = absurd (omega arith)
in_order a (b ∷ l) t (suc i) (suc j) h k =
    in_order b l (and_right (leb a b) (ascends b l) t) i j (le_of_suc-le-suc h) (le_of_suc-le-suc k)

pub firsts-ascend : (i j : ℕ) → i ≤ j → j < nodes + 1 → get_or firsts i 0 ≤ get_or firsts j 0
unfolding firsts ascends
firsts-ascend i j h k = in_order 2 firsts refl i j h k

-- what is below a node is neither nowhere nor above, and is a node
pub firsts-from : (v : ℕ) → v < nodes + 1 → 2 ≤ get_or firsts v 0
unfolding firsts ascends
firsts-from v h = from_first 2 firsts refl v h

pub firsts-low : (v : ℕ) → v < nodes + 1 → get_or firsts v 0 ≤ nodes
unfolding firsts
firsts-low v h = leb-true (get_or firsts v 0) nodes (at_place (λ (x : ℕ). leb x nodes) firsts 0 refl v h)
