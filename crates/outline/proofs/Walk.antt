-- Going through the rows of a sheet one after the other, by the lists of starts and depths.
-- Assumes nothing.
use mathlib.Core.Path.{◌≡◌, refl, ◌∙◌}
use mathlib.Core.Bool.{Bool, true, false, cond}
use mathlib.Core.List.{List, [], ◌∷◌}
use Prim.Native.Nat.{ℕ, zero, suc, ◌+◌, ◌≤◌, ◌<◌}
use native.Mathlib.Omega.{arith}
use native.Mathlib.Numerals.{add-one}
use lib.Dec.{ltb}
use lib.ListN.{length, take, drop, get_or, length-take, drop_of_length-le}
use lib.Seq.{drop-cons, get_or-take}
use borrow.Author.Tests.{ltb-true, lt-ltb}

-- what is left of a list of which so many are gone through: its next place, then the rest; nothing at the end
pub list-goes : (l : List ℕ) (count k : ℕ) → k < count → k < length l → drop k (take count l) ≡ get_or l k 0 ∷ drop (k + 1) (take count l)
list-goes l count k h m =
    let f : k < length (take count l) = omega (arith, length-take count l) in
    drop-cons (take count l) k 0 f ∙ rw (get_or-take count l k 0 h, add-one k)

pub list-ends : (l : List ℕ) (count k : ℕ) → count ≤ k → drop k (take count l) ≡ []
list-ends l count k h =
    let f : length (take count l) ≤ k = omega (arith, length-take count l) in
    drop_of_length-le (take count l) f

-- no more names stand around an element than the one before it has
pub around-low : (j m level : ℕ) → j ≡ cond (ltb m level) m level → j ≤ level
around-low j m level e = go (ltb m level) refl e
  where
    go : (t : Bool) → ltb m level ≡ t → j ≡ cond t m level → j ≤ level
    go true f e = omega (arith, ltb-true m level f)
    go false f e = omega arith

-- at depth 0 nothing is around
pub around-none : (level : ℕ) → 0 ≡ cond (ltb 0 level) 0 level
around-none zero = refl
around-none (suc level) = let h : 0 < suc level = omega arith in rw (lt-ltb 0 (suc level) h)
