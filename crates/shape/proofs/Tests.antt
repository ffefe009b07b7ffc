-- Tests joined by `&&` and `||`, taken apart and put together, and a test of every entry of a list.
-- Assumes nothing.
use mathlib.Core.Path.{◌≡◌, refl}
use mathlib.Core.Bool.{Bool, true, false, ◌&&◌, ◌||◌, false≢true}
use mathlib.Core.List.{List, [], ◌∷◌}
use Prim.Native.Nat.{ℕ, zero, suc, ◌≤◌, ◌<◌}
use native.Mathlib.Omega.{arith}
use native.Mathlib.Nat.{le_of_suc-le-suc}
use lib.Dec.{leb}
use lib.ListN.{length, get_or}
use borrow.Author.Tests.{leb-true, le-leb}
use Rattle.shape.specs.Bytes.{every}

pub and_left : (t u : Bool) → (t && u) ≡ true → t ≡ true
and_left true u e = refl
and_left false u e = e

pub and_right : (t u : Bool) → (t && u) ≡ true → u ≡ true
and_right true u e = e
and_right false u e = absurd (false≢true e)

pub and-false : (t u : Bool) → u ≡ false → (t && u) ≡ false
and-false true u e = e
and-false false u e = refl

pub or_cases : {P : Type 0} (t u : Bool) → (t || u) ≡ true → (t ≡ true → P) → (u ≡ true → P) → P
or_cases true u e f g = f refl
or_cases false u e f g = g e

pub or_left : (t u : Bool) → t ≡ true → (t || u) ≡ true
or_left true u e = refl
or_left false u e = absurd (false≢true e)

pub or_right : (t u : Bool) → u ≡ true → (t || u) ≡ true
or_right true u e = refl
or_right false u e = e

-- a byte of a range, as numbers and as a test
pub in-range : (lo hi b : ℕ) → (leb lo b && leb b hi) ≡ true → (lo ≤ b) × (b ≤ hi)
in-range lo hi b e = (leb-true lo b (and_left (leb lo b) (leb b hi) e), leb-true b hi (and_right (leb lo b) (leb b hi) e))

pub range-in : (lo hi b : ℕ) → lo ≤ b → b ≤ hi → (leb lo b && leb b hi) ≡ true
range-in lo hi b h k = rw (le-leb lo b h, le-leb b hi k)

-- what is tested of each entry of a list holds of the one at a place
pub at_place : {A : Type 0} (f : A → Bool) (xs : List A) (d : A) → every f xs ≡ true → (k : ℕ) → k < length xs → f (get_or xs k d) ≡ true
at_place f [] d t k h = absurd (omega arith)
at_place f (x ∷ xs) d t zero h = and_left (f x) (every f xs) t
at_place f (x ∷ xs) d t (suc k) h = at_place f xs d (and_right (f x) (every f xs) t) k (le_of_suc-le-suc h)
