-- A sum that is written as document 01 writes an amount is read as the amount's kopecks.
-- Assumes nothing.
use Rattle.std.specs.Prelude.{Some, None}
use mathlib.Core.Path.{◌≡◌, refl, ◌∙◌}
use mathlib.Core.Bool.{Bool, true, false, not, ◌&&◌, ◌||◌, cond, false≢true}
use mathlib.Core.List.{List}
use Prim.Native.Nat.{ℕ, ◌+◌, ◌-◌, ◌≤◌}
use Prim.Native.Char.{code}
use native.Mathlib.Omega.{arith}
use lib.Dec.{leb, ltb, eqb}
use lib.ListN.{length, get_or, length-take, length-drop}
use borrow.Author.Tests.{le-leb, eq-eqb, eqb-true}
use Rattle.shape.specs.Bytes.{every, is_digit}
use Rattle.shape.specs.Fields.{amount_bytes_least, amount_bytes_most, whole, point, hundredths, kopecks, is_amount, amount_of}
use Rattle.shape.proofs.Amounts.{amount-length}
use Rattle.script.specs.Said.{sum_digits_most, sum_from, sum_of}

-- a sum by its parts
pub sum-of-parts : (s : List ℕ) → 4 ≤ length s → length s ≤ sum_digits_most + 3 → get_or s (length s - 3) 0 ≡ code "."
    → every is_digit (whole s) ≡ true → every is_digit (hundredths s) ≡ true → sum_of s ≡ Some (kopecks s)
unfolding sum_of sum_from kopecks
sum-of-parts s lo hi p u h =
    let a : length (whole s) ≡ length s - 3 = simp length-take (omega arith) in
    let b : length (hundredths s) ≡ 2 = simp length-drop (omega arith) in
    rw (
      le-leb 3 (length s) (omega arith),
      eq-eqb (get_or s (length s - 3) 0) (code ".") p,
      le-leb 1 (length (whole s)) (omega arith),
      le-leb (length (whole s)) sum_digits_most (omega arith),
      eq-eqb (length (hundredths s)) 2 b,
      u,
      h,
    )

three : (a b c d e f g : Bool) → (a && b && c && d && e && f && g) ≡ true → (c ≡ true) × (e ≡ true) × (f ≡ true)
three true true true true true true g h = (refl, refl, refl)
three true true true true true false g h = absurd (false≢true h)
three true true true true false f g h = absurd (false≢true h)
three true true true false e f g h = absurd (false≢true h)
three true true false d e f g h = absurd (false≢true h)
three true false c d e f g h = absurd (false≢true h)
three false b c d e f g h = absurd (false≢true h)

tests : (s : List ℕ) → is_amount s ≡ true
    → (every is_digit (whole s) ≡ true) × (eqb (point s) (code ".") ≡ true) × (every is_digit (hundredths s) ≡ true)
unfolding is_amount
tests s e =
    three (leb amount_bytes_least (length s)) (leb (length s) amount_bytes_most) (every is_digit (whole s))
    (eqb (length s) amount_bytes_least || not (eqb (get_or s 0 0) (code "0"))) (eqb (point s) (code ".")) (every is_digit (hundredths s)) (ltb 0 (kopecks s)) e

amount-read : (s : List ℕ) → is_amount s ≡ true → sum_of s ≡ Some (kopecks s)
amount-read s e =
    let l = amount-length s e in
    let t = tests s e in
    sum-of-parts s l.0 (omega (arith, l.1)) (eqb-true (point s) (code ".") t.1) t.0 t.2

-- an amount of a message is read as the same kopecks in a lesson
pub amount-is-sum : (s : List ℕ) (n : ℕ) → amount_of s ≡ Some n → sum_of s ≡ Some n
unfolding amount_of
amount-is-sum s n e = by-test (is_amount s) (amount-read s) e
  where
    by-test : (t : Bool) → (t ≡ true → sum_of s ≡ Some (kopecks s)) → cond t (Some (kopecks s)) None ≡ Some n → sum_of s ≡ Some n
    by-test true read e = read refl ∙ e
    by-test false read e = let z : ◌≡◌ {A = ℕ} 0 1 = cc in absurd (omega arith)
