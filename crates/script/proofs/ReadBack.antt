-- What is written with its digits is read back: every number below 10^19, and every sum below 10^18 kopecks.
-- Assumes nothing.
use Rattle.std.specs.Prelude.{Some}
use mathlib.Core.Path.{◌≡◌, refl, ap, ◌∙◌}
use mathlib.Core.Bool.{Bool, true, false, cond}
use mathlib.Core.List.{List, [], ◌∷◌, ◌++◌}
use Prim.Native.Nat.{ℕ, zero, suc, ◌+◌, ◌-◌, ◌*◌, ◌/◌, ◌%◌, ◌^◌, ◌≤◌, ◌<◌}
use native.Mathlib.Omega.{arith}
use native.Mathlib.Nat.{pow-succ'}
use Prim.Native.Char.{code}
use lib.Dec.{ltb}
use lib.ListN.{length, drop, length-append}
use lib.Seq.{take_at, drop-append-add, get_or_at}
use borrow.Author.Tests.{le-leb, ltb-true}
use Rattle.shape.specs.Bytes.{every, is_digit}
use Rattle.shape.specs.Numbers.{digit_value, decimal_from, decimal}
use Rattle.shape.specs.Fields.{whole, hundredths, kopecks}
use Rattle.shape.proofs.Tests.{and_left, and_right, range-in}
use Rattle.script.specs.Said.{number_digits_most, sum_digits_most, number_of, sum_of}
use Rattle.script.proofs.Written.{sum-of-parts}

-- the last digit of a number
abbrev pub ones : ℕ → ℕ
ones n = code "0" + n % 10

-- the digits of a number, at most one more than k
unfoldable pub digits_text : ℕ → ℕ → List ℕ
digits_text zero n = ones n ∷ []
digits_text (suc k) n = cond (ltb n 10) (ones n ∷ []) (digits_text k (n / 10) ++ (ones n ∷ []))

-- a sum: its digits but for the last two, a point, and those two
unfoldable pub sum_text : ℕ → List ℕ
sum_text n = digits_text (sum_digits_most - 1) (n / 10 / 10) ++ (code "." ∷ ones (n / 10) ∷ ones n ∷ [])

ones-digit : (n : ℕ) → is_digit (ones n) ≡ true
unfolding is_digit
ones-digit n = range-in 48 57 (ones n) (omega arith) (omega arith)

decimal-append : (m : ℕ) (s t : List ℕ) → decimal_from m (s ++ t) ≡ decimal_from (decimal_from m s) t
decimal-append m [] t = refl
decimal-append m (b ∷ s) t = decimal-append (m * 10 + digit_value b) s t

every_append : (s t : List ℕ) → every is_digit s ≡ true → every is_digit t ≡ true → every is_digit (s ++ t) ≡ true
every_append [] t e f = f
every_append (b ∷ s) t e f =
    rw (and_left (is_digit b) (every is_digit s) e) (every_append s t (and_right (is_digit b) (every is_digit s) e) f)

tenth-below : (k n : ℕ) → n < 10 ^ suc (suc k) → n / 10 < 10 ^ suc k
tenth-below k n h = let p : 10 ^ suc (suc k) ≡ 10 * 10 ^ suc k = pow-succ' 10 (suc k) in omega arith

digits-right : (k n : ℕ) → n < 10 ^ suc k → decimal_from 0 (digits_text k n) ≡ n
unfolding digits_text
digits-right zero n h = let l : n < 10 = h in omega arith
digits-right (suc k) n h = by-test (ltb n 10) refl (digits-right k (n / 10) (tenth-below k n h))
  where
    by-test : (t : Bool) → ltb n 10 ≡ t → decimal_from 0 (digits_text k (n / 10)) ≡ n / 10
        → decimal_from 0 (cond t (ones n ∷ []) (digits_text k (n / 10) ++ (ones n ∷ []))) ≡ n
    by-test true e ih = let l : n < 10 = ltb-true n 10 e in omega arith
    by-test false e ih = decimal-append 0 (digits_text k (n / 10)) (ones n ∷ []) ∙ omega arith

digits-length : (k n : ℕ) → (1 ≤ length (digits_text k n)) × (length (digits_text k n) ≤ suc k)
unfolding digits_text
digits-length zero n = (omega arith, omega arith)
digits-length (suc k) n = by-test (ltb n 10) (digits-length k (n / 10)).1
  where
    by-test : (t : Bool) → length (digits_text k (n / 10)) ≤ suc k
        → (1 ≤ length (cond t (ones n ∷ []) (digits_text k (n / 10) ++ (ones n ∷ []))))
        × (length (cond t (ones n ∷ []) (digits_text k (n / 10) ++ (ones n ∷ []))) ≤ suc (suc k))
    by-test true ih = (omega arith, omega arith)
    by-test false ih = (
      omega (arith, length-append (digits_text k (n / 10)) (ones n ∷ [])),
      omega (arith, length-append (digits_text k (n / 10)) (ones n ∷ [])),
    )

digits-digits : (k n : ℕ) → every is_digit (digits_text k n) ≡ true
unfolding digits_text
digits-digits zero n = rw (ones-digit n)
digits-digits (suc k) n = by-test (ltb n 10) (digits-digits k (n / 10))
  where
    by-test : (t : Bool) → every is_digit (digits_text k (n / 10)) ≡ true
        → every is_digit (cond t (ones n ∷ []) (digits_text k (n / 10) ++ (ones n ∷ []))) ≡ true
    by-test true ih = rw (ones-digit n)
    by-test false ih = every_append (digits_text k (n / 10)) (ones n ∷ []) ih (rw (ones-digit n))

-- a number is read back
pub number-read-back : (n : ℕ) → n < 10 ^ number_digits_most → number_of (digits_text (number_digits_most - 1) n) ≡ Some n
unfolding number_of decimal
number-read-back n h =
    let l = digits-length (number_digits_most - 1) n in
    rw (
      le-leb 1 (length (digits_text (number_digits_most - 1) n)) l.0,
      le-leb (length (digits_text (number_digits_most - 1) n)) number_digits_most l.1,
      digits-digits (number_digits_most - 1) n,
      digits-right (number_digits_most - 1) n h,
    )

-- a sum by its digits w before the point and the last two, a and b
module _ (w : List ℕ) (a b : ℕ) (lo : 1 ≤ length w) (hi : length w ≤ sum_digits_most) (u : every is_digit w ≡ true)
    (da : is_digit a ≡ true) (db : is_digit b ≡ true) where
  all-length : length (w ++ (code "." ∷ a ∷ b ∷ [])) ≡ length w + 3
  all-length = length-append w (code "." ∷ a ∷ b ∷ [])

  whole_is : whole (w ++ (code "." ∷ a ∷ b ∷ [])) ≡ w
  whole_is = take_at w (code "." ∷ a ∷ b ∷ []) (length (w ++ (code "." ∷ a ∷ b ∷ [])) - 3) (omega (arith, all-length))

  hundredths-are : hundredths (w ++ (code "." ∷ a ∷ b ∷ [])) ≡ a ∷ b ∷ []
  hundredths-are =
      let e : length (w ++ (code "." ∷ a ∷ b ∷ [])) - 2 ≡ length w + 1 = omega (arith, all-length) in
      ap (λ (k : ℕ). drop k (w ++ (code "." ∷ a ∷ b ∷ []))) e ∙ drop-append-add w (code "." ∷ a ∷ b ∷ []) 1

  pub sum-with : sum_of (w ++ (code "." ∷ a ∷ b ∷ [])) ≡ Some (decimal w * 100 + decimal (a ∷ b ∷ []))
  unfolding kopecks
  sum-with =
      sum-of-parts (w ++ (code "." ∷ a ∷ b ∷ [])) (omega (arith, all-length)) (omega (arith, all-length))
      (get_or_at w (code ".") (a ∷ b ∷ []) 0 (length (w ++ (code "." ∷ a ∷ b ∷ [])) - 3) (omega (arith, all-length)))
      (ap (every is_digit) whole_is ∙ u)
      (ap (every is_digit) hundredths-are ∙ rw (da, db))
      ∙ ap (λ (x : List ℕ). Some (decimal x * 100 + decimal (hundredths (w ++ (code "." ∷ a ∷ b ∷ []))))) whole_is
      ∙ ap (λ (x : List ℕ). Some (decimal w * 100 + decimal x)) hundredths-are

-- a sum is read back
pub sum-read-back : (n : ℕ) → n < 10 ^ (sum_digits_most + 2) → sum_of (sum_text n) ≡ Some n
unfolding sum_text decimal
sum-read-back n h =
    let l = digits-length (sum_digits_most - 1) (n / 10 / 10) in
    let d : decimal_from 0 (digits_text (sum_digits_most - 1) (n / 10 / 10)) ≡ n / 10 / 10 = digits-right (sum_digits_most - 1) (n / 10 / 10) (omega arith) in
    sum-with (digits_text (sum_digits_most - 1) (n / 10 / 10)) (ones (n / 10)) (ones n) l.0 l.1 (digits-digits (sum_digits_most - 1) (n / 10 / 10))
    (ones-digit (n / 10)) (ones-digit n)
    ∙ ap Some (omega arith)
