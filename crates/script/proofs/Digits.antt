-- Digits as bytes and as numbers: nineteen of them fit, and so do the sums that sixteen and two make.
-- Assumes nothing.
use Rattle.std.specs.Prelude.{Some, None}
use mathlib.Core.Path.{◌≡◌, refl, sym, ◌∙◌}
use mathlib.Core.Bool.{Bool, true, false, not, ◌&&◌, ◌||◌, cond, false≢true}
use mathlib.Core.List.{List, [], ◌∷◌}
use Prim.Native.Nat.{ℕ, suc, ◌+◌, ◌-◌, ◌*◌, ◌^◌, ◌≤◌, ◌<◌}
use native.Mathlib.Omega.{arith}
use native.Mathlib.Numerals.{add-one}
use native.Mathlib.Nat.{pow-succ', pow-le-pow_right}
use lib.Dec.{lit<, leb, eqb}
use lib.ListN.{length, get_or, take, drop}
use borrow.Author.Tests.{leb-true, eqb-true}
use Rattle.shape.specs.Text.{bytes}
use Rattle.shape.specs.Bytes.{every, is_digit}
use Rattle.shape.specs.Numbers.{digit_value, decimal_from, decimal}
use Rattle.shape.proofs.Tests.{and_left, and_right, in-range, at_place}
use Rattle.script.specs.Said.{sum_digits_most, sum_from, has_point, sum_of}

-- each byte of a text of digits is a digit
pub digit-byte : (s : List ℕ) → every is_digit s ≡ true → (i : ℕ) → i < length s → (48 ≤ get_or s i 0) × (get_or s i 0 ≤ 57)
unfolding is_digit
digit-byte s e i h = in-range 48 57 (get_or s i 0) (at_place is_digit s 0 e i h)

-- one digit more is one power of ten more
pub digit-more : (i n d : ℕ) → n < 10 ^ i → d ≤ 9 → n * 10 + d < 10 ^ (i + 1)
digit-more i n d h k = rw (add-one i, pow-succ' 10 i) (omega arith)

pub digits-below : (i j n : ℕ) → i ≤ j → n < 10 ^ i → n < 10 ^ j
digits-below i j n l h = let p : 10 ^ i ≤ 10 ^ j = pow-le-pow_right {n = 10} (lit< tt) {i = i} {j = j} l in omega arith

-- digits behind a number below the i-th power of ten stay below the power of ten for all of them
below-from : (s : List ℕ) (i n : ℕ) → every is_digit s ≡ true → n < 10 ^ i → decimal_from n s < 10 ^ (i + length s)
unfolding is_digit
below-from [] i n e h = digits-below i (i + 0) n (omega arith) h
below-from (b ∷ s) i n e h =
    let d = in-range 48 57 b (and_left (is_digit b) (every is_digit s) e) in
    digits-below (i + 1 + length s) (i + suc (length s)) (decimal_from (n * 10 + digit_value b) s) (omega arith)
    (below-from s (i + 1) (n * 10 + digit_value b) (and_right (is_digit b) (every is_digit s) e)
    (digit-more i n (digit_value b) h (omega (arith, d.1))))

pub decimal-below : (s : List ℕ) → every is_digit s ≡ true → decimal s < 10 ^ length s
unfolding decimal
decimal-below s e = digits-below (0 + length s) (length s) (decimal_from 0 s) (omega arith) (below-from s 0 0 e (lit< tt))

-- what the test of a sum says of its two parts
module _ (u h : List ℕ) (t w : Bool) (e : t ≡ every is_digit u) (f : w ≡ every is_digit h)
    (k : (leb 1 (length u) && leb (length u) sum_digits_most && eqb (length h) 2 && t && w) ≡ true) where
  lengths : (leb 1 (length u) && leb (length u) sum_digits_most && eqb (length h) 2) ≡ true
  lengths =
      and_left (leb 1 (length u) && leb (length u) sum_digits_most && eqb (length h) 2) t
      (and_left (leb 1 (length u) && leb (length u) sum_digits_most && eqb (length h) 2 && t) w k)

  pub units-short : length u ≤ sum_digits_most
  units-short =
      leb-true (length u) sum_digits_most
      (and_right (leb 1 (length u)) (leb (length u) sum_digits_most) (and_left (leb 1 (length u) && leb (length u) sum_digits_most) (eqb (length h) 2) lengths))

  pub two-hundredths : length h ≡ 2
  two-hundredths = eqb-true (length h) 2 (and_right (leb 1 (length u) && leb (length u) sum_digits_most) (eqb (length h) 2) lengths)

  pub units-digits : every is_digit u ≡ true
  units-digits =
      sym e
      ∙ and_right (leb 1 (length u) && leb (length u) sum_digits_most && eqb (length h) 2) t
      (and_left (leb 1 (length u) && leb (length u) sum_digits_most && eqb (length h) 2 && t) w k)

  pub hundredths-digits : every is_digit h ≡ true
  hundredths-digits = sym f ∙ and_right (leb 1 (length u) && leb (length u) sum_digits_most && eqb (length h) 2 && t) w k

  pub units-below : decimal u < 10 ^ sum_digits_most
  units-below = digits-below (length u) sum_digits_most (decimal u) units-short (decimal-below u units-digits)

  pub hundredths-below : decimal h < 10 ^ 2
  hundredths-below = digits-below (length h) 2 (decimal h) (omega (arith, two-hundredths)) (decimal-below h hundredths-digits)

  pub sum-small : decimal u * 100 + decimal h < 10 ^ (sum_digits_most + 2)
  sum-small = omega (arith, units-below, hundredths-below)

-- the same of the tests one by one
module _ (u h : List ℕ) where
  pub units-few : length u ≤ sum_digits_most → every is_digit u ≡ true → decimal u < 10 ^ sum_digits_most
  units-few l d = digits-below (length u) sum_digits_most (decimal u) l (decimal-below u d)

  pub sum-few : length u ≤ sum_digits_most → every is_digit u ≡ true → length h ≡ 2 → every is_digit h ≡ true
      → decimal u * 100 + decimal h < 10 ^ (sum_digits_most + 2)
  sum-few l d k e = omega (arith, units-few l d, digits-below (length h) 2 (decimal h) (omega (arith, k)) (decimal-below h e))

pub ruleset tested = (units-few, sum-few)

-- every sum stays below the power of ten for all its digits
parts_below : (u h : List ℕ) (n : ℕ) → sum_from u h ≡ Some n → n < 10 ^ (sum_digits_most + 2)
unfolding sum_from
parts_below u h n e =
    by-test (leb 1 (length u) && leb (length u) sum_digits_most && eqb (length h) 2 && every is_digit u && every is_digit h)
    (λ k. sum-small u h (every is_digit u) (every is_digit h) refl refl k) e
  where
    by-test : (t : Bool) → (t ≡ true → decimal u * 100 + decimal h < 10 ^ (sum_digits_most + 2))
        → cond t (Some (decimal u * 100 + decimal h)) None ≡ Some n → n < 10 ^ (sum_digits_most + 2)
    by-test true small e = let m : decimal u * 100 + decimal h ≡ n = cc in omega (arith, small refl)
    by-test false small e = let z : ◌≡◌ {A = ℕ} 0 1 = cc in omega arith

pub sum_below : (s : List ℕ) (n : ℕ) → sum_of s ≡ Some n → n < 10 ^ (sum_digits_most + 2)
unfolding sum_of
sum_below s n e = by-test (has_point s) e
  where
    by-test : (t : Bool)
        → cond t (sum_from (take (length s - 3) s) (drop (length s - 2) s)) (sum_from s (bytes "00")) ≡ Some n → n < 10 ^ (sum_digits_most + 2)
    by-test true e = parts_below (take (length s - 3) s) (drop (length s - 2) s) n e
    by-test false e = parts_below s (bytes "00") n e

-- one of two dashes is missing, or none is
pub missing : (a b : Bool) → (not a || not b) ≡ true → (a && b) ≡ false
missing true true e = absurd (false≢true e)
missing true false e = refl
missing false b e = refl

pub both : (a b : Bool) → (not a || not b) ≡ false → (a && b) ≡ true
both true true e = refl
both true false e = absurd (false≢true (sym e))
both false b e = absurd (false≢true (sym e))
