-- Writing characters behind a number keeps remainders modulo 97: the remainder may be taken after each character, and what comes out is the
-- remainder of the whole number.
-- Assumes nothing.
use Rattle.std.specs.Prelude.{Some, None}
use mathlib.Core.Path.{◌≡◌, refl, sym, ap, ◌∙◌}
use mathlib.Core.Bool.{Bool, true, false, ◌&&◌, cond}
use mathlib.Core.List.{List, [], ◌∷◌, ◌++◌}
use Prim.Native.Nat.{ℕ, suc, ◌+◌, ◌-◌, ◌*◌, ◌/◌, ◌%◌, ◌≤◌, ◌<◌}
use native.Mathlib.Nat.{add-mul, mul_assoc, mod-mod, div-add-mod, add-mul-mod_self_left}
use native.Mathlib.Omega.{arith}
use native.Mathlib.Numerals.{add-one}
use Prim.Native.Char.{code}
use lib.ListN.{length, get_or, take, drop, length-drop, drop_of_length-le}
use lib.Seq.{drop-cons, take_all}
use borrow.Author.Tests.{le-leb, lt-leb}
use Rattle.shape.specs.Bytes.{every, is_digit, is_digit_or_capital}
use Rattle.shape.specs.Patterns.{within, digit_or_capital}
use Rattle.remainder.specs.Remainder.{modulus, capital_base, written, written_all, whole, is_plain, remainder_of}

-- a multiple of the modulus in the number is one in what is written behind it too, so it may be left out first
behind-keeps : (k n d : ℕ) → (n % modulus * k + d) % modulus ≡ (n * k + d) % modulus
behind-keeps k n d =
    let parts : n * k + d ≡ n % modulus * k + d + modulus * (n / modulus * k) =
    omega (arith, ap (λ (m : ℕ). m * k) (div-add-mod n modulus), add-mul (modulus * (n / modulus)) (n % modulus) k, mul_assoc modulus (n / modulus) k) in
    sym (rw parts (add-mul-mod_self_left (n % modulus * k + d) modulus (n / modulus * k)))

-- a digit takes one place and a letter two
pub digit-next : (n b : ℕ) → is_digit b ≡ true → (n % modulus * 10 + (b - code "0")) % modulus ≡ written n b % modulus
unfolding written
digit-next n b e = rw e (behind-keeps 10 n (b - code "0"))

pub letter-next : (n b : ℕ) → is_digit b ≡ false → (n % modulus * 100 + (b - capital_base)) % modulus ≡ written n b % modulus
unfolding written
letter-next n b e = rw e (behind-keeps 100 n (b - capital_base))

either-keeps : (t : Bool) (n d e : ℕ) → cond t (n % modulus * 10 + d) (n % modulus * 100 + e) % modulus ≡ cond t (n * 10 + d) (n * 100 + e) % modulus
either-keeps true n d e = behind-keeps 10 n d
either-keeps false n d e = behind-keeps 100 n e

pub written_keeps : (n b : ℕ) → written (n % modulus) b % modulus ≡ written n b % modulus
unfolding written
written_keeps n b = either-keeps (is_digit b) n (b - code "0") (b - capital_base)

-- two numbers of one remainder have one remainder behind the same text too
written_all-agrees : (s : List ℕ) (n m : ℕ) → n % modulus ≡ m % modulus → written_all n s % modulus ≡ written_all m s % modulus
written_all-agrees [] n m e = e
written_all-agrees (b ∷ s) n m e =
    written_all-agrees s (written n b) (written m b) (sym (written_keeps n b) ∙ rw e (written_keeps m b))

pub written_all-keeps : (n : ℕ) (s : List ℕ) → written_all (n % modulus) s % modulus ≡ written_all n s % modulus
written_all-keeps n s = written_all-agrees s (n % modulus) n (mod-mod n modulus)

pub written_all-append : (n : ℕ) (s t : List ℕ) → written_all n (s ++ t) ≡ written_all (written_all n s) t
written_all-append n [] t = refl
written_all-append n (b ∷ s) t = written_all-append (written n b) s t

-- a turn of the loop over a text carries the remainder one character further
module _ (s : List ℕ) (i n : ℕ) where
  pub carry-turn : i < length s → written_all n (drop i s) % modulus ≡ written_all (written n (get_or s i 0) % modulus) (drop (i + 1) s) % modulus
  carry-turn h = rw (add-one, drop-cons s i 0 h) (sym (written_all-keeps (written n (get_or s i 0)) (drop (suc i) s)))

  pub carry-end : length s ≤ i → written_all n (drop i s) ≡ n
  carry-end h = rw (drop_of_length-le s h)

-- the code's class is the definition's
class-is : (s : List ℕ) → every (within digit_or_capital) s ≡ every is_digit_or_capital s
unfolding within
class-is [] = refl
class-is (b ∷ s) = ap (λ (t : Bool). is_digit_or_capital b && t) (class-is s)

-- the three answers, by what the code has tested and carried
module _ (s : List ℕ) where
  pub none-of-short : length s < 4 → None ≡ remainder_of s
  unfolding remainder_of is_plain
  none-of-short h = rw (lt-leb 4 (length s) h)

  pub none-of-other : 4 ≤ length s → every (within digit_or_capital) s ≡ false → None ≡ remainder_of s
  unfolding remainder_of is_plain
  none-of-other h e = rw (le-leb 4 (length s) h, sym (class-is s) ∙ e)

  whole-carried : written_all (written_all 0 (drop 4 s) % modulus) (take 4 s) % modulus ≡ whole s % modulus
  unfolding whole
  whole-carried = written_all-keeps (written_all 0 (drop 4 s)) (take 4 s) ∙ rw (written_all-append 0 (drop 4 s) (take 4 s))

  pub of_plain : 4 ≤ length s → every (within digit_or_capital) s ≡ true
      → Some (written_all (written_all 0 (take (length s - 4) (drop 4 s)) % modulus) (take 4 s) % modulus) ≡ remainder_of s
  unfolding remainder_of is_plain
  of_plain h e =
      rw (le-leb 4 (length s) h, sym (class-is s) ∙ e, take_all (length s - 4) (drop 4 s) (omega (arith, length-drop 4 s))) (ap Some whole-carried)
