-- What one turn of a loop over a text does: the definitions at `drop i s`, one byte further on.
-- Assumes nothing.
use Rattle.std.specs.Prelude.{MatchBool}
use Rattle.std.specs.List.{AllWithin, HoldsAt}
use mathlib.Core.Path.{◌≡◌, refl, sym, ap}
use mathlib.Core.Bool.{Bool, true, false, false≢true}
use mathlib.Core.List.{List, [], ◌∷◌}
use Prim.Native.Nat.{ℕ, zero, suc, ◌+◌, ◌*◌, ◌^◌, ◌≤◌, ◌<◌}
use native.Mathlib.Omega.{arith}
use native.Mathlib.Numerals.{add-one}
use native.Mathlib.Nat.{pow-le-pow_right}
use lib.Dec.{lit<}
use lib.ListN.{length, get_or, drop, drop_of_length-le}
use lib.Seq.{drop-cons}
use Rattle.shape.specs.Bytes.{every}
use Rattle.shape.specs.Patterns.{within, fits}
use Rattle.shape.specs.Numbers.{digits_most, digit_value, decimal_from}
use Rattle.shape.proofs.Tests.{and_right, and-false}

-- a text of another length fits no pattern
pub unlike : (p s : List ℕ) → (length p ≡ length s → ⊥) → fits p s ≡ false
unfolding fits
unlike [] [] h = absurd (h refl)
unlike [] (b ∷ s) h = refl
unlike (k ∷ p) [] h = refl
unlike (k ∷ p) (b ∷ s) h = and-false (within k b) (fits p s) (unlike p s (λ e. h (ap suc e)))

-- one byte further on, and nothing left on either side
module _ {P S p s : List ℕ} {k b : ℕ} (e : P ≡ k ∷ p) (f : S ≡ b ∷ s) where
  pub fits-hit : within k b ≡ true → fits P S ≡ fits p s
  unfolding fits
  fits-hit h = rw (e, f, h)

  pub fits-miss : within k b ≡ false → fits P S ≡ false
  unfolding fits
  fits-miss h = rw (e, f, h)

pub fits-end : (p s : List ℕ) → length p ≡ 0 → length s ≡ 0 → fits p s ≡ true
unfolding fits
fits-end [] [] g h = refl
fits-end [] (b ∷ s) g h = absurd (omega arith)
fits-end (k ∷ p) s g h = absurd (omega arith)

module _ (s : List ℕ) (i n : ℕ) where
  pub decimal-turn : i < length s → decimal_from n (drop i s) ≡ decimal_from (n * 10 + digit_value (get_or s i 0)) (drop (i + 1) s)
  decimal-turn h = rw (add-one, drop-cons s i 0 h)

  pub decimal-end : length s ≤ i → decimal_from n (drop i s) ≡ n
  decimal-end h = rw (drop_of_length-le s h)

-- i bytes, each worth at most 207, write at most 23 times the i-th power of ten, less 23
pub decimal-small : (i n : ℕ) → i ≤ digits_most → n + 23 ≤ 23 * 10 ^ i → n < 10 ^ (digits_most + 2)
decimal-small i n l h =
    let p : 10 ^ i ≤ 10 ^ digits_most = pow-le-pow_right {n = 10} (lit< tt) {i = i} {j = digits_most} l in omega arith

-- testing every element: where the answer is no, some element fails
holds-after : {A : Type 0} (P : A → Type 0) (x : A) (xs : List A) → AllWithin P (x ∷ xs) 0 (length (x ∷ xs)) → AllWithin P xs 0 (length xs)
holds-after P x xs h k d l m = h (suc k) d (omega arith) (omega arith)

pub every-decided : {A : Type 0} (f : A → Bool) (xs : List A) (d : A) (answer : Bool)
    → MatchBool answer (AllWithin (λ x. f x ≡ true) xs 0 (length xs)) ((k : ℕ) × (k < length xs) × HoldsAt (λ x. f x ≡ false) xs k)
    → answer ≡ every f xs
every-decided f [] d true h = refl
every-decided f [] d false (k, l, h) = absurd (omega arith)
every-decided f (x ∷ xs) d true h =
    rw (h 0 d (omega arith) (omega arith)) (every-decided f xs d true (holds-after (λ y. f y ≡ true) x xs h))
every-decided f (x ∷ xs) d false (zero, l, h) = rw (h d)
every-decided f (x ∷ xs) d false (suc k, l, h) =
    sym (and-false (f x) (every f xs) (sym (every-decided f xs d false (k, omega arith, λ e. h e))))

-- a text that fits a pattern is as long as the pattern
pub fits-length : (p s : List ℕ) → fits p s ≡ true → length s ≡ length p
unfolding fits
fits-length [] [] e = refl
fits-length [] (b ∷ s) e = absurd (false≢true e)
fits-length (k ∷ p) [] e = absurd (false≢true e)
fits-length (k ∷ p) (b ∷ s) e = ap suc (fits-length p s (and_right (within k b) (fits p s) e))

pub ruleset lengths = (fits-length)
