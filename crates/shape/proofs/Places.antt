-- A text by its places: the bytes at 0, 1, 2 and so on are the text, and zeros stand past its end.
-- Assumes nothing.
use mathlib.Core.Path.{◌≡◌, refl, ap, ◌∙◌}
use mathlib.Core.Bool.{Bool, true, false, not, ◌&&◌, cond, false≢true}
use mathlib.Core.List.{List, [], ◌∷◌}
use Prim.Native.Nat.{ℕ, zero, suc, ◌^◌, ◌<◌, ◌≤◌}
use native.Mathlib.Omega.{arith}
use native.Mathlib.Nat.{suc_inj, le_of_suc-le-suc}
use lib.Dec.{leb, eqb, lit<}
use lib.ListN.{length, get_or, take}
use borrow.Author.Tests.{ne_eqb}
use Rattle.shape.specs.Bytes.{byte_bits, every, is_text}
use Rattle.shape.specs.Patterns.{within, fits}
use Rattle.shape.specs.Stored.{before_zero}
use Rattle.shape.proofs.Tests.{and_left, and_right, in-range}

-- the n bytes from a place on
abbrev pub bytes_from : List ℕ → ℕ → ℕ → List ℕ
bytes_from s i zero = []
bytes_from s i (suc n) = get_or s i 0 ∷ bytes_from s (suc i) n

-- behind the first byte stands the rest of the text
bytes-behind : (b : ℕ) (s : List ℕ) (i n : ℕ) → bytes_from (b ∷ s) (suc i) n ≡ bytes_from s i n
bytes-behind b s i zero = refl
bytes-behind b s i (suc n) = ap (λ (t : List ℕ). get_or s i 0 ∷ t) (bytes-behind b s (suc i) n)

-- a text is its bytes from 0 on
pub bytes_whole : (s : List ℕ) (n : ℕ) → length s ≡ n → bytes_from s 0 n ≡ s
bytes_whole [] zero e = refl
bytes_whole [] (suc n) e = absurd (omega arith)
bytes_whole (b ∷ s) zero e = absurd (omega arith)
bytes_whole (b ∷ s) (suc n) e = ap (λ (t : List ℕ). b ∷ t) (bytes-behind b s 0 n ∙ bytes_whole s n (suc_inj e))

-- a byte of a text is above zero and below 127
text-range : (b : ℕ) → is_text b ≡ true → (32 ≤ b) × (b ≤ 126)
unfolding is_text
text-range b e =
    in-range 32 126 b
    (and_left (leb 32 b && leb b 126) (not (eqb b 60))
    (and_left (leb 32 b && leb b 126 && not (eqb b 60)) (not (eqb b 62))
    (and_left (leb 32 b && leb b 126 && not (eqb b 60) && not (eqb b 62)) (not (eqb b 38)) e)))

-- at each place of a text, and past its end, eight bits are enough
pub text-small : (s : List ℕ) → every is_text s ≡ true → (i : ℕ) → get_or s i 0 < 2 ^ byte_bits
text-small [] e i = lit< tt
text-small (b ∷ s) e zero = let r = text-range b (and_left (is_text b) (every is_text s) e) in omega arith
text-small (b ∷ s) e (suc i) = text-small s (and_right (is_text b) (every is_text s) e) i

-- the bytes from 0 on, at least as many as the text has, are the text up to the first zero
pub before-zero : (s : List ℕ) (n : ℕ) → every is_text s ≡ true → length s ≤ n → before_zero (bytes_from s 0 n) ≡ s
before-zero [] zero e h = refl
before-zero [] (suc n) e h = refl
before-zero (b ∷ s) zero e h = absurd (omega arith)
before-zero (b ∷ s) (suc n) e h =
    let r = text-range b (and_left (is_text b) (every is_text s) e) in
    rw (ne_eqb b 0 (λ z. omega arith), bytes-behind b s 0 n, before-zero s n (and_right (is_text b) (every is_text s) e) (le_of_suc-le-suc h))

-- the bytes before the first zero are no more than all of them, and stand in front
short-step : (t : Bool) (b : ℕ) (u s : List ℕ) → length u ≤ length s → length (cond t [] (b ∷ u)) ≤ length (b ∷ s)
short-step true b u s h = omega arith
short-step false b u s h = omega arith

pub before-short : (s : List ℕ) → length (before_zero s) ≤ length s
before-short [] = omega arith
before-short (b ∷ s) = short-step (eqb b 0) b (before_zero s) s (before-short s)

front-step : (t : Bool) (b : ℕ) (u s : List ℕ) → take (length u) s ≡ u → take (length (cond t [] (b ∷ u))) (b ∷ s) ≡ cond t [] (b ∷ u)
front-step true b u s e = refl
front-step false b u s e = ap (λ (t : List ℕ). b ∷ t) e

pub before-front : (s : List ℕ) → take (length (before_zero s)) s ≡ before_zero s
before-front [] = refl
before-front (b ∷ s) = front-step (eqb b 0) b (before_zero s) s (before-front s)

-- each byte of a text that fits a pattern is of its class
pub fits-at : (p s : List ℕ) (i : ℕ) → fits p s ≡ true → i < length p → within (get_or p i 0) (get_or s i 0) ≡ true
unfolding fits
fits-at [] s i e h = absurd (omega arith)
fits-at (c ∷ p) [] i e h = absurd (false≢true e)
fits-at (c ∷ p) (b ∷ s) zero e h = and_left (within c b) (fits p s) e
fits-at (c ∷ p) (b ∷ s) (suc i) e h = fits-at p s i (and_right (within c b) (fits p s) e) (le_of_suc-le-suc h)
