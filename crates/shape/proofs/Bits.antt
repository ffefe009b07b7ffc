-- The laws of bit fields, once for every width: what is joined is cut out again, and what is cut out joins to the same number.
-- Assumes nothing.
use mathlib.Core.Path.{◌≡◌, refl, sym, ap, ◌∙◌}
use mathlib.Core.List.{List, [], ◌∷◌, map}
use Prim.Native.Nat.{ℕ, ◌+◌, ◌*◌, ◌/◌, ◌%◌, ◌^◌, ◌<◌}
use native.Mathlib.Omega.{arith}
use native.Mathlib.Nat.{add_assoc, mul_assoc, zero-mul, zero-add, add_comm, add-mul, div-one, div-eq_of_lt}
use lib.Dec.{lit<}
use lib.Pow.{pow-add, high, low, shr-shr, split}
use lib.Arith.{digits_lt}
use Rattle.shape.specs.Bits.{joined, total, cut}

abbrev pub widths : List (ℕ × ℕ) → List ℕ
widths fs = map (λ (f : ℕ × ℕ). f.0) fs

-- each value fits its width
abbrev pub Small : List (ℕ × ℕ) → Type 0
Small [] = Unit {0}
Small (f ∷ fs) = (f.1 < 2 ^ f.0) × Small fs

-- the bits in front stand above those of the fields
pub joined-front : (n : ℕ) (fs : List (ℕ × ℕ)) → joined n fs ≡ n * 2 ^ total (widths fs) + joined 0 fs
joined-front n [] = omega arith
joined-front n (f ∷ fs) =
    joined-front (n * 2 ^ f.0 + f.1) fs
    ∙ front n (2 ^ f.0) f.1 (2 ^ total (widths fs)) (joined 0 fs)
    ∙ ap (λ (k : ℕ). n * k + ((0 * 2 ^ f.0 + f.1) * 2 ^ total (widths fs) + joined 0 fs)) (sym (pow-add 2 f.0 (total (widths fs))))
    ∙ ap (λ (k : ℕ). n * 2 ^ (f.0 + total (widths fs)) + k) (sym (joined-front (0 * 2 ^ f.0 + f.1) fs))
  where
    front : (n p v t r : ℕ) → (n * p + v) * t + r ≡ n * (p * t) + ((0 * p + v) * t + r)
    front n p v t r = rw (zero-mul, zero-add v, add-mul, mul_assoc, add_assoc)

pub joined_small : (fs : List (ℕ × ℕ)) → Small fs → joined 0 fs < 2 ^ total (widths fs)
joined_small [] h = lit< tt
joined_small (f ∷ fs) h =
    rw (joined-front (0 * 2 ^ f.0 + f.1) fs, zero-mul, zero-add f.1, pow-add 2 f.0 (total (widths fs)))
    (digits_lt h.0 (joined_small fs h.1))

-- what is joined is cut out again
pub cut-joined : (n : ℕ) (fs : List (ℕ × ℕ)) → Small fs → cut (widths fs) (joined n fs) ≡ fs
cut-joined n [] h = refl
cut-joined n (f ∷ fs) h = λ i. (f.0, value i) ∷ cut-joined (n * 2 ^ f.0 + f.1) fs h.1 i
  where
    value : joined (n * 2 ^ f.0 + f.1) fs / 2 ^ total (widths fs) % 2 ^ f.0 ≡ f.1
    value =
        rw (joined-front (n * 2 ^ f.0 + f.1) fs, high (n * 2 ^ f.0 + f.1) (total (widths fs)) (joined_small fs h.1))
        (low n f.0 h.0)

pub joined-cut-front : (ws : List ℕ) (n : ℕ) → joined (n / 2 ^ total ws) (cut ws n) ≡ n
joined-cut-front [] n = div-one n
joined-cut-front (w ∷ ws) n =
    ap (λ (k : ℕ). joined (k * 2 ^ w + n / 2 ^ total ws % 2 ^ w) (cut ws n))
    (ap (λ (k : ℕ). n / 2 ^ k) (add_comm w (total ws)) ∙ sym (shr-shr n (total ws) w))
    ∙ ap (λ (k : ℕ). joined k (cut ws n)) (split (n / 2 ^ total ws) w)
    ∙ joined-cut-front ws n

-- what is cut out joins to the same number
pub joined-cut : (ws : List ℕ) (n : ℕ) → n < 2 ^ total ws → joined 0 (cut ws n) ≡ n
joined-cut ws n h = ap (λ (k : ℕ). joined k (cut ws n)) (sym (div-eq_of_lt h)) ∙ joined-cut-front ws n
