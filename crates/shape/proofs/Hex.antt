-- The hexadecimal digits of a UETR: each is worth less than 16 and is written as it was read, and four of them are worth less than 2 ^ 16.
-- Assumes nothing.
use mathlib.Core.Path.{◌≡◌, refl, sym, subst, ◌∙◌}
use mathlib.Core.Bool.{Bool, true, false, ◌&&◌, ◌||◌, cond, false≢true}
use mathlib.Core.List.{List, [], ◌∷◌}
use Prim.Native.Nat.{ℕ, zero, suc, ◌+◌, ◌-◌, ◌^◌, ◌<◌, ◌≤◌}
use native.Mathlib.Omega.{arith}
use Prim.Native.Char.{code}
use lib.Dec.{leb, ltb, eqb}
use lib.ListN.{length, get_or}
use borrow.Author.Tests.{eqb-true, lt-ltb, le-ltb}
use Rattle.shape.specs.Bytes.{is_digit, is_hex, is_variant}
use Rattle.shape.specs.Patterns.{within, fits, uetr_pattern, hex, variant}
use Rattle.shape.specs.Numbers.{digit_value, letter_base, hex_value}
use Rattle.shape.specs.Stored.{hex_bits, group_bits, four_from, is_uetr, hex_digit}
use Rattle.shape.proofs.Loops.{fits-length}
use Rattle.shape.proofs.Tests.{and_left, and_right, or_cases, or_left, or_right, in-range, range-in}

-- the classes of a UETR's digits: any, the variant, and the version, which is 4
abbrev pub is_digit_class : ℕ → Bool
is_digit_class c = eqb c hex || eqb c variant || eqb c 52

hex-of-hex : (b : ℕ) → within hex b ≡ true → is_hex b ≡ true
unfolding within
hex-of-hex b e = e

hex-of-variant : (b : ℕ) → within variant b ≡ true → is_hex b ≡ true
unfolding within is_variant is_hex is_digit
hex-of-variant b e =
    or_cases (leb 56 b && leb b 57) (leb 97 b && leb b 98) e
    (λ h. let r = in-range 56 57 b h in or_left _ _ (range-in 48 57 b (omega arith) (omega arith)))
    (λ h. let r = in-range 97 98 b h in or_right (is_digit b) _ (range-in 97 102 b (omega arith) (omega arith)))

hex-of-four : (b : ℕ) → within 52 b ≡ true → is_hex b ≡ true
unfolding within is_hex is_digit
hex-of-four b e = rw (eqb-true b 52 e)

pub hex-within : (c b : ℕ) → is_digit_class c ≡ true → within c b ≡ true → is_hex b ≡ true
hex-within c b e w =
    or_cases (eqb c hex || eqb c variant) (eqb c 52) e
    (λ h. or_cases (eqb c hex) (eqb c variant) h
    (λ k. hex-of-hex b (subst (λ (x : ℕ). within x b ≡ true) (eqb-true c hex k) w))
    (λ k. hex-of-variant b (subst (λ (x : ℕ). within x b ≡ true) (eqb-true c variant k) w)))
    (λ k. hex-of-four b (subst (λ (x : ℕ). within x b ≡ true) (eqb-true c 52 k) w))

-- a digit's place in the pattern holds a digit in the text
pub hex-at : (p s : List ℕ) (i : ℕ) → fits p s ≡ true → is_digit_class (get_or p i 0) ≡ true → is_hex (get_or s i 0) ≡ true
unfolding fits
hex-at [] s i e d = absurd (false≢true d)
hex-at (k ∷ p) [] i e d = absurd (false≢true e)
hex-at (k ∷ p) (b ∷ s) zero e d = hex-within k b d (and_left (within k b) (fits p s) e)
hex-at (k ∷ p) (b ∷ s) (suc i) e d = hex-at p s i (and_right (within k b) (fits p s) e) d

digit-range : (b : ℕ) → is_digit b ≡ true → (48 ≤ b) × (b ≤ 57)
unfolding is_digit
digit-range b e = in-range 48 57 b e

-- what a hexadecimal digit is worth, where it is known whether it is a decimal one
abbrev worth : Bool → ℕ → ℕ
worth t b = cond t (digit_value b) (b - letter_base)

pub hex-small : (b : ℕ) → is_hex b ≡ true → hex_value b < 2 ^ hex_bits
unfolding is_hex hex_value
hex-small b e = go (is_digit b) refl
  where
    go : (t : Bool) → is_digit b ≡ t → worth t b < 2 ^ hex_bits
    go true d = let r = digit-range b d in omega arith
    go false d = let r = in-range 97 102 b (or_cases (is_digit b) (leb 97 b && leb b 102) e (λ k. absurd (false≢true (sym d ∙ k))) (λ k. k)) in omega arith

-- the digit of the variant is worth 8 to 11
pub variant-value : (b : ℕ) → is_variant b ≡ true → (8 ≤ hex_value b) × (hex_value b ≤ 11)
unfolding is_variant is_digit hex_value
variant-value b e =
    or_cases (leb 56 b && leb b 57) (leb 97 b && leb b 98) e
    (λ h. let r = in-range 56 57 b h in low (is_digit b) refl r.0 r.1)
    (λ h. let r = in-range 97 98 b h in high (is_digit b) refl r.0 r.1)
  where
    low : (t : Bool) → is_digit b ≡ t → 56 ≤ b → b ≤ 57 → (8 ≤ worth t b) × (worth t b ≤ 11)
    low true d h k = (omega arith, omega arith)
    low false d h k = absurd (false≢true (sym d ∙ range-in 48 57 b (omega arith) (omega arith)))

    high : (t : Bool) → is_digit b ≡ t → 97 ≤ b → b ≤ 98 → (8 ≤ worth t b) × (worth t b ≤ 11)
    high true d h k = let r = digit-range b d in absurd (omega arith)
    high false d h k = (omega arith, omega arith)

-- the text's four bytes from i on are digits where the pattern's are
pub four-hex : (s : List ℕ) (i : ℕ) → is_uetr s ≡ true
    → is_digit_class (get_or uetr_pattern (i + 0) 0) ≡ true → is_digit_class (get_or uetr_pattern (i + 1) 0) ≡ true
    → is_digit_class (get_or uetr_pattern (i + 2) 0) ≡ true → is_digit_class (get_or uetr_pattern (i + 3) 0) ≡ true
    → (is_hex (get_or s (i + 0) 0) ≡ true) × (is_hex (get_or s (i + 1) 0) ≡ true) × (is_hex (get_or s (i + 2) 0) ≡ true) × (is_hex (get_or s (i + 3) 0) ≡ true)
unfolding is_uetr
four-hex s i e d₀ d₁ d₂ d₃ =
    (hex-at uetr_pattern s (i + 0) e d₀, hex-at uetr_pattern s (i + 1) e d₁, hex-at uetr_pattern s (i + 2) e d₂, hex-at uetr_pattern s (i + 3) e d₃)

pub four-small : (s : List ℕ) (i : ℕ) → is_hex (get_or s (i + 0) 0) ≡ true → is_hex (get_or s (i + 1) 0) ≡ true
    → is_hex (get_or s (i + 2) 0) ≡ true → is_hex (get_or s (i + 3) 0) ≡ true → four_from s i < 2 ^ group_bits
unfolding four_from
four-small s i h₀ h₁ h₂ h₃ =
    omega (arith, hex-small (get_or s (i + 0) 0) h₀, hex-small (get_or s (i + 1) 0) h₁, hex-small (get_or s (i + 2) 0) h₂, hex-small (get_or s (i + 3) 0) h₃)

-- a digit is written as it was read
pub hex-written : (b : ℕ) → is_hex b ≡ true → hex_digit (hex_value b) ≡ b
unfolding is_hex hex_value hex_digit
hex-written b e = go (is_digit b) refl
  where
    go : (t : Bool) → is_digit b ≡ t → cond (ltb (worth t b) 10) (code "0" + worth t b) (letter_base + worth t b) ≡ b
    go true d = let r = digit-range b d in rw (lt-ltb (digit_value b) 10 (omega arith)) (omega arith)
    go false d =
        let r = in-range 97 102 b (or_cases (is_digit b) (leb 97 b && leb b 102) e (λ k. absurd (false≢true (sym d ∙ k))) (λ k. k)) in
        rw (le-ltb (b - letter_base) 10 (omega arith)) (omega arith)

-- a UETR has 36 bytes, and each of its eight groups is below 2 ^ 16
pub group-below : (n i : ℕ) (s : List ℕ) → n ≡ four_from s i → is_uetr s ≡ true
    → is_digit_class (get_or uetr_pattern (i + 0) 0) ≡ true → is_digit_class (get_or uetr_pattern (i + 1) 0) ≡ true
    → is_digit_class (get_or uetr_pattern (i + 2) 0) ≡ true → is_digit_class (get_or uetr_pattern (i + 3) 0) ≡ true
    → n < 2 ^ group_bits
group-below n i s e u d₀ d₁ d₂ d₃ =
    let h = four-hex s i u d₀ d₁ d₂ d₃ in rw e (four-small s i h.0 h.1 h.2 h.3)

pub uetr-length : (s : List ℕ) → is_uetr s ≡ true → length s ≡ 36
unfolding is_uetr uetr_pattern
uetr-length s e = fits-length uetr_pattern s e

pub ruleset uetr = (group-below, uetr-length)
