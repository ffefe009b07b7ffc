-- Numbers taken apart again: seven bytes, four hexadecimal digits, and the groups of a UETR.
-- Assumes nothing.
use mathlib.Core.Path.{◌≡◌, ap, ◌∙◌}
use mathlib.Core.Bool.{true}
use mathlib.Core.List.{List, [], ◌∷◌, map}
use Prim.Native.Nat.{ℕ, ◌+◌, ◌/◌, ◌%◌, ◌^◌, ◌<◌}
use native.Mathlib.Omega.{arith}
use lib.ListN.{get_or, replicate}
use Rattle.shape.specs.Bits.{cut}
use Rattle.shape.specs.Bytes.{byte_bits, is_hex}
use Rattle.shape.specs.Numbers.{hex_value}
use Rattle.shape.specs.Stored.{hex_bits, group_bits, seven_from, seven_bytes, four_from, groups, hex_digit, group_text}
use Rattle.shape.proofs.Bits.{cut-joined}
use Rattle.shape.proofs.Hex.{hex-small, hex-written, four-small}

-- seven bytes stand in their number
pub seven-back : (s : List ℕ) (i : ℕ) → ((k : ℕ) → get_or s k 0 < 2 ^ byte_bits)
    → seven_bytes (seven_from s i) ≡ map (λ (k : ℕ). get_or s (i + k) 0) (0 ∷ 1 ∷ 2 ∷ 3 ∷ 4 ∷ 5 ∷ 6 ∷ [])
unfolding seven_from
seven-back s i h =
    ap (map (λ (f : ℕ × ℕ). f.1))
    (cut-joined 0 (map {B = ℕ × ℕ} (λ (k : ℕ). (byte_bits, get_or s (i + k) 0)) (0 ∷ 1 ∷ 2 ∷ 3 ∷ 4 ∷ 5 ∷ 6 ∷ []))
    (h (i + 0), (h (i + 1), (h (i + 2), (h (i + 3), (h (i + 4), (h (i + 5), (h (i + 6), tt))))))))

-- the text of one group
abbrev four_digits : ℕ → List ℕ
four_digits n = map (λ (f : ℕ × ℕ). hex_digit f.1) (cut (replicate 4 hex_bits) n)

-- the four bytes from a place on
abbrev pub four_bytes : List ℕ → ℕ → List ℕ
four_bytes s i = map (λ (k : ℕ). get_or s (i + k) 0) (0 ∷ 1 ∷ 2 ∷ 3 ∷ [])

-- they are hexadecimal digits
abbrev pub FourHex : List ℕ → ℕ → Type 0
FourHex s i =
    (is_hex (get_or s (i + 0) 0) ≡ true) × (is_hex (get_or s (i + 1) 0) ≡ true) × (is_hex (get_or s (i + 2) 0) ≡ true) × (is_hex (get_or s (i + 3) 0) ≡ true)

-- four digits are worth less than a group of bits holds
pub four-fit : (s : List ℕ) (i : ℕ) → FourHex s i → four_from s i < 2 ^ group_bits
four-fit s i h = four-small s i h.0 h.1 h.2 h.3

-- four digits stand in their number
four-back : (s : List ℕ) (i : ℕ) → FourHex s i → four_digits (four_from s i) ≡ four_bytes s i
unfolding four_from
four-back s i h =
    ap (map (λ (f : ℕ × ℕ). hex_digit f.1))
    (cut-joined 0 (map {B = ℕ × ℕ} (λ (k : ℕ). (hex_bits, hex_value (get_or s (i + k) 0))) (0 ∷ 1 ∷ 2 ∷ 3 ∷ []))
    (hex-small _ h.0, (hex-small _ h.1, (hex-small _ h.2, (hex-small _ h.3, tt)))))
    ∙ (λ j. hex-written _ h.0 j ∷ hex-written _ h.1 j ∷ hex-written _ h.2 j ∷ hex-written _ h.3 j ∷ [])

-- four groups stand in their number
groups-back : (a b c d : ℕ) → a < 2 ^ group_bits → b < 2 ^ group_bits → c < 2 ^ group_bits → d < 2 ^ group_bits
    → map (λ (f : ℕ × ℕ). f.1) (cut (replicate 4 group_bits) (groups a b c d)) ≡ a ∷ b ∷ c ∷ d ∷ []
unfolding groups
groups-back a b c d ha hb hc hd =
    ap (map (λ (f : ℕ × ℕ). f.1)) (cut-joined 0 ((group_bits, a) ∷ (group_bits, b) ∷ (group_bits, c) ∷ (group_bits, d) ∷ []) (ha, (hb, (hc, (hd, tt)))))

-- sixteen digits in four groups stand in their number
pub half_back : (s : List ℕ) (i j k l : ℕ) → FourHex s i → FourHex s j → FourHex s k → FourHex s l
    → (group_text (groups (four_from s i) (four_from s j) (four_from s k) (four_from s l)) 3 ≡ four_bytes s i)
    × (group_text (groups (four_from s i) (four_from s j) (four_from s k) (four_from s l)) 2 ≡ four_bytes s j)
    × (group_text (groups (four_from s i) (four_from s j) (four_from s k) (four_from s l)) 1 ≡ four_bytes s k)
    × (group_text (groups (four_from s i) (four_from s j) (four_from s k) (four_from s l)) 0 ≡ four_bytes s l)
half_back s i j k l hi hj hk hl =
    let g = groups-back (four_from s i) (four_from s j) (four_from s k) (four_from s l) (four-fit s i hi) (four-fit s j hj) (four-fit s k hk) (four-fit s l hl) in
    (ap (digits_at 0) g ∙ four-back s i hi, ap (digits_at 1) g ∙ four-back s j hj, ap (digits_at 2) g ∙ four-back s k hk, ap (digits_at 3) g ∙ four-back s l hl)
  where
    digits_at : ℕ → List ℕ → List ℕ
    digits_at m values = four_digits (get_or values m 0)

-- the first digit of the last group stands above the last twelve bits
pub last-group-digit : (s : List ℕ) (i : ℕ) (a b c : ℕ) → FourHex s i
    → groups a b c (four_from s i) / 4096 % 16 ≡ hex_value (get_or s (i + 0) 0)
unfolding groups four_from
last-group-digit s i a b c h =
    omega (arith, hex-small (get_or s (i + 0) 0) h.0, hex-small (get_or s (i + 1) 0) h.1, hex-small (get_or s (i + 2) 0) h.2, hex-small (get_or s (i + 3) 0) h.3)

-- the first digit of the first group stands at the top
pub first-group-digit : (s : List ℕ) (i : ℕ) (b c d : ℕ) → FourHex s i → b < 2 ^ group_bits → c < 2 ^ group_bits → d < 2 ^ group_bits
    → groups (four_from s i) b c d / 2 ^ 60 ≡ hex_value (get_or s (i + 0) 0)
unfolding groups four_from
first-group-digit s i b c d h hb hc hd =
    omega (arith, hex-small (get_or s (i + 1) 0) h.1, hex-small (get_or s (i + 2) 0) h.2, hex-small (get_or s (i + 3) 0) h.3)
