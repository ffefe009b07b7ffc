-- Identifiers and UETRs as whole numbers, for storing and comparing, and the texts read back from them.
-- An identifier is five numbers of seven bytes, its bytes from the top of the first number on, zeros behind its last byte.
-- A UETR is its 32 hexadecimal digits as two numbers of sixteen, each of four groups of four.
-- A text that has not the shape is all zeros; no identifier and no UETR is (`proofs/ReadBack.antt`, with the theorem that a text read back is the one that was stored).
use Rattle.std.specs.Prelude.{Bool, ◌&&◌, cond, List, [], ◌∷◌, ◌++◌, map, ℕ, ◌+◌, ◌*◌, ◌/◌, ◌%◌, ◌^◌, ltb, eqb, length, get_or, replicate}
use Prim.Native.Char.{code}
use Rattle.shape.specs.Bits.{joined, cut}
use Rattle.shape.specs.Bytes.{byte_bits}
use Rattle.shape.specs.Numbers.{letter_base, hex_value}
use Rattle.shape.specs.Patterns.{fits, uetr_pattern}
use Rattle.shape.specs.Fields.{is_identifier}
use Rattle.shape.specs.declared.stored.Identifier.{Identifier}
use Rattle.shape.specs.declared.stored.Uetr.{Uetr}
use Rattle.shape.specs.declared.stored.Text.{Text}

-- how many bytes of an identifier one number stores
abbrev pub stored_bytes : ℕ
stored_bytes = 7

-- seven bytes from a place on, as one number; past the end of the text they are zeros
unfoldable pub seven_from : List ℕ → ℕ → ℕ
seven_from s i =
    joined 0
    (map {B = ℕ × ℕ} (λ (k : ℕ). (byte_bits, get_or s (i + k) 0)) (0 ∷ 1 ∷ 2 ∷ 3 ∷ 4 ∷ 5 ∷ 6 ∷ []))

unfoldable pub identifier_of : List ℕ → Identifier
identifier_of s =
    cond (is_identifier s)
    (record {
      first = seven_from s 0;
      second = seven_from s stored_bytes;
      third = seven_from s (2 * stored_bytes);
      fourth = seven_from s (3 * stored_bytes);
      fifth = seven_from s (4 * stored_bytes);
    })
    (record { first = 0; second = 0; third = 0; fourth = 0; fifth = 0 })

unfoldable pub same_identifier : Identifier → Identifier → Bool
same_identifier x y =
    eqb x.first y.first && eqb x.second y.second && eqb x.third y.third
    && eqb x.fourth y.fourth && eqb x.fifth y.fifth

-- the bytes before the first zero
abbrev pub before_zero : List ℕ → List ℕ
before_zero [] = []
before_zero (b ∷ s) = cond (eqb b 0) [] (b ∷ before_zero s)

abbrev pub seven_bytes : ℕ → List ℕ
seven_bytes n = map (λ (f : ℕ × ℕ). f.1) (cut (replicate stored_bytes byte_bits) n)

-- all 35 bytes, and the text that is stored
unfoldable pub all_bytes : Identifier → List ℕ
all_bytes x =
    seven_bytes x.first ++ (seven_bytes x.second ++ (seven_bytes x.third ++ (seven_bytes x.fourth ++ seven_bytes x.fifth)))

unfoldable pub identifier_text : Identifier → List ℕ
identifier_text x = before_zero (all_bytes x)

-- the same as the code hands it on: all bytes, and how many of them are the text's
unfoldable pub stored_text : Identifier → Text
stored_text x = record { bytes = all_bytes x; length = length (identifier_text x) }

-- the bits of a hexadecimal digit, and of a group of four of them
abbrev pub hex_bits : ℕ
hex_bits = 4

abbrev pub group_bits : ℕ
group_bits = 4 * hex_bits

-- four hexadecimal digits from a place on, as one number
unfoldable pub four_from : List ℕ → ℕ → ℕ
four_from s i =
    joined 0
    (map {B = ℕ × ℕ} (λ (k : ℕ). (hex_bits, hex_value (get_or s (i + k) 0))) (0 ∷ 1 ∷ 2 ∷ 3 ∷ []))

-- four such groups as one number
unfoldable pub groups : ℕ → ℕ → ℕ → ℕ → ℕ
groups a b c d = joined 0 ((group_bits, a) ∷ (group_bits, b) ∷ (group_bits, c) ∷ (group_bits, d) ∷ [])

unfoldable pub is_uetr : List ℕ → Bool
is_uetr s = fits uetr_pattern s

unfoldable pub uetr_of : List ℕ → Uetr
uetr_of s =
    cond (is_uetr s)
    (record {
      high = groups (four_from s 0) (four_from s 4) (four_from s 9) (four_from s 14);
      low = groups (four_from s 19) (four_from s 24) (four_from s 28) (four_from s 32);
    })
    (record { high = 0; low = 0 })

unfoldable pub same_uetr : Uetr → Uetr → Bool
same_uetr x y = eqb x.high y.high && eqb x.low y.low

-- a hexadecimal digit as it is written
unfoldable pub hex_digit : ℕ → ℕ
hex_digit n = cond (ltb n 10) (code "0" + n) (letter_base + n)

-- the digits of the group of a number that has three, two, one or no group behind it
abbrev pub group_text : ℕ → ℕ → List ℕ
group_text n behind =
    map (λ (f : ℕ × ℕ). hex_digit f.1) (cut (replicate 4 hex_bits) (n / 2 ^ (group_bits * behind) % 2 ^ group_bits))

-- the text that is stored: groups of 8, 4, 4, 4 and 12 digits with hyphens between
unfoldable pub uetr_text : Uetr → List ℕ
uetr_text x =
    group_text x.high 3 ++ (group_text x.high 2
    ++ (code "-" ∷ group_text x.high 1
    ++ (code "-" ∷ group_text x.high 0
    ++ (code "-" ∷ group_text x.low 3
    ++ (code "-" ∷ group_text x.low 2 ++ (group_text x.low 1 ++ group_text x.low 0))))))
