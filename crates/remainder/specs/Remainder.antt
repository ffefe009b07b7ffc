-- The remainder of an IBAN by ISO 7064 MOD 97-10, as ISO 13616 uses it: the four first characters are moved to the end, letters stand for
-- the numbers 10 to 35, and what is left is one whole number, taken modulo 97. Check 34 wants 1, and looks at nothing else: not at the range
-- of the two check digits, nor at a country's length.
-- What is said here is the number alone, not how it is worked out. It is said of every text of four or more digits and capitals, of any
-- country; any other text has no remainder.
use Rattle.std.specs.Prelude.{Bool, ◌&&◌, cond, List, [], ◌∷◌, ◌++◌, ℕ, ◌+◌, ◌-◌, ◌*◌, ◌%◌, leb, length, take, drop, Option, Some, None}
use Prim.Native.Char.{code}
use Rattle.shape.specs.Bytes.{every, is_digit, is_digit_or_capital}

-- MOD 97-10
abbrev pub modulus : ℕ
modulus = 97

-- what a capital is above its number: A is 10
abbrev pub capital_base : ℕ
capital_base = code "A" - 10

-- the decimal digits of n and after them those of a character: a digit's own one, or the two of a capital's number, A is 10 and Z is 35.
-- No other character is part of an IBAN; what is said of one here is only there to say something of every byte
unfoldable pub written : ℕ → ℕ → ℕ
written n b = cond (is_digit b) (n * 10 + (b - code "0")) (n * 100 + (b - capital_base))

-- the same for each character of a text in turn
abbrev pub written_all : ℕ → List ℕ → ℕ
written_all n [] = n
written_all n (b ∷ s) = written_all (written n b) s

-- the whole number of an IBAN
unfoldable pub whole : List ℕ → ℕ
whole s = written_all 0 (drop 4 s ++ take 4 s)

-- four or more digits and capitals
unfoldable pub is_plain : List ℕ → Bool
is_plain s = leb 4 (length s) && every is_digit_or_capital s

unfoldable pub remainder_of : List ℕ → Option ℕ
remainder_of s = cond (is_plain s) (Some (whole s % modulus)) None
