-- Digits as numbers.
use Rattle.std.specs.Prelude.{cond, List, [], ◌∷◌, ℕ, ◌+◌, ◌-◌, ◌*◌}
use Prim.Native.Char.{code}
use Rattle.shape.specs.Bytes.{is_digit}

-- the most digits of one number that is read
abbrev pub digits_most : ℕ
digits_most = 14

-- the number that a decimal digit is
abbrev pub digit_value : ℕ → ℕ
digit_value b = b - code "0"

-- what a hexadecimal letter is above its number: a is 10
abbrev pub letter_base : ℕ
letter_base = code "a" - 10

-- the number that a hexadecimal digit in small letters is
unfoldable pub hex_value : ℕ → ℕ
hex_value b = cond (is_digit b) (digit_value b) (b - letter_base)

-- the number whose decimal digits are those of n and after them those of the text
abbrev pub decimal_from : ℕ → List ℕ → ℕ
decimal_from n [] = n
decimal_from n (b ∷ s) = decimal_from (n * 10 + digit_value b) s

-- the number that a text of digits writes
unfoldable pub decimal : List ℕ → ℕ
decimal s = decimal_from 0 s
