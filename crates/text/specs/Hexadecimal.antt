-- What hexadecimal digits write.
use Rattle.std.specs.Prelude.{ℕ, ◌+◌, ◌*◌, ◌%◌, cond, List, get_or}
use Rattle.shape.specs.Bytes.{is_digit}

-- what a digit stands for: letters are 1 to 6 above a multiple of sixteen
abbrev pub digit_of : ℕ → ℕ
digit_of b = cond (is_digit b) (b % 16) (b % 16 + 9)

-- the byte that two digits write
abbrev pub byte_of : ℕ → ℕ → ℕ
byte_of high low = (digit_of high * 16 + digit_of low) % 256

-- the byte that two digits of a text write, by its number among them
abbrev pub byte_at : List ℕ → ℕ → ℕ
byte_at s k = byte_of (get_or s (2 * k) 0) (get_or s (2 * k + 1) 0)
