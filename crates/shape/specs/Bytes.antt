-- The classes of bytes that shapes are made of. Letters, digits and capitals are those of ASCII.
use Rattle.std.specs.Prelude.{Bool, true, not, ◌&&◌, ◌||◌, List, [], ◌∷◌, ℕ, leb, eqb}
use Prim.Native.Char.{Char, code}

-- the bits of a byte
abbrev pub byte_bits : ℕ
byte_bits = 8

abbrev between : Char → Char → ℕ → Bool
between lo hi b = leb (code lo) b && leb b (code hi)

unfoldable pub is_digit : ℕ → Bool
is_digit b = between "0" "9" b

unfoldable pub is_capital : ℕ → Bool
is_capital b = between "A" "Z" b

unfoldable pub is_small : ℕ → Bool
is_small b = between "a" "z" b

unfoldable pub is_letter : ℕ → Bool
is_letter b = is_capital b || is_small b

unfoldable pub is_digit_or_capital : ℕ → Bool
is_digit_or_capital b = is_digit b || is_capital b

-- a hexadecimal digit in small letters
unfoldable pub is_hex : ℕ → Bool
is_hex b = is_digit b || between "a" "f" b

-- the digit of a UUID that says its variant: 8, 9, a or b
unfoldable pub is_variant : ℕ → Bool
is_variant b = between "8" "9" b || between "a" "b" b

-- a byte of a text: 32 to 126 without `<`, `>` and `&`
unfoldable pub is_text : ℕ → Bool
is_text b = leb 32 b && leb b 126 && not (eqb b (code "<")) && not (eqb b (code ">")) && not (eqb b (code "&"))

-- the test holds at each element
abbrev pub every : {A : Type 0} → (A → Bool) → List A → Bool
every f [] = true
every f (x ∷ xs) = f x && every f xs
