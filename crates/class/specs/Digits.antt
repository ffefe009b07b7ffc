-- The bytes of a slip written as hexadecimal digits, two for each byte, with blanks between them or not. How many bytes a slip has is left to
-- the call that reads it; here there are at most as many as one that is written has.
use Rattle.std.specs.Prelude.{Bool, ◌&&◌, ◌||◌, cond, List, [], ◌∷◌, ℕ, suc, ◌*◌, ◌/◌, ◌%◌, leb, ltb, eqb, get_or, set, take, replicate, fold}
use Rattle.shape.specs.Bytes.{every, is_digit}
use Rattle.slip.specs.Meaning.{slip_long}
use Rattle.text.specs.Hexadecimal.{byte_of}
use Rattle.class.specs.declared.digits.Ink.{Ink}

-- how many digits a slip has at most, two for each byte
abbrev pub slip_digits : ℕ
slip_digits = 2 * slip_long

-- the bytes of a text that are no blanks: the first twelve in their places, and how many there are; after a thirteenth nothing
-- changes
abbrev pub no_ink : Ink
no_ink = record { count = 0; bytes = replicate slip_digits 0 }

abbrev pub inked_at : Ink → ℕ → Ink
inked_at ink b = record { count = suc ink.count; bytes = cond (ltb ink.count slip_digits) (set ink.bytes ink.count b) ink.bytes }

unfoldable pub inked : Ink → ℕ → Ink
inked ink b = cond (leb b 32) ink (cond (ltb slip_digits ink.count) ink (inked_at ink b))

unfoldable pub ink_in : List ℕ → Ink
ink_in s = fold inked no_ink s

-- a hexadecimal digit, in a capital or a small letter
abbrev pub is_hex_digit : ℕ → Bool
is_hex_digit b = (is_digit b || (leb 65 b && leb b 70)) || (leb 97 b && leb b 102)

-- digits and nothing else, an even number of them, and not too many
unfoldable pub whole_bytes : Ink → Bool
whole_bytes ink = leb ink.count slip_digits && (eqb (ink.count % 2) 0 && every is_hex_digit (take ink.count ink.bytes))

-- the byte that two digits write, from a place on
abbrev pub byte_at : Ink → ℕ → ℕ
byte_at ink k = byte_of (get_or ink.bytes k 0) (get_or ink.bytes (suc k) 0)

-- the bytes that twelve digits write, and those that there are digits for
unfoldable pub twelve_as_bytes : Ink → List ℕ
twelve_as_bytes ink = byte_at ink 0 ∷ byte_at ink 2 ∷ byte_at ink 4 ∷ byte_at ink 6 ∷ byte_at ink 8 ∷ byte_at ink 10 ∷ []

unfoldable pub bytes_in : Ink → List ℕ
bytes_in ink = take (ink.count / 2) (twelve_as_bytes ink)
