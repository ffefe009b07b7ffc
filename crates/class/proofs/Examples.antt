-- Digits read by the definition, computed: document 01's case 8 in both forms, with blanks and without, and texts that are not the digits of
-- whole bytes.
-- Assumes nothing.
use mathlib.Core.Path.{◌≡◌, refl}
use mathlib.Core.Bool.{false}
use mathlib.Core.List.{[], ◌∷◌}
use Rattle.shape.specs.Text.{bytes}
use Rattle.shape.specs.Bytes.{is_digit}
use Rattle.class.specs.Digits.{inked, ink_in, whole_bytes, twelve_as_bytes, bytes_in}

case-8 : bytes_in (ink_in (bytes "48 0C 00 04 01")) ≡ 0x48 ∷ 0x0C ∷ 0x00 ∷ 0x04 ∷ 0x01 ∷ []
unfolding inked ink_in bytes_in twelve_as_bytes is_digit
case-8 = refl

case-8-in-six-bytes : bytes_in (ink_in (bytes "480600020080")) ≡ 0x48 ∷ 0x06 ∷ 0x00 ∷ 0x02 ∷ 0x00 ∷ 0x80 ∷ []
unfolding inked ink_in bytes_in twelve_as_bytes is_digit
case-8-in-six-bytes = refl

in-small-letters : bytes_in (ink_in (bytes "480c000401")) ≡ 0x48 ∷ 0x0C ∷ 0x00 ∷ 0x04 ∷ 0x01 ∷ []
unfolding inked ink_in bytes_in twelve_as_bytes is_digit
in-small-letters = refl

eleven-digits : whole_bytes (ink_in (bytes "480C0004010")) ≡ false
unfolding inked ink_in whole_bytes is_digit
eleven-digits = refl

fourteen-digits : whole_bytes (ink_in (bytes "48 0C 00 04 01 00 00")) ≡ false
unfolding inked ink_in whole_bytes is_digit
fourteen-digits = refl

no_digit : whole_bytes (ink_in (bytes "48 0C 00 04 0G")) ≡ false
unfolding inked ink_in whole_bytes is_digit
no_digit = refl
