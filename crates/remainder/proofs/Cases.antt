-- Case 6 of document 01, worked out over the definitions: one IBAN that check 34 lets pass, and the same with another last digit, which it
-- does not.
-- Assumes nothing.
use Rattle.std.specs.Prelude.{Some}
use mathlib.Core.Path.{◌≡◌, refl}
use mathlib.Core.List.{List, [], ◌∷◌}
use Prim.Native.Nat.{ℕ}
use native.Mathlib.Omega.{arith}
use Rattle.shape.specs.Bytes.{is_digit, is_capital, is_digit_or_capital}
use Rattle.remainder.specs.Remainder.{written, whole, is_plain, remainder_of}

-- UA21322313000002600723356600, and a last digit
abbrev pub ending : ℕ → List ℕ
ending d =
    85 ∷ 65 ∷ 50 ∷ 49 ∷ 51 ∷ 50 ∷ 50 ∷ 51 ∷ 49 ∷ 51 ∷ 48 ∷ 48 ∷ 48 ∷ 48 ∷ 48 ∷ 50 ∷ 54 ∷ 48 ∷ 48 ∷ 55 ∷ 50 ∷ 51 ∷ 51 ∷ 53 ∷ 54 ∷ 54 ∷ 48 ∷ 48 ∷ d ∷ []

-- the digit 1
pub case-6-right : remainder_of (ending 49) ≡ Some 1
unfolding remainder_of is_plain is_digit_or_capital is_digit is_capital whole written
case-6-right = refl

-- the digit 2
pub case-6-wrong : remainder_of (ending 50) ≡ Some 28
unfolding remainder_of is_plain is_digit_or_capital is_digit is_capital whole written
case-6-wrong = refl

pub case-6-wrong-not-one : remainder_of (ending 50) ≡ Some 1 → ⊥
case-6-wrong-not-one e = let z : ◌≡◌ {A = ℕ} 28 1 = cc case-6-wrong in omega arith
