-- All the bytes of a name, and how many a Ccy has.
-- Assumes nothing.
use Rattle.std.specs.Prelude.{Some}
use mathlib.Core.Path.{◌≡◌}
use mathlib.Core.Bool.{true, ◌&&◌, false≢true}
use mathlib.Core.List.{List, [], ◌∷◌}
use Prim.Native.Nat.{ℕ}
use lib.Dec.{leb}
use lib.ListN.{length}
use Rattle.shape.specs.Bytes.{every, is_digit, is_letter}
use Rattle.shape.specs.Patterns.{currency_pattern}
use Rattle.shape.proofs.Tests.{and_left, and_right, or_left}
use Rattle.shape.proofs.Loops.{fits-length}
use Rattle.sheet.specs.Grammar.{name_most, is_name_byte, is_name, is_ccy}

-- each byte of a name is a name's byte
pub name-bytes : (name : List ℕ) → is_name name ≡ true → every is_name_byte name ≡ true
unfolding is_name is_name_byte
name-bytes [] g = absurd (false≢true g)
name-bytes (b ∷ w) g =
    let begins = and_left (is_letter b && every is_name_byte w) (leb (length (b ∷ w)) name_most) g in
    rw (or_left (is_letter b) (is_digit b) (and_left (is_letter b) (every is_name_byte w) begins), and_right (is_letter b) (every is_name_byte w) begins)

-- a Ccy is three bytes
pub ccy-three : (ccy : List ℕ) → is_ccy (Some ccy) ≡ true → length ccy ≡ 3
unfolding is_ccy currency_pattern
ccy-three ccy g = fits-length currency_pattern ccy g
