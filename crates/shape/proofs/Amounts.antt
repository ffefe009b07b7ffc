-- An amount has 4 to 14 bytes.
-- Assumes nothing.
use mathlib.Core.Path.{◌≡◌, refl}
use mathlib.Core.Bool.{Bool, true, false, not, ◌&&◌, ◌||◌, false≢true}
use mathlib.Core.List.{List}
use Prim.Native.Nat.{ℕ, ◌≤◌}
use Prim.Native.Char.{code}
use lib.Dec.{leb, ltb, eqb}
use lib.ListN.{length, get_or}
use borrow.Author.Tests.{leb-true}
use Rattle.shape.specs.Bytes.{every, is_digit}
use Rattle.shape.specs.Fields.{amount_bytes_least, amount_bytes_most, whole, point, hundredths, kopecks, is_amount}

first_two : (a b c d e f g : Bool) → (a && b && c && d && e && f && g) ≡ true → (a ≡ true) × (b ≡ true)
first_two true true c d e f g h = (refl, refl)
first_two true false c d e f g h = (refl, h)
first_two false b c d e f g h = absurd (false≢true h)

pub amount-length : (s : List ℕ) → is_amount s ≡ true → (amount_bytes_least ≤ length s) × (length s ≤ amount_bytes_most)
unfolding is_amount
amount-length s e =
    let t = first_two (leb amount_bytes_least (length s)) (leb (length s) amount_bytes_most)
    (every is_digit (whole s)) (eqb (length s) amount_bytes_least || not (eqb (get_or s 0 0) (code "0")))
    (eqb (point s) (code ".")) (every is_digit (hundredths s)) (ltb 0 (kopecks s)) e in
    (leb-true amount_bytes_least (length s) t.0, leb-true (length s) amount_bytes_most t.1)

pub ruleset lengths = (amount-length)
