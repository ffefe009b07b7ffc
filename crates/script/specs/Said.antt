-- What a word behind the first one says, as a number. A word that does not say what is wanted gives nothing.
use Rattle.std.specs.Prelude.{Bool, ◌&&◌, cond, List, [], ◌∷◌, map, ℕ, ◌+◌, ◌-◌, ◌*◌, leb, eqb, length, get_or, take, drop, Option, Some, None}
use Prim.Native.Char.{code}
use Rattle.shape.specs.Text.{bytes}
use Rattle.shape.specs.Bytes.{every, is_digit}
use Rattle.shape.specs.Numbers.{decimal}
use Rattle.script.specs.Places.{is_same}
use Rattle.script.specs.declared.values.Want.{Want}
use Rattle.script.specs.declared.values.Want.TheVariants.{Number, Sum, Date, Answer, Instant, Limit}

-- the most digits of a number, and of a sum before its point
abbrev pub number_digits_most : ℕ
number_digits_most = 19

abbrev pub sum_digits_most : ℕ
sum_digits_most = 16

-- a number: 1 to 19 digits
unfoldable pub number_of : List ℕ → Option ℕ
number_of s = cond (leb 1 (length s) && leb (length s) number_digits_most && every is_digit s) (Some (decimal s)) None

-- a sum in kopecks by its 1 to 16 digits before the point and the two behind it
unfoldable pub sum_from : List ℕ → List ℕ → Option ℕ
sum_from units hundredths =
    cond (leb 1 (length units) && leb (length units) sum_digits_most && eqb (length hundredths) 2
    && every is_digit units && every is_digit hundredths)
    (Some (decimal units * 100 + decimal hundredths))
    None

-- a point stands before the last two bytes
abbrev pub has_point : List ℕ → Bool
has_point s = leb 3 (length s) && eqb (get_or s (length s - 3) 0) (code ".")

-- a sum: with a point and two digits behind it, or without, which is with .00
unfoldable pub sum_of : List ℕ → Option ℕ
sum_of s =
    cond (has_point s)
    (sum_from (take (length s - 3) s) (drop (length s - 2) s))
    (sum_from s (bytes "00"))

-- where the eight digits of YYYY-MM-DD stand
abbrev pub date_places : List ℕ
date_places = 0 ∷ 1 ∷ 2 ∷ 3 ∷ 5 ∷ 6 ∷ 8 ∷ 9 ∷ []

-- a date: four digits, `-`, two, `-`, two, and 2024-03-01 is 20240301
unfoldable pub date_of : List ℕ → Option ℕ
date_of s =
    cond (eqb (length s) 10 && eqb (get_or s 4 0) (code "-") && eqb (get_or s 7 0) (code "-"))
    (number_of (map (λ (i : ℕ). get_or s i 0) date_places))
    None

-- one of two words, 1 for the first and 0 for the second
unfoldable pub either_of : List ℕ → List ℕ → List ℕ → Option ℕ
either_of first second s = cond (is_same first s) (Some 1) (cond (is_same second s) (Some 0) None)

-- one more than a value
abbrev pub above : Option ℕ → Option ℕ
above (Some n) = Some (n + 1)
above None = None

-- a limit: none as 0, a sum n as n + 1
unfoldable pub limit_of : List ℕ → Option ℕ
limit_of s = cond (is_same (bytes "none") s) (Some 0) (above (sum_of s))

-- what a word says where this is wanted: an answer is yes or no
unfoldable pub value_of : Want → List ℕ → Option ℕ
value_of Number s = number_of s
value_of Sum s = sum_of s
value_of Date s = date_of s
value_of Answer s = either_of (bytes "yes") (bytes "no") s
value_of Instant s = either_of (bytes "instant") (bytes "ordinary") s
value_of Limit s = limit_of s
