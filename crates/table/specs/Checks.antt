-- The checks of document 01, "The checks", and of request 9 of document 02: the one table of all 37 with their codes, the order of each kind, and
-- the ISO code of an answer.
-- What each check means is said in docs/CHECKS.md, and when it fails in the crate that judges.
use Rattle.std.specs.Prelude.{Bool, false, ◌||◌, cond, List, [], ◌∷◌, ◌++◌, ℕ, zero, suc, ◌-◌, eqb, get_or, take, drop}
use Rattle.shape.specs.Text.{bytes}
use Rattle.shape.specs.Numbers.{decimal}
use Rattle.table.specs.declared.Kind.{Kind}
use Rattle.table.specs.declared.Kind.TheVariants.{Pacs008, Camt050, Pacs028, Pacs002}

-- how many checks there are, numbered from 1 on
abbrev pub checks_most : ℕ
checks_most = 37

-- all checks, a line for each: number, SEP code, ISO code or blanks
unfoldable pub checks : List (List ℕ)
checks =
    bytes "01 TE03 AGNT"
    ∷ bytes "02 TE04 AGNT"
    ∷ bytes "03 TE07 AGNT"
    ∷ bytes "04 TE08     "
    ∷ bytes "05 H026 RR04"
    ∷ bytes "06 DU01 DU01"
    ∷ bytes "07 H037 RR04"
    ∷ bytes "08 H005 AGNT"
    ∷ bytes "09 N002 RR04"
    ∷ bytes "10 KV03 RR04"
    ∷ bytes "11 KV02 RR04"
    ∷ bytes "12 N029     "
    ∷ bytes "13 N028     "
    ∷ bytes "14 N027     "
    ∷ bytes "15 N015     "
    ∷ bytes "16 N026     "
    ∷ bytes "17 DU03 DU03"
    ∷ bytes "18 N031     "
    ∷ bytes "19 N030     "
    ∷ bytes "20 A001 RR04"
    ∷ bytes "21 A002 RR04"
    ∷ bytes "22 M001 AM04"
    ∷ bytes "23 M003 RR04"
    ∷ bytes "24 A018 RR04"
    ∷ bytes "25 X002 AGNT"
    ∷ bytes "26 H018 RC10"
    ∷ bytes "27 X001 AGNT"
    ∷ bytes "28 H065 CNOR"
    ∷ bytes "29 H066 CNOR"
    ∷ bytes "30 H008 AGNT"
    ∷ bytes "31 H019 AGNT"
    ∷ bytes "32 H012 RC09"
    ∷ bytes "33 H013 RC09"
    ∷ bytes "34 T003 AC03"
    ∷ bytes "35 X003 NARR"
    ∷ bytes "36 TE10 FF10"
    ∷ bytes "37 X004 NARR"
    ∷ []

-- the columns of a line
abbrev pub number_in : List ℕ → ℕ
number_in line = decimal (take 2 line)

abbrev pub sep_in : List ℕ → List ℕ
sep_in line = take 4 (drop 3 line)

abbrev pub iso_in : List ℕ → List ℕ
iso_in line = drop 8 line

-- a code that there is none of, and the line of a number that is no check's
abbrev pub absent : List ℕ
absent = bytes "    "

abbrev pub blank : List ℕ
blank = bytes "            "

unfoldable pub line_of : ℕ → List ℕ
line_of n = cond (eqb n 0) blank (get_or checks (n - 1) blank)

-- the SEP code of a check
unfoldable pub sep_of : ℕ → List ℕ
sep_of n = sep_in (line_of n)

-- the ISO code of an answer: camt.050 uses none
unfoldable pub iso_of : Kind → ℕ → List ℕ
iso_of Camt050 n = absent
iso_of Pacs008 n = iso_in (line_of n)
iso_of Pacs028 n = iso_in (line_of n)
iso_of Pacs002 n = iso_in (line_of n)

-- so many numbers from a on, and those from a to b
abbrev pub from : ℕ → ℕ → List ℕ
from a zero = []
from a (suc n) = a ∷ from (suc a) n

infix 70 ◌to◌
abbrev pub ◌to◌ : ℕ → ℕ → List ℕ
a to b = from a (suc b - a)

-- the checks of a pacs.002 by which the transfer that it answers is rejected; by an earlier one of its order the transfer goes on waiting
abbrev pub rejecting : List ℕ
rejecting = 36 ∷ 37 ∷ 20 to 24

-- the checks of a kind of message, in the order in which they run; a pacs.008 moves no money yet, its answer does
unfoldable pub order_of : Kind → List ℕ
order_of Camt050 = 1 to 5 ++ 7 ∷ 12 to 16 ++ 6 ∷ 17 to 24
order_of Pacs028 = 1 ∷ 2 ∷ 3 ∷ 5 to 11
order_of Pacs008 = 1 ∷ 2 ∷ 3 ∷ 5 to 8 ++ 17 ∷ 25 ∷ 27 ∷ 26 ∷ 28 to 34
order_of Pacs002 = 1 ∷ 2 ∷ 3 ∷ 5 to 7 ++ 35 ∷ rejecting

-- the number is in the list
abbrev pub is_in : ℕ → List ℕ → Bool
is_in n [] = false
is_in n (k ∷ ks) = eqb n k || is_in n ks

-- the check is one of the kind's
unfoldable pub runs : Kind → ℕ → Bool
runs kind n = is_in n (order_of kind)
