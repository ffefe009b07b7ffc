-- Lines read by the definition, computed: each row of the table once, lines that are bad, and lines that say nothing.
-- Assumes nothing.
use mathlib.Core.Path.{◌≡◌, refl}
use mathlib.Core.Bool.{true, false}
use mathlib.Core.List.{List, [], ◌∷◌, ◌++◌, map}
use Prim.Native.Nat.{ℕ, ◌-◌}
use Prim.Native.String.{String}
use lib.ListN.{length, replicate}
use Rattle.shape.specs.Text.{bytes}
use Rattle.shape.specs.Bytes.{is_digit}
use Rattle.shape.specs.Numbers.{decimal}
use Rattle.script.specs.Places.{is_blank, skip_blanks, word_end, is_same}
use Rattle.script.specs.Said.{number_of, sum_from, sum_of, date_of, either_of, limit_of, value_of}
use Rattle.script.specs.Words.{values_most, word_of, wants}
use Rattle.script.specs.Lines.{take_from, taken, is_whole, line_of}
use Rattle.script.specs.declared.Word.{Word}
use Rattle.script.specs.declared.Word.TheVariants.{Blank, Room, Nobody, Owner, Direct, Indirect, Provider, Open, Close, Set, Submit, Back, Read, Slip, Unknown}
use Rattle.script.specs.declared.Line.{Line}

-- a good line with these values, and a bad one of which these were read
abbrev good : Word → List ℕ → ℕ → Line
good word values rest =
    record { word = word; good = true; count = length values; values = values ++ replicate (values_most - length values) 0; rest = rest }

abbrev bad : Word → List ℕ → ℕ → Line
bad word values rest =
    record { word = word; good = false; count = length values; values = values ++ replicate (values_most - length values) 0; rest = rest }

-- each text is read as the line beside it
abbrev Read-so : List (String × Line) → Type 0
Read-so rows = map (λ (row : String × Line). line_of (bytes row.0)) rows ≡ map (λ (row : String × Line). row.1) rows

-- each row of the table
the-table : Read-so
    (("room", good Room [] 4)
    ∷ ("  nobody  ", good Nobody [] 10)
    ∷ ("owner 300001 instant", good Owner (300001 ∷ 1 ∷ []) 20)
    ∷ ("direct 300335 300001 ordinary", good Direct (300335 ∷ 300001 ∷ 0 ∷ []) 29)
    ∷ ("indirect 305299 300335 instant", good Indirect (305299 ∷ 300335 ∷ 1 ∷ []) 30)
    ∷ ("provider 380001 300335 instant", good Provider (380001 ∷ 300335 ∷ 1 ∷ []) 30)
    ∷ ("open 2", good Open (2 ∷ []) 6)
    ∷ ("open 2 500 0.05 12.30 7", good Open (2 ∷ 50000 ∷ 5 ∷ 1230 ∷ 700 ∷ []) 23)
    ∷ ("close 2 1", good Close (2 ∷ 1 ∷ []) 9)
    ∷ ("set 2 1 300335 3 yes no 10.00 none", good Set (2 ∷ 1 ∷ 300335 ∷ 3 ∷ 1 ∷ 0 ∷ 1000 ∷ 0 ∷ []) 34)
    ∷ ("set 2 1 300335 3 no yes 0 0.00", good Set (2 ∷ 1 ∷ 300335 ∷ 3 ∷ 0 ∷ 1 ∷ 0 ∷ 1 ∷ []) 30)
    ∷ ("submit 2 1 300335 2024-03-01 <a>b c</a>", good Submit (2 ∷ 1 ∷ 300335 ∷ 20240301 ∷ []) 29)
    ∷ ("back 2 1", good Back (2 ∷ 1 ∷ []) 8)
    ∷ ("read 2 1 300335 3", good Read (2 ∷ 1 ∷ 300335 ∷ 3 ∷ []) 17)
    ∷ ("slip 00ff", good Slip [] 5)
    ∷ [])
unfolding is_digit decimal is_blank skip_blanks word_end is_same number_of sum_from sum_of date_of either_of limit_of value_of word_of wants take_from taken is_whole line_of
the-table = refl

-- lines that say nothing
saying-nothing : Read-so
    (("", good Blank [] 0)
    ∷ ("   ", good Blank [] 3)
    ∷ ("  # room 3", good Blank [] 4)
    ∷ [])
unfolding is_digit decimal is_blank skip_blanks word_end is_same number_of sum_from sum_of date_of either_of limit_of value_of word_of wants take_from taken is_whole line_of
saying-nothing = refl

-- a word too many or too few, one that does not say what is wanted, an odd sum, no digits, an unknown word
bad-lines : Read-so
    (("close 2 1 7", bad Close (2 ∷ 1 ∷ []) 10)
    ∷ ("close 2", bad Close (2 ∷ []) 7)
    ∷ ("close two 1", bad Close [] 6)
    ∷ ("open 2 500", bad Open (2 ∷ 50000 ∷ []) 10)
    ∷ ("open 2 500 0.5", bad Open (2 ∷ 50000 ∷ []) 11)
    ∷ ("owner 300001 often", bad Owner (300001 ∷ []) 13)
    ∷ ("submit 2 1 300335 2024/03/01 <a>", bad Submit (2 ∷ 1 ∷ 300335 ∷ []) 18)
    ∷ ("slip", bad Slip [] 4)
    ∷ ("shut 2 1", bad Unknown [] 5)
    ∷ [])
unfolding is_digit decimal is_blank skip_blanks word_end is_same number_of sum_from sum_of date_of either_of limit_of value_of word_of wants take_from taken is_whole line_of
bad-lines = refl
