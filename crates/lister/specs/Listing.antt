-- What the listing program prints: document 01, "The sheet". A line for each text with its path, then how many there are; or the refusal.
-- Each line ends with a line feed. What a listing is by the grammar alone stands in `Printed.antt`.
use Rattle.std.specs.Prelude.{cond, List, [], ◌∷◌, ◌++◌, ℕ, suc, ◌+◌, ◌*◌, ◌/◌, ◌%◌, ltb, length, take, drop, Option, Some, None}
use Prim.Native.Char.{code}
use Rattle.shape.specs.Text.{bytes}
use Rattle.sheet.specs.Grammar.{name_most, text_most, depth_most, element_most}
use Rattle.sheet.specs.Answer.{Reading, accepted, refused, reading_of}
use Rattle.outline.specs.Rows.{Row, rows_of}

-- a path as it is printed: the outermost name first, a slash before each
abbrev pub path_text : List (List ℕ) → List ℕ
path_text [] = []
path_text (name ∷ around) = path_text around ++ (bytes "/" ++ name)

abbrev pub ccy_text : Option (List ℕ) → List ℕ
ccy_text None = []
ccy_text (Some ccy) = bytes "[" ++ (ccy ++ bytes "]")

-- what is printed of a row: its line where it holds a text, nothing where it holds elements
abbrev pub line_with : List (List ℕ) → Option (List ℕ) → Option (List ℕ) → List ℕ
line_with path ccy None = []
line_with path ccy (Some text) = path_text path ++ (ccy_text ccy ++ (bytes " " ++ (text ++ bytes "\n")))

unfoldable pub line_of : Row → List ℕ
line_of row = line_with row.path row.ccy row.text

unfoldable pub lines_of : List Row → List ℕ
lines_of [] = []
lines_of (row ∷ rows) = line_of row ++ lines_of rows

-- how many rows hold a text
abbrev pub holds_text : Option (List ℕ) → ℕ
holds_text None = 0
holds_text (Some text) = 1

unfoldable pub fields_of : List Row → ℕ
fields_of [] = 0
fields_of (row ∷ rows) = holds_text row.text + fields_of rows

-- the last digit of a number
abbrev pub ones : ℕ → ℕ
ones n = code "0" + n % 10

-- a number below ten thousand in decimal digits, without needless zeros
unfoldable pub decimal_text : ℕ → List ℕ
decimal_text n =
    cond (ltb n 10) (ones n ∷ [])
    (cond (ltb n 100) (ones (n / 10) ∷ ones n ∷ [])
    (cond (ltb n 1000) (ones (n / 100) ∷ ones (n / 10) ∷ ones n ∷ [])
    (ones (n / 1000) ∷ ones (n / 100) ∷ ones (n / 10) ∷ ones n ∷ [])))

-- what is printed of a sheet that was read so
unfoldable pub text_of : List ℕ → Reading → List ℕ
text_of s (refused k) = bytes "refused 7 at " ++ (decimal_text k ++ bytes "\n")
text_of s (accepted n starts depths) =
    lines_of (rows_of s n starts depths) ++ (decimal_text (fields_of (rows_of s n starts depths)) ++ bytes " fields\n")

unfoldable pub listing_of : List ℕ → List ℕ
listing_of s = text_of s (reading_of s)

-- the longest line: a slash and a name at each level, a Ccy in brackets, a blank, a text and a line feed; and the longest listing: a line for
-- each element, then four digits and ` fields` with its line feed. That no listing is longer is proved in `proofs/Longest.antt`
abbrev pub line_most : ℕ
line_most = suc name_most * depth_most + 5 + 1 + text_most + 1

abbrev pub listing_most : ℕ
listing_most = line_most * element_most + 4 + 8

-- as much of the listing is written as the buffer has room for, and nothing behind it: how many bytes, and the buffer then. Where fewer
-- bytes are written than the buffer has, the listing is whole.
unfoldable pub listed_count : List ℕ → List ℕ → ℕ
listed_count s out = length (take (length out) (listing_of s))

unfoldable pub listed_after : List ℕ → List ℕ → List ℕ
listed_after s out = take (length out) (listing_of s) ++ drop (length (listing_of s)) out
