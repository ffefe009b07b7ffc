-- Case 9 of document 01, its first listing, and what stands at the places of a sheet, worked out over the definitions.
-- Assumes nothing.
use mathlib.Core.Path.{◌≡◌, refl}
use mathlib.Core.List.{List, [], ◌∷◌, ◌++◌, map}
use Prim.Native.Nat.{ℕ}
use lib.ListN.{take}
use Rattle.shape.specs.Text.{bytes}
use Rattle.shape.specs.Bytes.{is_digit, is_capital, is_small, is_letter, is_text}
use Rattle.sheet.specs.Grammar.{is_name_byte}
use Rattle.sheet.specs.Machine.{step}
use Rattle.sheet.specs.Answer.{Reading, accepted, refused, run, reading_of}
use Rattle.sheet.specs.Reader.{next_in, shown_at}
use Rattle.sheet.specs.declared.reader.Ahead.TheVariants.{Element, Text, Neither}

-- an empty element, a closing tag of another name, nothing at all
pub case-9-empty : reading_of (bytes "<A></A>") ≡ refused 4
unfolding reading_of run step is_letter is_capital is_small is_digit is_text is_name_byte
case-9-empty = refl

pub case-9-name : reading_of (bytes "<A>x</B>") ≡ refused 6
unfolding reading_of run step is_letter is_capital is_small is_digit is_text is_name_byte
case-9-name = refl

pub case-9-nothing : reading_of [] ≡ refused 0
unfolding reading_of run
case-9-nothing = refl

abbrev pub first_of : Reading → ℕ
first_of (accepted n starts depths) = n
first_of (refused i) = 0

abbrev pub places_of : Reading → List ℕ
places_of (accepted n starts depths) = take 5 starts ++ take 5 depths
places_of (refused i) = []

pub listed : first_of (reading_of (bytes "<Document><A><B>x</B><C Ccy=\"UAH\">1.00</C></A></Document>")) ≡ 4
unfolding reading_of run step is_letter is_capital is_small is_digit is_text is_name_byte
listed = refl

pub places : places_of (reading_of (bytes "<Document><A><B>x</B><C Ccy=\"UAH\">1.00</C></A></Document>")) ≡ 0 ∷ 10 ∷ 13 ∷ 21 ∷ 0 ∷ 1 ∷ 2 ∷ 3 ∷ 3 ∷ 0 ∷ []
unfolding reading_of run step is_letter is_capital is_small is_digit is_text is_name_byte
places = refl

-- an element of the name AB, its text, no element and no text where its closing tag begins, and nothing behind the end
pub ahead : map (next_in (bytes "<AB>x y</AB>")) (0 ∷ 4 ∷ 7 ∷ 12 ∷ []) ≡ Element 3 ∷ Text 7 ∷ Neither ∷ Neither ∷ []
unfolding next_in is_letter is_capital is_small is_digit is_text is_name_byte
ahead = refl

-- its text as that part of the sheet; a part that the sheet is too short for is not there
pub part-shown : shown_at (bytes "<AB>x y</AB>") 4 3 ≡ bytes "x y"
unfolding shown_at
part-shown = refl

pub part-too-long : shown_at (bytes "<AB>x y</AB>") 4 9 ≡ []
unfolding shown_at
part-too-long = refl
