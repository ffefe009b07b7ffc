-- A sheet and a place in it. Document 01, "The sheet": "A sheet's reader keeps the sheet and a place in it; a field is shown as that part
-- of the sheet." What stands at a place goes by the bytes alone: the limits of 35 and 140 bytes, and what may stand where, are the
-- grammar's. All of it computes. Assumes nothing.
use Rattle.std.specs.Prelude.{Bool, ◌&&◌, cond, List, [], ◌∷◌, ℕ, ◌+◌, eqb, leb, length, get_or, take, drop}
use Prim.Native.Char.{code}
use Rattle.shape.specs.Bytes.{is_letter, is_text}
use Rattle.sheet.specs.Grammar.{is_name_byte}
use Rattle.sheet.specs.declared.reader.Ahead.{Ahead}
use Rattle.sheet.specs.declared.reader.Ahead.TheVariants.{Element, Text, Neither}

-- the bytes in front that pass a test
abbrev pub while : (ℕ → Bool) → List ℕ → List ℕ
while f [] = []
while f (b ∷ s) = cond (f b) (b ∷ while f s) []

-- "Text has 1 to 140 bytes of 32 to 126 without `<`, `>`, `&`": a byte of a text stands there, and so the text's bytes from there on
-- "an element is `<Name>` ..": a `<` and a name, "letters or digits, first a letter", of which all its bytes are taken
-- behind the sheet's end neither stands
unfoldable pub next_in : List ℕ → ℕ → Ahead
next_in s p =
    cond (is_text (get_or s p 0)) (Text (p + length (while is_text (drop p s))))
    (cond (eqb (get_or s p 0) (code "<") && is_letter (get_or s (p + 1) 0)) (Element (p + 1 + length (while is_name_byte (drop (p + 1) s))))
    Neither)

-- "a field is shown as that part of the sheet": from a place on, of a length; nothing where the sheet is too short for it
unfoldable pub shown_at : List ℕ → ℕ → ℕ → List ℕ
shown_at s a n = cond (leb (a + n) (length s)) (take n (drop a s)) []
