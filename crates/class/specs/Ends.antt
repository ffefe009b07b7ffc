-- A line's text without the blanks behind it, and what of it stands from a place on: the sheet of a submit, the digits of a slip.
use Rattle.std.specs.Prelude.{List, ℕ, take, drop}
use Rattle.script.specs.Places.{text_end}

unfoldable pub trimmed_of : List ℕ → List ℕ
trimmed_of s = take (text_end s) s

-- empty past the end
unfoldable pub behind_of : List ℕ → ℕ → List ℕ
behind_of s from = drop from (trimmed_of s)
