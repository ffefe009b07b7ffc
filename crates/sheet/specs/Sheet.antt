-- A reading as what the reader hands back.
use Rattle.std.specs.Prelude.{◌≡◌, List, ℕ, Result, Ok, Err}
use Rattle.sheet.specs.Answer.{Reading, accepted, refused}
use Rattle.sheet.specs.Right.{Right}
use Rattle.sheet.specs.declared.Sheet.{Sheet}
use Rattle.sheet.specs.declared.parts.Refused.{Refused}

-- a refused sheet has its place and nothing else; an accepted one its elements, and no place
unfoldable pub sheet_of : Reading → Result Sheet Refused
sheet_of (accepted n starts depths) = Ok (record { count = n; starts = starts; depths = depths })
sheet_of (refused i) = Err (record { place = i })

-- the result is the image of the right answer to the sheet, by the grammar
pub record Answers (s : List ℕ) (r : Result Sheet Refused) : Type 0 where
  pub reading : Reading
  pub right : Right s reading
  pub image : r ≡ sheet_of reading
