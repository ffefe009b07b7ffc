-- What the listing program prints in document 01's words, "The sheet", for any sheet. That `Listing` says this, and that nothing else is
-- printed, is the theorem of `proofs/Printed.antt`.
use Rattle.std.specs.Prelude.{List, [], ◌++◌, ℕ, ◌≤◌, length}
use Rattle.shape.specs.Text.{bytes}
use Rattle.sheet.specs.Grammar.{sheet_most, WellFormed}
use Rattle.sheet.specs.Right.{refused, Right}
use Rattle.outline.specs.Rows.{rows}
use Rattle.lister.specs.Listing.{lines_of, fields_of, decimal_text}

-- what is printed of a sheet, by the grammar alone: of a sheet that is what a good tree is written as, the lines of the tree's rows and how
-- many fields there are; of any other, the refusal with the place
pub data Printed (s : List ℕ) : List ℕ → Type 0 where
  lines : (w : WellFormed s) → length s ≤ sheet_most
      → Printed s (lines_of (rows w.tree 0 []) ++ (decimal_text (fields_of (rows w.tree 0 [])) ++ bytes " fields\n"))
  refusal : (place : ℕ) → Right s (refused place) → Printed s (bytes "refused 7 at " ++ (decimal_text place ++ bytes "\n"))
