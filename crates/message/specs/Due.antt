-- Refusals 7 and 8 in document 01's words, for any sheet. That the answer of `Received` is this one, and that no second answer is, is the
-- theorem of `proofs/Due.antt`.
use Rattle.std.specs.Prelude.{List, [], ℕ, ◌≤◌, length, Err}
use Rattle.sheet.specs.Grammar.{sheet_most, WellFormed}
use Rattle.sheet.specs.Right.{refused, Right}
use Rattle.outline.specs.Rows.{rows}
use Rattle.message.specs.declared.Refusal.TheVariants.{IllFormed}
use Rattle.message.specs.Message.{Answer}
use Rattle.message.specs.Lowest.{Told}

-- What a sheet is due as an answer, by the grammar alone: 7 with the place where it is not well formed (or too long), else 8 or the message
-- as the rows of its tree say.
pub data Due (s : List ℕ) : Answer → Type 0 where
  ill-formed : (place : ℕ) → Right s (refused place) → Due s (Err (IllFormed place))
  formed : (w : WellFormed s) → length s ≤ sheet_most → (a : Answer) → Told (rows w.tree 0 []) a → Due s a
