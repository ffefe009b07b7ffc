-- What document 01 asks of the answer to a sheet, by the grammar alone.
-- Accepted exactly when well formed, with the number, the starts and the depths of the tree's elements; otherwise refused at the length of the
-- longest front that some well-formed sheet has. That front may belong to a sheet of any length: the limit of 8,192 bytes is left aside there.
-- A sheet of more than 8,192 bytes is refused at 8192, whatever stands in it.
use Rattle.std.specs.Prelude.{List, ℕ, ◌≤◌, ◌<◌, length, take}
use Rattle.sheet.specs.Grammar.{count_of, starts_from, depths_from, sheet_most, placed, WellFormed, Viable}

-- accepted, with the number of elements and the lists of their starts and depths; or refused, at a place
pub data Reading : Type 0 where
  accepted : ℕ → List ℕ → List ℕ → Reading
  refused : ℕ → Reading

pub data Right (s : List ℕ) : Reading → Type 0 where
  whole : (w : WellFormed s) → length s ≤ sheet_most → Right s (accepted (count_of w.tree) (placed (starts_from w.tree 0)) (placed (depths_from w.tree 1)))
  broken : (k : ℕ) → length s ≤ sheet_most → (WellFormed s → ⊥) → k ≤ length s → Viable (take k s) → ((j : ℕ) → k < j → j ≤ length s → Viable (take j s) → ⊥) → Right s (refused k)
  long : sheet_most < length s → Right s (refused sheet_most)
