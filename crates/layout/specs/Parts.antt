-- A part of a list of numbers, and the list with another part in its place, which is what lending that part leaves. Rows of a seat and seats of
-- a room are cut out and put back by these two alone; their laws stand in `proofs/Parts.antt`.
use Rattle.std.specs.Prelude.{List, ◌++◌, ℕ, take, drop}

-- w numbers from place a on
unfoldable pub part : List ℕ → ℕ → ℕ → List ℕ
part s a w = take w (drop a s)

-- the list with ys in the place of the w numbers from a on
unfoldable pub put : List ℕ → ℕ → ℕ → List ℕ → List ℕ
put s a w ys = take a s ++ (ys ++ drop w (drop a s))
