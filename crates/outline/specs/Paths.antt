-- The rows that stand at a path, and those that stand at a depth. Two elements of one name beside each other are two rows of one path.
use Rattle.std.specs.Prelude.{Bool, true, false, ◌&&◌, cond, List, [], ◌∷◌, ℕ, eqb, length}
use Rattle.outline.specs.Rows.{Row}

-- two names are the same, byte for byte
unfoldable pub same_name : List ℕ → List ℕ → Bool
same_name [] [] = true
same_name [] (b ∷ t) = false
same_name (a ∷ s) [] = false
same_name (a ∷ s) (b ∷ t) = eqb a b && same_name s t

-- two paths are the same, name for name
unfoldable pub same_path : List (List ℕ) → List (List ℕ) → Bool
same_path [] [] = true
same_path [] (n ∷ q) = false
same_path (m ∷ p) [] = false
same_path (m ∷ p) (n ∷ q) = same_name m n && same_path p q

-- of the rows those that stand at a path
unfoldable pub standing : List (List ℕ) → List Row → List Row
standing path [] = []
standing path (row ∷ rows) = cond (same_path row.path path) (row ∷ standing path rows) (standing path rows)

-- of the rows those with so many names in their path
unfoldable pub at_depth : ℕ → List Row → List Row
at_depth d [] = []
at_depth d (row ∷ rows) = cond (eqb (length row.path) d) (row ∷ at_depth d rows) (at_depth d rows)

-- the characters of a text, which are its own bytes. All shapes and checks go by the characters
unfoldable pub characters_of : List ℕ → List ℕ
characters_of text = text
