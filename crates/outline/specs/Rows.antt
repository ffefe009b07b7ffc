-- A sheet as rows, one for each element in the sheet's order: its path of names, its Ccy or none, where its content begins, its text or none.
-- Rows of a tree, and rows read off a sheet's bytes by the places where its elements start and the depths at which they stand.
-- That the two are the same on what a good tree is written as is the theorem of `proofs/`.
use Rattle.std.specs.Prelude.{Bool, cond, List, [], ◌∷◌, ◌++◌, ℕ, suc, ◌+◌, ◌-◌, eqb, length, get_or, take, drop, Option, Some, None}
use Prim.Native.Char.{code}
use Rattle.shape.specs.Bytes.{is_text}
use Rattle.sheet.specs.Grammar.{Element, leaf, parent, Elements, one, more, opening, render, is_name_byte}
use Rattle.sheet.specs.Reader.{while}

-- the names of an element and of those around it, innermost first; where in the sheet its content begins; what it holds
pub record Row : Type 0 where
  pub path : List (List ℕ)
  pub ccy : Option (List ℕ)
  pub inside : ℕ
  pub text : Option (List ℕ)

-- the rows of a tree that stands at place i in elements of these names
unfoldable mutual
  pub rows : Element → ℕ → List (List ℕ) → List Row
  rows (leaf name ccy text) i around =
      record { path = name ∷ around; ccy = ccy; inside = i + length (opening name ccy); text = Some text } ∷ []
  rows (parent name es) i around =
      record { path = name ∷ around; ccy = None; inside = i + length (opening name None); text = None }
      ∷ rows_all es (i + length (opening name None)) (name ∷ around)

  pub rows_all : Elements → ℕ → List (List ℕ) → List Row
  rows_all (one e) i around = rows e i around
  rows_all (more e es) i around = rows e i around ++ rows_all es (i + length (render e)) around

-- of the element whose `<` stands at a: its name and where it ends; whether a Ccy follows, and which; where its content begins; its text
unfoldable pub name_at : List ℕ → ℕ → List ℕ
name_at s a = while is_name_byte (drop (suc a) s)

unfoldable pub name_end : List ℕ → ℕ → ℕ
name_end s a = suc a + length (name_at s a)

unfoldable pub has_ccy : List ℕ → ℕ → Bool
has_ccy s a = eqb (get_or s (name_end s a) 0) (code " ")

-- ` Ccy="UAH">` is eleven bytes, `>` one; the three capitals stand behind six
unfoldable pub ccy_at : List ℕ → ℕ → Option (List ℕ)
ccy_at s a = cond (has_ccy s a) (Some (take 3 (drop (name_end s a + 6) s))) None

unfoldable pub inside_at : List ℕ → ℕ → ℕ
inside_at s a = name_end s a + cond (has_ccy s a) 11 1

unfoldable pub has_text : List ℕ → ℕ → Bool
has_text s a = is_text (get_or s (inside_at s a) 0)

unfoldable pub text_at : List ℕ → ℕ → Option (List ℕ)
text_at s a = cond (has_text s a) (Some (while is_text (drop (inside_at s a) s))) None

-- the names around an element at depth d, where the one before it has this path: the outer d - 1 of them
abbrev pub around_at : ℕ → List (List ℕ) → List (List ℕ)
around_at d path = drop (length path - (d - 1)) path

-- the row of the element at a, with this path
abbrev pub row_on : List ℕ → List (List ℕ) → ℕ → Row
row_on s path a = record { path = path; ccy = ccy_at s a; inside = inside_at s a; text = text_at s a }

-- the rows of the elements that start at these places and stand at these depths, behind an element of this path
unfoldable pub rows_from : List ℕ → List (List ℕ) → List ℕ → List ℕ → List Row
rows_from s path [] ds = []
rows_from s path (a ∷ more-starts) [] = []
rows_from s path (a ∷ more-starts) (d ∷ ds) =
    let here = name_at s a ∷ around_at d path in
    row_on s here a ∷ rows_from s here more-starts ds

-- the rows of a sheet that was read
unfoldable pub rows_of : List ℕ → ℕ → List ℕ → List ℕ → List Row
rows_of s n starts depths = rows_from s [] (take n starts) (take n depths)
