-- The rows that are read off a well-formed sheet are those of its tree, whichever of its trees is taken.
-- Assumes nothing.
use mathlib.Core.Path.{◌≡◌, ap, sym, subst}
use mathlib.Core.List.{List, []}
use Prim.Native.Nat.{ℕ}
use Rattle.sheet.specs.Grammar.{Element, count_of, starts_from, depths_from, placed, WellFormed}
use Rattle.sheet.proofs.Reading.{same-tree}
use Rattle.outline.specs.Rows.{rows, rows_of}
use Rattle.outline.proofs.OfTree.{rows-of-tree}

-- two trees of one sheet have the same rows
pub same_rows : (s : List ℕ) (w v : WellFormed s) → rows w.tree 0 [] ≡ rows v.tree 0 []
same_rows s w v = ap (λ (e : Element). rows e 0 []) (same-tree s w v)

-- and these are what is read off the sheet
pub rows-of-sheet : (s : List ℕ) (w : WellFormed s)
    → rows_of s (count_of w.tree) (placed (starts_from w.tree 0)) (placed (depths_from w.tree 1)) ≡ rows w.tree 0 []
rows-of-sheet s w =
    let e : Element = w.tree in
    subst (λ (t : List ℕ). rows_of t (count_of e) (placed (starts_from e 0)) (placed (depths_from e 1)) ≡ rows e 0 [])
    (sym w.written) (rows-of-tree e w.good)
