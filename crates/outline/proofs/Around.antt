-- The names around an element, taken from the path of the element before it.
-- Assumes nothing.
use mathlib.Core.Path.{◌≡◌}
use mathlib.Core.List.{List, [], ◌∷◌, ◌++◌}
use Prim.Native.Nat.{ℕ, suc, ◌-◌}
use native.Mathlib.Omega.{arith}
use lib.ListN.{length, length-append}
use lib.Seq.{drop-append_seam}
use Rattle.sheet.specs.Grammar.{Element, leaf, parent, Elements, one, more}
use Rattle.outline.specs.Rows.{around_at}

-- the names from a tree's last element, in the sheet's order, out to the tree itself
unfoldable mutual
  pub last_names : Element → List (List ℕ)
  last_names (leaf name ccy text) = name ∷ []
  last_names (parent name es) = last_names_all es ++ (name ∷ [])

  pub last_names_all : Elements → List (List ℕ)
  last_names_all (one e) = last_names e
  last_names_all (more e es) = last_names_all es

-- of a path that ends in the names around, these are what stays
pub around-stays : (inner around : List (List ℕ)) → around_at (suc (length around)) (inner ++ around) ≡ around
around-stays inner around =
    let front : length (inner ++ around) - (suc (length around) - 1) ≡ length inner = rw length-append (omega arith) in
    rw front (drop-append_seam inner around)
