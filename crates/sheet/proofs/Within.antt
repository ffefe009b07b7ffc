-- An accepted sheet has at most 256 elements, and its lists have room for as many.
-- Assumes nothing.
use mathlib.Core.Path.{◌≡◌, sym}
use mathlib.Core.List.{List}
use Prim.Native.Nat.{ℕ, ◌-◌, ◌≤◌}
use native.Mathlib.Omega.{arith}
use lib.ListN.{length, replicate, length-append, length-replicate}
use Rattle.sheet.specs.Grammar.{element_most, placed, count_of, starts_from, depths_from}
use Rattle.sheet.specs.Answer.{Reading}
use Rattle.sheet.specs.Right.{Right, whole, broken, long}
use Rattle.sheet.specs.Sheet.{sheet_of, Answers}
use Rattle.sheet.specs.declared.Sheet.{Sheet}
use Rattle.std.specs.Prelude.{Ok}
use Rattle.sheet.proofs.Descent.{not-read}

-- at most so many elements, and lists with room for as many
abbrev pub Within : Sheet → Type 0
Within r = (r.count ≤ element_most) × (element_most ≤ length r.starts) × (element_most ≤ length r.depths)

placed-long : (xs : List ℕ) → element_most ≤ length (placed xs)
placed-long xs = omega (arith, length-append xs (replicate (element_most - length xs) 0), length-replicate {A = ℕ} (element_most - length xs) 0)

module _ (s : List ℕ) (r : Sheet) where
  bounds : {g : Reading} → Right s g → Ok r ≡ sheet_of g → Within r
  unfolding sheet_of
  bounds (whole w h) e =
      let same : r ≡ record { count = count_of w.tree; starts = placed (starts_from w.tree 0); depths = placed (depths_from w.tree 1) } = cc in
      rw same (w.good.few, placed-long (starts_from w.tree 0), placed-long (depths_from w.tree 1))
  bounds (broken k a b d f m) e = absurd (not-read (sym e))
  bounds (long h) e = absurd (not-read (sym e))

  pub within : Answers s (Ok r) → Within r
  within a = bounds a.right a.image
