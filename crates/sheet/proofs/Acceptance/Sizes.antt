-- A tree has at least one element and one level, and its lists of starts and depths have a place for each element.
-- Assumes nothing.
use Rattle.std.specs.Prelude.{None}
use mathlib.Core.Path.{◌≡◌, refl, ap}
use Prim.Native.Nat.{ℕ, suc, ◌+◌, ◌≤◌}
use native.Mathlib.Omega.{arith}
use lib.ListN.{length, length-append}
use Rattle.sheet.specs.Grammar.{Element, leaf, parent, Elements, one, more, opening, render, count_of, count_all, depth_of, depth_all, starts_from, starts_all, depths_from, depths_all}

-- at least one element, and at least one level
pub some-element : (e : Element) → 1 ≤ count_of e
unfolding count_of
some-element (leaf name ccy text) = omega arith
some-element (parent name es) = omega arith

pub some-elements : (es : Elements) → 1 ≤ count_all es
unfolding count_all
some-elements (one e) = some-element e
some-elements (more e es) = omega (arith, some-element e)

pub some-depth : (e : Element) → 1 ≤ depth_of e
unfolding depth_of
some-depth (leaf name ccy text) = omega arith
some-depth (parent name es) = omega arith

pub some-depths : (es : Elements) → 1 ≤ depth_all es
unfolding depth_all
some-depths (one e) = some-depth e
some-depths (more e es) = omega (arith, some-depth e)

-- as many starts as elements
mutual
  unfolding count_of count_all starts_from starts_all

  pub count-starts : (e : Element) (i : ℕ) → length (starts_from e i) ≡ count_of e
  count-starts (leaf name ccy text) i = refl
  count-starts (parent name es) i = ap suc (count-all-starts es (i + length (opening name None)))

  pub count-all-starts : (es : Elements) (i : ℕ) → length (starts_all es i) ≡ count_all es
  count-all-starts (one e) i = count-starts e i
  count-all-starts (more e es) i = simp length-append (omega (arith, count-starts e i, count-all-starts es (i + length (render e))))

-- as many depths as elements
mutual
  unfolding count_of count_all depths_from depths_all

  pub count-depths : (e : Element) (d : ℕ) → length (depths_from e d) ≡ count_of e
  count-depths (leaf name ccy text) d = refl
  count-depths (parent name es) d = ap suc (count-all-depths es (suc d))

  pub count-all-depths : (es : Elements) (d : ℕ) → length (depths_all es d) ≡ count_all es
  count-all-depths (one e) d = count-depths e d
  count-all-depths (more e es) d = simp length-append (omega (arith, count-depths e d, count-all-depths es d))
