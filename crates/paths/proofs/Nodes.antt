-- Every path has a node, and no two paths have one node, nowhere aside.
-- A child lies in its parent's range and has its own name; the ranges ascend, so the node tells the name and the parent.
-- Assumes nothing.
use mathlib.Core.Path.{◌≡◌, refl, sym, ap, ◌∙◌}
use mathlib.Core.Bool.{Bool, true, false, cond}
use mathlib.Core.List.{List, [], ◌∷◌}
use Prim.Native.Nat.{ℕ, zero, suc, ◌+◌, ◌-◌, ◌<◌, ◌≤◌}
use native.Mathlib.Omega.{arith}
use lib.Dec.{ltb}
use lib.ListN.{get_or}
use borrow.Author.Tests.{ltb-true, ltb-false}
use Rattle.outline.specs.Paths.{same_name}
use Rattle.outline.proofs.Paths.{same-name}
use Rattle.paths.specs.Tree.{nowhere, nodes, firsts, name_of, named_from, child_of, node_of}
use Rattle.paths.proofs.Table.{firsts-ascend, firsts-from, firsts-low}

named-below : (a n : ℕ) (name : List ℕ) → a + n ≤ nodes → named_from a n name < nodes
named-below a zero name h = omega arith
named-below a (suc n) name h = go (same_name (name_of a) name) (named-below (suc a) n name (omega arith))
  where
    go : (t : Bool) → named_from (suc a) n name < nodes → cond t a (named_from (suc a) n name) < nodes
    go true r = omega arith
    go false r = r

child-below : (v : ℕ) (name : List ℕ) → v < nodes → child_of v name < nodes
unfolding child_of
child-below v name h =
    named-below (get_or firsts v 0) (get_or firsts (suc v) 0 - get_or firsts v 0) name
    (omega (arith, firsts-low v (omega arith), firsts-low (suc v) (omega arith)))

-- every path has a node of the tables
pub node-below : (p : List (List ℕ)) → node_of p < nodes
unfolding node_of
node-below [] = omega arith
node-below (name ∷ p) = child-below (node_of p) name (node-below p)

-- where a node that was found lies, and its name
record Found (from to : ℕ) (name : List ℕ) (w : ℕ) : Type 0 where
  not-before : from ≤ w
  not_behind : w < to
  named : name_of w ≡ name

named-found : (a n : ℕ) (name : List ℕ) → (named_from a n name ≡ nowhere → ⊥) → Found a (a + n) name (named_from a n name)
named-found a zero name h = absurd (h refl)
named-found a (suc n) name h = go (same_name (name_of a) name) refl h (named-found (suc a) n name)
  where
    go : (t : Bool) → same_name (name_of a) name ≡ t → (cond t a (named_from (suc a) n name) ≡ nowhere → ⊥)
        → ((named_from (suc a) n name ≡ nowhere → ⊥) → Found (suc a) (suc a + n) name (named_from (suc a) n name))
        → Found a (a + suc n) name (cond t a (named_from (suc a) n name))
    go true e h r = record { not-before = omega arith; not_behind = omega arith; named = same-name (name_of a) name e }
    go false e h r =
        let f = r h in
        record { not-before = omega arith; not_behind = omega arith; named = f.named }

child-found : (v : ℕ) (name : List ℕ) → v < nodes → (child_of v name ≡ nowhere → ⊥) → Found (get_or firsts v 0) (get_or firsts (suc v) 0) name (child_of v name)
unfolding child_of
child-found v name b h =
    let f = named-found (get_or firsts v 0) (get_or firsts (suc v) 0 - get_or firsts v 0) name h in
    record { not-before = f.not-before; not_behind = omega (arith, firsts-ascend v (suc v) (omega arith) (omega arith)); named = f.named }

-- a child is neither nowhere nor above, and nothing is below nowhere
child-from : (v : ℕ) (name : List ℕ) → v < nodes → (child_of v name ≡ nowhere → ⊥) → 2 ≤ child_of v name
child-from v name b h = let f = child-found v name b h in omega (arith, firsts-from v (omega arith))

below-somewhere : (v : ℕ) (name : List ℕ) → v < nodes → (child_of v name ≡ nowhere → ⊥) → v ≡ nowhere → ⊥
unfolding firsts
below-somewhere v name b h e =
    let f = child-found v name b h in
    let g : get_or firsts (suc v) 0 ≡ 2 = ap (λ (x : ℕ). get_or firsts (suc x) 0) e in
    omega (arith, child-from v name b h)

-- two ranges that have a node in common are one range
not-apart : (v u w : ℕ) → v < u → u < nodes → w < get_or firsts (suc v) 0 → get_or firsts u 0 ≤ w → ⊥
not-apart v u w h b k l = omega (arith, firsts-ascend (suc v) u (omega arith) (omega arith))

one_parent : (v u w : ℕ) (m n : List ℕ) → v < nodes → u < nodes → Found (get_or firsts v 0) (get_or firsts (suc v) 0) m w
    → Found (get_or firsts u 0) (get_or firsts (suc u) 0) n w → v ≡ u
one_parent v u w m n bv bu f g = go (ltb v u) (ltb u v) refl refl
  where
    go : (t d : Bool) → ltb v u ≡ t → ltb u v ≡ d → v ≡ u
    go true d e k = absurd (not-apart v u w (ltb-true v u e) bu f.not_behind g.not-before)
    go false true e k = absurd (not-apart u v w (ltb-true u v k) bv g.not_behind f.not-before)
    go false false e k = omega (arith, ltb-false v u e, ltb-false u v k)

-- no two paths have one node
pub one-path : (p q : List (List ℕ)) → node_of p ≡ node_of q → (node_of q ≡ nowhere → ⊥) → p ≡ q
unfolding node_of
one-path [] [] e h = refl
one-path [] (n ∷ q) e h = absurd (omega (arith, e, child-from (node_of q) n (node-below q) h))
one-path (m ∷ p) [] e h = absurd (omega (arith, e, child-from (node_of p) m (node-below p) (λ f. h (sym e ∙ f))))
one-path (m ∷ p) (n ∷ q) e h =
    let f = child-found (node_of p) m (node-below p) (λ z. h (sym e ∙ z)) in
    let g = child-found (node_of q) n (node-below q) h in
    let k : node_of p ≡ node_of q = one_parent (node_of p) (node_of q) (child_of (node_of q) n) m n (node-below p) (node-below q) (rw e at f) g in
    let named : name_of (child_of (node_of p) m) ≡ name_of (child_of (node_of q) n) = ap name_of e in
    let r = one-path p q k (below-somewhere (node_of q) n (node-below q) h) in
    cc (f.named, g.named)
