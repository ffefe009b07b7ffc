-- The machine reads an element, wherever one may begin, and the elements inside it one behind the other.
-- Assumes nothing.
use Rattle.std.specs.Prelude.{Option, None}
use mathlib.Core.Path.{◌≡◌, refl, sym, subst}
use mathlib.Core.Bool.{true, false}
use mathlib.Core.List.{List, [], ◌∷◌, ◌++◌}
use Prim.Native.Nat.{ℕ, suc, ◌+◌, ◌≤◌}
use native.Mathlib.Omega.{arith}
use lib.ListN.{length}
use Rattle.sheet.specs.Grammar.{Element, leaf, parent, Elements, one, more, opening, closing, render, render_all, count_of, count_all, depth_of, depth_all, starts_from, starts_all, depths_from, depths_all, depth_most, element_most, is_name, is_ccy, is_content, good_parts, good_all}
use Rattle.sheet.specs.Machine.{Mode, tagged, between, State, goes, opens, after_closing}
use Rattle.sheet.proofs.Acceptance.Parts.{given, leaf-name, leaf-ccy, leaf-content, parent-name, parent-children, first_good, others-good}
use Rattle.sheet.proofs.Acceptance.Passage.{Reads, passage-then, same-passage}
use Rattle.sheet.proofs.Acceptance.Tags.{reads-text, reads-text-end, reads-children-end}
use Rattle.sheet.proofs.Acceptance.Opening.{MayOpen, open-child, open-sibling, counted, reads-opening}
use Rattle.sheet.proofs.Acceptance.Sizes.{some-elements, some-depths, count-starts, count-depths}
use Rattle.sheet.proofs.Acceptance.Filled.{behind, behind-one, behind-inside, behind-both}

-- there is room for n more elements, d levels deep
pub record Room (st : State) (n d : ℕ) : Type 0 where
  pub few : st.count + n ≤ element_most
  pub shallow : length st.names + d ≤ depth_most

-- a leaf
reads-leaf : (name : List ℕ) (ccy : Option (List ℕ)) (text : List ℕ) (st : State) (i : ℕ)
    → is_name name ≡ true → is_ccy ccy ≡ true → is_content text ≡ true → MayOpen st i
    → Reads st i (opening name ccy ++ (text ++ closing name)) (behind st 1 (i ∷ []) (suc (length st.names) ∷ []))
reads-leaf name ccy text st i g k t o =
    same-passage
    (passage-then (reads-opening name ccy st i g k o)
    (passage-then (reads-text text (given ccy) (opens (counted st i) name between) _ t) (reads-text-end name (length text) (counted st i) _)))
    refl (behind-one st i)

mutual
  unfolding render render_all count_of count_all depth_of depth_all starts_from starts_all depths_from depths_all good_parts good_all is_ccy

  -- an element takes the machine behind its elements
  pub reads-element : (e : Element) (st : State) (i : ℕ) → good_parts e ≡ true → Room st (count_of e) (depth_of e) → MayOpen st i
      → Reads st i (render e) (behind st (count_of e) (starts_from e i) (depths_from e (suc (length st.names))))
  reads-element (leaf name ccy text) st i g r o =
      reads-leaf name ccy text st i (leaf-name name ccy text g) (leaf-ccy name ccy text g) (leaf-content name ccy text g) o
  reads-element (parent name es) st i g r o =
      let inner : State = opens (counted st i) name (tagged false) in
      let j : ℕ = i + length (opening name None) in
      let d : ℕ = suc (suc (length st.names)) in
      let room : Room inner (count_all es) (depth_all es) = record { few = omega (arith, r.few); shallow = omega (arith, r.shallow) } in
      let child : MayOpen inner j = open-child inner j (omega (arith, r.shallow, some-depths es)) (omega (arith, r.few, some-elements es)) in
      same-passage
      (passage-then (reads-opening name None st i (parent-name name es g) refl o)
      (passage-then (reads-elements es inner j (parent-children name es g) room refl child)
      (reads-children-end name (behind (counted st i) (count_all es) (starts_all es j) (depths_all es d)) _)))
      refl (behind-inside st i (count_all es) (starts_all es j) (depths_all es d))

  -- so do elements side by side, inside another one
  pub reads-elements : (es : Elements) (st : State) (i : ℕ) → good_all es ≡ true → Room st (count_all es) (depth_all es)
      → after_closing st.names ≡ between → MayOpen st i
      → Reads st i (render_all es) (behind st (count_all es) (starts_all es i) (depths_all es (suc (length st.names))))
  reads-elements (one e) st i g r inside o = reads-element e st i g (record { few = r.few; shallow = r.shallow }) o
  reads-elements (more e es) st i g r inside o =
      let d : ℕ = suc (length st.names) in
      let j : ℕ = i + length (render e) in
      let mid : State = behind st (count_of e) (starts_from e i) (depths_from e d) in
      let here : Room st (count_of e) (depth_of e) = record { few = omega (arith, r.few); shallow = omega (arith, r.shallow) } in
      let room : Room mid (count_all es) (depth_all es) = record { few = omega (arith, r.few); shallow = omega (arith, r.shallow) } in
      let sibling : MayOpen mid j = subst (λ (m : Mode). MayOpen (goes mid m) j) (sym inside) (open-sibling mid j (omega (arith, r.few, some-elements es))) in
      same-passage
      (passage-then (reads-element e st i (first_good e es g) here o) (reads-elements es mid j (others-good e es g) room inside sibling))
      refl (behind-both st (count_of e) (count_all es) (starts_from e i) (depths_from e d) (starts_all es j) (depths_all es d) (count-starts e i) (count-depths e d))
