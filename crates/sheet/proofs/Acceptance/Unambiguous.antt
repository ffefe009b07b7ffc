-- A sheet is written from one tree only: two good trees that are written the same are the same.
-- Assumes nothing.
use Rattle.std.specs.Prelude.{Option, None}
use mathlib.Core.Path.{◌≡◌, refl, ap, sym, ◌∙◌}
use mathlib.Core.Bool.{true}
use mathlib.Core.List.{List, [], ◌∷◌, ◌++◌, append_assoc}
use Prim.Native.Nat.{ℕ}
use Rattle.shape.specs.Text.{bytes}
use Rattle.shape.specs.Bytes.{is_text}
use Rattle.sheet.specs.Grammar.{Element, leaf, parent, Elements, one, more, opening, closing, render, render_all, is_ccy, is_content, good_parts, good_all}
use Rattle.sheet.proofs.Acceptance.Split.{splits-same}
use Rattle.sheet.proofs.Acceptance.Same.{SameOpening, same-opening, same-behind-closing}
use Rattle.sheet.proofs.Acceptance.Parts.{leaf-name, leaf-ccy, leaf-content, content-bytes, parent-name, parent-children, first_good, others-good}
use Rattle.sheet.proofs.Acceptance.Begins.{less-no-text, leaf-written, parent-written, elements-begin, text-begins-otherwise, closing-begins-otherwise}

no-ccy : is_ccy None ≡ true
unfolding is_ccy
no-ccy = refl

-- two texts with a closing tag behind each
same_text : (x y s t n m : List ℕ) → is_content x ≡ true → is_content y ≡ true
    → x ++ (closing n ++ s) ≡ y ++ (closing m ++ t) → (x ≡ y) × (closing n ++ s ≡ closing m ++ t)
same_text x y s t n m g h e =
    let u : List ℕ = bytes "/" ++ (n ++ bytes ">") ++ s in
    let v : List ℕ = bytes "/" ++ (m ++ bytes ">") ++ t in
    let p = splits-same is_text x y 60 60 u v (content-bytes x g) (content-bytes y h) less-no-text less-no-text e in
    (p.before, ap (λ (w : List ℕ). 60 ∷ w) p.after)

-- two leaves that are written the same, each with anything behind it
same-leaf : (n m : List ℕ) (c d : Option (List ℕ)) (x y s t : List ℕ) → good_parts (leaf n c x) ≡ true → good_parts (leaf m d y) ≡ true
    → render (leaf n c x) ++ s ≡ render (leaf m d y) ++ t → (leaf n c x ≡ leaf m d y) × (s ≡ t)
same-leaf n m c d x y s t g h e =
    let u : List ℕ = closing n ++ s in
    let v : List ℕ = closing m ++ t in
    let q : opening n c ++ (x ++ u) ≡ opening m d ++ (y ++ v) = sym (leaf-written n c x s) ∙ e ∙ leaf-written m d y t in
    let o = same-opening n m c d (x ++ u) (y ++ v) (leaf-name n c x g) (leaf-name m d y h) (leaf-ccy n c x g) (leaf-ccy m d y h) q in
    let p = same_text x y s t n m (leaf-content n c x g) (leaf-content m d y h) o.after in
    (cc (o.name, o.ccy, p.0), same-behind-closing n m s t (leaf-name n c x g) (leaf-name m d y h) p.1)

-- a leaf and a parent are never written the same: behind its opening tag the one has a byte of a text, the other an element
leaf-no-parent : (n m : List ℕ) (c : Option (List ℕ)) (x : List ℕ) (fs : Elements) (s t : List ℕ)
    → good_parts (leaf n c x) ≡ true → good_parts (parent m fs) ≡ true → render (leaf n c x) ++ s ≡ render (parent m fs) ++ t → ⊥
leaf-no-parent n m c x fs s t g h e =
    let u : List ℕ = x ++ (closing n ++ s) in
    let v : List ℕ = render_all fs ++ (closing m ++ t) in
    let q : opening n c ++ u ≡ opening m None ++ v = sym (leaf-written n c x s) ∙ e ∙ parent-written m fs t in
    let o = same-opening n m c None u v (leaf-name n c x g) (parent-name m fs h) (leaf-ccy n c x g) no-ccy q in
    text-begins-otherwise x (closing n ++ s) (leaf-content n c x g) (rw o.after (elements-begin fs (closing m ++ t) (parent-children m fs h)))

-- two parents that are written the same have the same name, and the same stands behind their opening tags
same-parent : (n m : List ℕ) (es fs : Elements) (s t : List ℕ) → good_parts (parent n es) ≡ true → good_parts (parent m fs) ≡ true
    → render (parent n es) ++ s ≡ render (parent m fs) ++ t → SameOpening n m None None (render_all es ++ (closing n ++ s)) (render_all fs ++ (closing m ++ t))
same-parent n m es fs s t g h e =
    same-opening n m None None (render_all es ++ (closing n ++ s)) (render_all fs ++ (closing m ++ t)) (parent-name n es g) (parent-name m fs h) no-ccy no-ccy
    (sym (parent-written n es s) ∙ e ∙ parent-written m fs t)

-- where a closing tag stands no more elements follow
closing-no-more : (fs : Elements) (s t : List ℕ) → good_all fs ≡ true → bytes "</" ++ s ≡ render_all fs ++ (bytes "</" ++ t) → ⊥
closing-no-more fs s t g q = closing-begins-otherwise s (rw q (elements-begin fs (bytes "</" ++ t) g))

mutual
  unfolding render_all good_all

  -- two elements that are written the same, each with anything behind it
  pub same-element : (e f : Element) (s t : List ℕ) → good_parts e ≡ true → good_parts f ≡ true → render e ++ s ≡ render f ++ t → (e ≡ f) × (s ≡ t)
  same-element (leaf n c x) (leaf m d y) s t g h e = same-leaf n m c d x y s t g h e
  same-element (leaf n c x) (parent m fs) s t g h e = absurd (leaf-no-parent n m c x fs s t g h e)
  same-element (parent n es) (leaf m d y) s t g h e = absurd (leaf-no-parent m n d y es t s h g (sym e))
  same-element (parent n es) (parent m fs) s t g h e =
      let o = same-parent n m es fs s t g h e in
      let p = same-elements es fs (n ++ bytes ">" ++ s) (m ++ bytes ">" ++ t) (parent-children n es g) (parent-children m fs h) o.after in
      (cc (o.name, p.0), same-behind-closing n m s t (parent-name n es g) (parent-name m fs h) (ap (λ (w : List ℕ). bytes "</" ++ w) p.1))

  -- and elements side by side, with a closing tag behind them
  same-elements : (es fs : Elements) (s t : List ℕ) → good_all es ≡ true → good_all fs ≡ true
      → render_all es ++ (bytes "</" ++ s) ≡ render_all fs ++ (bytes "</" ++ t) → (es ≡ fs) × (s ≡ t)
  same-elements (one e) (one f) s t g h q =
      let p = same-element e f (bytes "</" ++ s) (bytes "</" ++ t) g h q in
      (ap one p.0, cc p.1)
  same-elements (one e) (more f fs) s t g h q =
      let v : List ℕ = bytes "</" ++ t in
      let p = same-element e f (bytes "</" ++ s) (render_all fs ++ v) g (first_good f fs h) (q ∙ append_assoc (render f) (render_all fs) v) in
      absurd (closing-no-more fs s t (others-good f fs h) p.1)
  same-elements (more e es) (one f) s t g h q =
      let u : List ℕ = bytes "</" ++ s in
      let p = same-element e f (render_all es ++ u) (bytes "</" ++ t) (first_good e es g) h (sym (append_assoc (render e) (render_all es) u) ∙ q) in
      absurd (closing-no-more es t s (others-good e es g) (sym p.1))
  same-elements (more e es) (more f fs) s t g h q =
      let u : List ℕ = bytes "</" ++ s in
      let v : List ℕ = bytes "</" ++ t in
      let k : render e ++ (render_all es ++ u) ≡ render f ++ (render_all fs ++ v) = sym (append_assoc (render e) (render_all es) u) ∙ q ∙ append_assoc (render f) (render_all fs) v in
      let p = same-element e f (render_all es ++ u) (render_all fs ++ v) (first_good e es g) (first_good f fs h) k in
      let r = same-elements es fs s t (others-good e es g) (others-good f fs h) p.1 in
      (cc (p.0, r.0), r.1)

-- two good trees that are written the same are the same
pub unambiguous : (e f : Element) → good_parts e ≡ true → good_parts f ≡ true → render e ≡ render f → e ≡ f
unambiguous e f g h q = (same-element e f [] [] g h (ap (λ (w : List ℕ). w ++ []) q)).0
