-- What the places of an element say of its row, also where the sheet ends before its content: there are no places, and there is no text.
-- Assumes nothing.
use mathlib.Core.Path.{◌≡◌, refl, sym, ap, ◌∙◌}
use mathlib.Core.Bool.{Bool, true, false, ◌||◌, cond}
use mathlib.Core.List.{List}
use Rattle.std.specs.Prelude.{Option, Some, None}
use Prim.Native.Nat.{ℕ, ◌+◌, ◌-◌, ◌≤◌, ◌<◌}
use native.Mathlib.Omega.{arith}
use lib.Dec.{leb, ltb}
use lib.ListN.{length, take, drop, get_or-eq_default}
use borrow.Author.Tests.{leb-true, ltb-true, ltb-false}
use Rattle.shape.specs.Bytes.{is_text}
use Rattle.sheet.specs.Reader.{while, shown_at}
use Rattle.outline.specs.Rows.{name_end, has_ccy, ccy_at, inside_at, has_text, text_at}
use Rattle.outline.specs.Places.{text_end, parts_of, leaf_of}
use Rattle.outline.specs.declared.Parts.{Parts}
use Rattle.sheet.proofs.Parted.{part-there}
use Rattle.sheet.proofs.While.{take_while, while-inside}

-- the places of any element's parts stand in the sheet: those of its Ccy, where it has one, where its content begins, and where its text
-- ends, where it has one
pub record Stands (s : List ℕ) (p : Parts) : Type 0 where
  pub ccy-within : p.ccy ≡ true → p.to + 9 ≤ length s
  pub inside-within : p.inside ≤ length s
  pub forward : (end : ℕ) → p.text ≡ Some end → p.inside ≤ end
  pub end-within : (end : ℕ) → p.text ≡ Some end → end ≤ length s

-- what the places of an element with a text show. They stand in the sheet: those of its Ccy, where it has one, and those of its text
pub record Shows (s : List ℕ) (a : ℕ) (p : Parts) (end : ℕ) : Type 0 where
  pub inside-sheet : p.to < length s
  pub inside : p.inside ≡ inside_at s a
  pub ccy : ccy_at s a ≡ cond p.ccy (Some (take 3 (drop (p.to + 6) s))) None
  pub shown : text_at s a ≡ Some (take (end - p.inside) (drop p.inside s))
  pub ccy-within : p.ccy ≡ true → p.to + 9 ≤ length s
  pub forward : p.inside ≤ end
  pub end-within : end ≤ length s

-- behind the sheet's end there is no text
no_text : (s : List ℕ) (a : ℕ) → length s ≤ inside_at s a → has_text s a ≡ false
unfolding has_text is_text
no_text s a h = rw (get_or-eq_default s 0 h)

-- the content stands behind the name, and the name behind its `<`
tag-before : (t : Bool) → 1 ≤ cond t 11 1
tag-before true = omega arith
tag-before false = omega arith

name-before : (s : List ℕ) (a : ℕ) → name_end s a < inside_at s a
unfolding inside_at
name-before s a = omega (arith, tag-before (has_ccy s a))

start-before : (s : List ℕ) (a : ℕ) → a < name_end s a
unfolding name_end
start-before s a = omega arith

-- the element's parts where the sheet does not end before them
whole_parts : List ℕ → ℕ → Bool → Parts
whole_parts s a t = record { to = name_end s a; ccy = has_ccy s a; inside = inside_at s a; text = cond t (Some (text_end s a)) None }

text_of : (s : List ℕ) (a : ℕ) → has_text s a ≡ true → text_at s a ≡ Some (take (text_end s a - inside_at s a) (drop (inside_at s a) s))
unfolding text_at text_end
text_of s a h =
    let e : (inside_at s a + length (while is_text (drop (inside_at s a) s))) - inside_at s a ≡ length (while is_text (drop (inside_at s a) s)) = omega arith in
    rw (h, e, take_while is_text (drop (inside_at s a) s))

no-nothing : {A : Type 0} {x : A} → ◌≡◌ {A = Option A} None (Some x) → ⊥
no-nothing e = let z : ◌≡◌ {A = ℕ} 0 1 = cc in omega arith

-- a Ccy stands before the content, and the content before the text's end
ccy-before : (s : List ℕ) (a : ℕ) → has_ccy s a ≡ true → inside_at s a ≡ name_end s a + 11
unfolding inside_at
ccy-before s a h = rw h

text-forward : (s : List ℕ) (a : ℕ) → inside_at s a ≤ text_end s a
unfolding text_end
text-forward s a = omega arith

text-within : (s : List ℕ) (a : ℕ) → inside_at s a ≤ length s → text_end s a ≤ length s
unfolding text_end
text-within s a h = while-inside is_text s (inside_at s a) h

text-ends : (v : Bool) (t end : ℕ) → cond v (Some t) None ≡ Some end → t ≡ end
text-ends true t end e = cc
text-ends false t end e = absurd (no-nothing e)

whole-parts-stand : (s : List ℕ) (a : ℕ) (v : Bool) → inside_at s a ≤ length s → Stands s (whole_parts s a v)
unfolding whole_parts
whole-parts-stand s a v h = record {
  ccy-within = λ c. omega (arith, h, ccy-before s a c);
  inside-within = h;
  forward = λ end e. omega (arith, text-forward s a, text-ends v (text_end s a) end e);
  end-within = λ end e. omega (arith, text-within s a h, text-ends v (text_end s a) end e);
}

stand-if : (s : List ℕ) (a : ℕ) (p : Parts) (t u v : Bool) → ltb (length s) (inside_at s a) ≡ u
    → Some p ≡ cond (t || u) None (Some (whole_parts s a v)) → Stands s p
stand-if s a p true u v f e = absurd (no-nothing (sym e))
stand-if s a p false true v f e = absurd (no-nothing (sym e))
stand-if s a p false false v f e =
    let same : p ≡ whole_parts s a v = cc in
    rw same (whole-parts-stand s a v (ltb-false (length s) (inside_at s a) f))

pub stands : (s : List ℕ) (a : ℕ) (p : Parts) → Some p ≡ parts_of s a → Stands s p
unfolding parts_of whole_parts
stands s a p e = stand-if s a p (leb (length s) a) (ltb (length s) (inside_at s a)) (has_text s a) refl e

-- the element's parts are those, and its text ends there
module _ (s : List ℕ) (a : ℕ) (p : Parts) where
  there : (end : ℕ) (t u v : Bool) → ltb (length s) (inside_at s a) ≡ u → has_text s a ≡ v
      → Some p ≡ cond (t || u) None (Some (whole_parts s a v)) → p.text ≡ Some end → Shows s a p end
  unfolding ccy_at whole_parts
  there end true u v f g e h = absurd (no-nothing (sym e))
  there end false true v f g e h = absurd (no-nothing (sym e))
  there end false false false f g e h =
      let same : p ≡ whole_parts s a false = cc in
      absurd (no-nothing (sym (ap (λ (x : Parts). x.text) same) ∙ h))
  there end false false true f g e h =
      let same : p ≡ whole_parts s a true = cc in
      let ends : end ≡ text_end s a = let both : Some end ≡ Some (text_end s a) = sym h ∙ ap (λ (x : Parts). x.text) same in cc in
      let stand = stand-if s a p false false true f e in
      record {
        inside-sheet = rw same (omega (arith, ltb-false (length s) (inside_at s a) f, name-before s a));
        inside = rw same;
        ccy = rw same;
        shown = rw (same, ends) (text_of s a g);
        ccy-within = stand.ccy-within;
        forward = stand.forward end h;
        end-within = stand.end-within end h;
      }

  -- an element that shows a text is whole
  pub text-there : (end : ℕ) → Some p ≡ parts_of s a → p.text ≡ Some end → Shows s a p end
  unfolding parts_of whole_parts
  text-there end e h = there end (leb (length s) a) (ltb (length s) (inside_at s a)) (has_text s a) refl refl e h

  textless : (t u v : Bool) → Some p ≡ cond (t || u) None (Some (whole_parts s a v)) → p.text ≡ None → v ≡ false
  unfolding whole_parts
  textless t u false e h = refl
  textless true u true e h = absurd (no-nothing (sym e))
  textless false true true e h = absurd (no-nothing (sym e))
  textless false false true e h =
      let same : p ≡ whole_parts s a true = cc in
      absurd (no-nothing (sym h ∙ ap (λ (x : Parts). x.text) same))

  -- one that shows none has none
  pub text-missing : Some p ≡ parts_of s a → p.text ≡ None → text_at s a ≡ None
  unfolding parts_of text_at whole_parts
  text-missing e h = rw (textless (leb (length s) a) (ltb (length s) (inside_at s a)) (has_text s a) e h)

-- where no parts are, there is no text
no-parts : (s : List ℕ) (a : ℕ) (t u v : Bool) → leb (length s) a ≡ t → ltb (length s) (inside_at s a) ≡ u
    → None ≡ cond (t || u) None (Some (whole_parts s a v)) → has_text s a ≡ false
no-parts s a true u v d f e = no_text s a (omega (arith, leb-true (length s) a d, name-before s a, start-before s a))
no-parts s a false true v d f e = no_text s a (omega (arith, ltb-true (length s) (inside_at s a) f))
no-parts s a false false v d f e = absurd (no-nothing e)

pub parts-missing : (s : List ℕ) (a : ℕ) → None ≡ parts_of s a → text_at s a ≡ None
unfolding parts_of text_at whole_parts
parts-missing s a e = rw (no-parts s a (leb (length s) a) (ltb (length s) (inside_at s a)) (has_text s a) refl refl e)

-- the leaf, by the places of its parts; where there is no text there is none
pub leaf-missing : (s : List ℕ) (a : ℕ) → text_at s a ≡ None → None ≡ leaf_of s a
unfolding leaf_of
leaf-missing s a e = rw e

module _ {s : List ℕ} {a : ℕ} {p : Parts} {end : ℕ} (h : Shows s a p end) where
  -- the text, and the Ccy, as the reader shows them
  text-as-shown : shown_at s p.inside (end - p.inside) ≡ take (end - p.inside) (drop p.inside s)
  text-as-shown = part-there s p.inside (end - p.inside) (omega (arith, h.forward, h.end-within))

  leaf-shown : (ccy : Option (List ℕ)) → ccy_at s a ≡ ccy
      → Some (record { ccy = ccy; inside = p.inside; text = shown_at s p.inside (end - p.inside) }) ≡ leaf_of s a
  unfolding leaf_of
  leaf-shown ccy e = rw (text-as-shown, h.shown, ← h.inside, e)

  pub leaf-without-ccy : p.ccy ≡ false → Some (record { ccy = None; inside = p.inside; text = shown_at s p.inside (end - p.inside) }) ≡ leaf_of s a
  leaf-without-ccy g = leaf-shown None (h.ccy ∙ rw g)

  pub leaf-with-ccy : p.ccy ≡ true
      → Some (record { ccy = Some (shown_at s (p.to + 6) 3); inside = p.inside; text = shown_at s p.inside (end - p.inside) }) ≡ leaf_of s a
  leaf-with-ccy g = leaf-shown (Some (shown_at s (p.to + 6) 3)) (h.ccy ∙ rw (g, part-there s (p.to + 6) 3 (omega (arith, h.ccy-within g))))
