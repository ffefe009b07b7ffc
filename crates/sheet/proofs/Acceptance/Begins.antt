-- Every element is written with `<` and a letter first. So no text begins like an element, and neither does a closing tag.
-- Assumes nothing.
use Rattle.std.specs.Prelude.{Option, Some, None}
use mathlib.Core.Path.{◌≡◌, refl}
use mathlib.Core.Bool.{true, false}
use mathlib.Core.List.{List, [], ◌∷◌, ◌++◌, append_assoc}
use Prim.Native.Nat.{ℕ}
use Prim.Native.Char.{code}
use native.Mathlib.Omega.{arith}
use Rattle.shape.specs.Text.{bytes}
use Rattle.shape.specs.Bytes.{every, is_letter, is_capital, is_small, is_text}
use Rattle.shape.proofs.Tests.{and_left}
use Rattle.sheet.specs.Grammar.{Element, leaf, parent, Elements, one, more, opening, closing, render, render_all, is_name, is_content, good_parts, good_all}
use Rattle.sheet.proofs.Acceptance.Parts.{name-letter, name-not-empty, content-bytes, content-some, leaf-name, parent-name, first_good}
use Rattle.sheet.proofs.Acceptance.Split.{refused-differs}

-- `<` is no byte of a text
pub less-no-text : is_text (code "<") ≡ false
unfolding is_text
less-no-text = refl

-- an element and what stands behind it, part by part
pub leaf-written : (n : List ℕ) (c : Option (List ℕ)) (x s : List ℕ) → render (leaf n c x) ++ s ≡ opening n c ++ (x ++ (closing n ++ s))
unfolding render
leaf-written n c x s = simp append_assoc

pub parent-written : (n : List ℕ) (es : Elements) (s : List ℕ) → render (parent n es) ++ s ≡ opening n None ++ (render_all es ++ (closing n ++ s))
unfolding render
parent-written n es s = simp append_assoc

-- the text begins like an element
pub record BeginsElement (w : List ℕ) : Type 0 where
  pub letter : ℕ
  pub rest : List ℕ
  pub is-letter : is_letter letter ≡ true
  pub written : w ≡ code "<" ∷ letter ∷ rest

-- opening tags do, and so elements, and elements side by side
opening-begins : (n : List ℕ) (c : Option (List ℕ)) (s : List ℕ) → is_name n ≡ true → BeginsElement (opening n c ++ s)
opening-begins [] c s g = absurd (name-not-empty g)
opening-begins (b ∷ w) None s g = record { letter = b; rest = w ++ bytes ">" ++ s; is-letter = name-letter b w g; written = refl }
opening-begins (b ∷ w) (Some ccy) s g =
    record { letter = b; rest = w ++ (bytes " Ccy=\"" ++ (ccy ++ bytes "\">")) ++ s; is-letter = name-letter b w g; written = refl }

pub element-begins : (e : Element) (s : List ℕ) → good_parts e ≡ true → BeginsElement (render e ++ s)
element-begins (leaf n c x) s g = rw leaf-written (opening-begins n c (x ++ (closing n ++ s)) (leaf-name n c x g))
element-begins (parent n es) s g = rw parent-written (opening-begins n None (render_all es ++ (closing n ++ s)) (parent-name n es g))

pub elements-begin : (es : Elements) (s : List ℕ) → good_all es ≡ true → BeginsElement (render_all es ++ s)
unfolding render_all good_all
elements-begin (one e) s g = element-begins e s g
elements-begin (more e es) s g = rw append_assoc (element-begins e (render_all es ++ s) (first_good e es g))

-- no text does
pub text-begins-otherwise : (x s : List ℕ) → is_content x ≡ true → BeginsElement (x ++ s) → ⊥
text-begins-otherwise [] s g r = omega (arith, content-some [] g)
text-begins-otherwise (b ∷ x) s g r =
    refused-differs is_text 60 b less-no-text (and_left (is_text b) (every is_text x) (content-bytes (b ∷ x) g)) (cc r.written)

-- no closing tag does
slash-no-letter : is_letter (code "/") ≡ false
unfolding is_letter is_capital is_small
slash-no-letter = refl

pub closing-begins-otherwise : (s : List ℕ) → BeginsElement (bytes "</" ++ s) → ⊥
closing-begins-otherwise s r = refused-differs is_letter 47 r.letter slash-no-letter r.is-letter (cc r.written)
