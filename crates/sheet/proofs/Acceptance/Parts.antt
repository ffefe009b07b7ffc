-- The tests of names, texts and trees, taken apart.
-- Assumes nothing.
use Rattle.std.specs.Prelude.{Option, Some, None}
use mathlib.Core.Path.{◌≡◌}
use mathlib.Core.Bool.{Bool, true, false, ◌&&◌, false≢true}
use mathlib.Core.List.{List, [], ◌∷◌}
use Prim.Native.Nat.{ℕ, ◌≤◌}
use lib.Dec.{leb}
use lib.ListN.{length}
use borrow.Author.Tests.{leb-true}
use Rattle.shape.specs.Bytes.{every, is_letter, is_text}
use Rattle.shape.proofs.Tests.{and_left, and_right}
use Rattle.sheet.specs.Grammar.{Element, leaf, parent, Elements, more, name_most, text_most, is_name_byte, is_name, is_ccy, is_content, good_parts, good_all}

-- a name is a letter, then letters and digits, at most 35 in all
module _ (b : ℕ) (w : List ℕ) (g : is_name (b ∷ w) ≡ true) where
  begins-so : is_letter b && every is_name_byte w ≡ true
  unfolding is_name
  begins-so = and_left (is_letter b && every is_name_byte w) (leb (length (b ∷ w)) name_most) g

  pub name-letter : is_letter b ≡ true
  name-letter = and_left (is_letter b) (every is_name_byte w) begins-so

  pub name-bytes : every is_name_byte w ≡ true
  name-bytes = and_right (is_letter b) (every is_name_byte w) begins-so

  pub name-short : length (b ∷ w) ≤ name_most
  unfolding is_name
  name-short = leb-true (length (b ∷ w)) name_most (and_right (is_letter b && every is_name_byte w) (leb (length (b ∷ w)) name_most) g)

-- no name is empty
pub name-not-empty : is_name [] ≡ true → ⊥
unfolding is_name
name-not-empty g = false≢true g

-- an opening tag has a Ccy
abbrev pub given : Option (List ℕ) → Bool
given None = false
given (Some ccy) = true

-- a text is 1 to 140 bytes of a text
module _ (x : List ℕ) (g : is_content x ≡ true) where
  pub content-bytes : every is_text x ≡ true
  unfolding is_content
  content-bytes = and_right (leb 1 (length x) && leb (length x) text_most) (every is_text x) g

  content-sizes : leb 1 (length x) && leb (length x) text_most ≡ true
  unfolding is_content
  content-sizes = and_left (leb 1 (length x) && leb (length x) text_most) (every is_text x) g

  pub content-some : 1 ≤ length x
  content-some = leb-true 1 (length x) (and_left (leb 1 (length x)) (leb (length x) text_most) content-sizes)

  pub content-short : length x ≤ text_most
  content-short = leb-true (length x) text_most (and_right (leb 1 (length x)) (leb (length x) text_most) content-sizes)

-- the parts of a good leaf
module _ (n : List ℕ) (c : Option (List ℕ)) (x : List ℕ) (g : good_parts (leaf n c x) ≡ true) where
  leaf-tag : is_name n && is_ccy c ≡ true
  unfolding good_parts
  leaf-tag = and_left (is_name n && is_ccy c) (is_content x) g

  pub leaf-name : is_name n ≡ true
  leaf-name = and_left (is_name n) (is_ccy c) leaf-tag

  pub leaf-ccy : is_ccy c ≡ true
  leaf-ccy = and_right (is_name n) (is_ccy c) leaf-tag

  pub leaf-content : is_content x ≡ true
  unfolding good_parts
  leaf-content = and_right (is_name n && is_ccy c) (is_content x) g

-- the parts of a good parent
module _ (n : List ℕ) (es : Elements) (g : good_parts (parent n es) ≡ true) where
  pub parent-name : is_name n ≡ true
  unfolding good_parts
  parent-name = and_left (is_name n) (good_all es) g

  pub parent-children : good_all es ≡ true
  unfolding good_parts
  parent-children = and_right (is_name n) (good_all es) g

-- the parts of good elements side by side
module _ (e : Element) (es : Elements) (g : good_all (more e es) ≡ true) where
  pub first_good : good_parts e ≡ true
  unfolding good_all
  first_good = and_left (good_parts e) (good_all es) g

  pub others-good : good_all es ≡ true
  unfolding good_all
  others-good = and_right (good_parts e) (good_all es) g
