-- Parts of a sheet as they are written: byte by byte, and the parts of an element that holds a text.
-- Assumes nothing.
use mathlib.Core.Path.{◌≡◌, refl, ap, ◌∙◌}
use mathlib.Core.Bool.{Bool, true, false, cond}
use mathlib.Core.List.{List, [], ◌∷◌, ◌++◌}
use Prim.Native.Nat.{ℕ, ◌+◌, ◌-◌, ◌≤◌, ◌<◌}
use native.Mathlib.Omega.{arith}
use native.Mathlib.Numerals.{add-one}
use lib.ListN.{length, take, drop, get_or, length-drop, drop_of_length-le}
use lib.Dec.{leb}
use lib.Seq.{drop-cons}
use Rattle.std.specs.Prelude.{min}
use borrow.Author.Tests.{leb-true, leb-false}
use Rattle.std.proofs.Math.Nat.{min-le_left, min-le_right, min-eq_left, le-min}
use Rattle.std.proofs.lemmas.List.{take_all}
use Rattle.outline.specs.Rows.{name_at, ccy_at, inside_at, text_at}
use Rattle.outline.specs.declared.Leaf.{Leaf}
use Rattle.shape.specs.Text.{bytes}
use mir.Val.{bool_byte}
use Rattle.std.specs.Prelude.{Option, Some, None, is_some}
use Rattle.std.specs.Option.{option_map}
use Rattle.outline.specs.Places.{LeafHeld, leaf_shown, leaf_of}
use Rattle.lister.specs.Listing.{path_text, ccy_text, line_with, holds_text}
use Rattle.lister.specs.Writing.{names_of}

-- a text, one byte after the other
module _ (s : List ℕ) (i : ℕ) where
  pub text-goes : i < length s → drop i s ≡ (get_or s i 0 ∷ []) ++ drop (i + 1) s
  text-goes k = rw (drop-cons s i 0 k, add-one i)

  pub text-ends : length s ≤ i → drop i s ≡ []
  text-ends h = drop_of_length-le s h

-- the path grows by one name, which is printed behind the others
module _ (s stack : List ℕ) (i : ℕ) where
  pub path-longer : path_text (names_of s stack i) ++ (bytes "/" ++ name_at s (get_or stack i 0)) ≡ path_text (names_of s stack (i + 1))
  path-longer = rw (add-one i)

  pub path-same : (level : ℕ) → i ≡ level → path_text (names_of s stack i) ≡ path_text (names_of s stack level)
  path-same level e = rw e

-- the line of an element by its leaf, part by part; nothing where there is none
line_by : List (List ℕ) → Option LeafHeld → List ℕ
line_by path None = []
line_by path (Some leaf) = path_text path ++ (ccy_text leaf.ccy ++ (bytes " " ++ (leaf.text ++ bytes "\n")))

line-told : (path : List (List ℕ)) (ccy : Option (List ℕ)) (inside : ℕ) (text : Option (List ℕ))
    → line_by path (option_map (λ t. record { ccy = ccy; inside = inside; text = t }) text) ≡ line_with path ccy text
unfolding line_by
line-told path ccy inside None = refl
line-told path ccy inside (Some text) = refl

module _ (s : List ℕ) (a : ℕ) (path : List (List ℕ)) where
  pub line-none : None ≡ leaf_of s a → [] ≡ line_with path (ccy_at s a) (text_at s a)
  unfolding leaf_of line_by
  line-none e = ap (line_by path) e ∙ line-told path (ccy_at s a) (inside_at s a) (text_at s a)

  pub line-there : (leaf : LeafHeld) → Some leaf ≡ leaf_of s a
      → path_text path ++ (ccy_text leaf.ccy ++ (bytes " " ++ (leaf.text ++ bytes "\n"))) ≡ line_with path (ccy_at s a) (text_at s a)
  unfolding leaf_of line_by
  line-there leaf e = ap (line_by path) e ∙ line-told path (ccy_at s a) (inside_at s a) (text_at s a)

-- how many texts an element holds, by its leaf
texts_by : Option LeafHeld → ℕ
texts_by None = 0
texts_by (Some leaf) = 1

texts-told : (ccy : Option (List ℕ)) (inside : ℕ) (text : Option (List ℕ))
    → texts_by (option_map (λ t. record { ccy = ccy; inside = inside; text = t }) text) ≡ holds_text text
unfolding texts_by
texts-told ccy inside None = refl
texts-told ccy inside (Some text) = refl

texts-shown : (leaf : Option Leaf) → bool_byte (is_some leaf) ≡ texts_by (leaf_shown leaf)
unfolding texts_by
texts-shown None = refl
texts-shown (Some leaf) = refl

pub holds-leaf : (s : List ℕ) (a : ℕ) (leaf : Option Leaf) → leaf_shown leaf ≡ leaf_of s a
    → {t : Bool} {n : ℕ} → t ≡ is_some leaf → n ≡ bool_byte t → n ≡ holds_text (text_at s a)
unfolding leaf_of
holds-leaf s a leaf e f g = g ∙ ap bool_byte f ∙ texts-shown leaf ∙ ap texts_by e ∙ texts-told (ccy_at s a) (inside_at s a) (text_at s a)
