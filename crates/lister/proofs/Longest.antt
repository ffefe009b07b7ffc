-- No listing is longer than 148,236 bytes, so a buffer of that length is never too short.
-- Assumes nothing.
use Rattle.std.specs.Prelude.{Option, Some, None}
use mathlib.Core.Path.{◌≡◌, refl, sym, subst, ◌∙◌}
use mathlib.Core.Bool.{Bool, true, false, cond}
use mathlib.Core.List.{List, [], ◌∷◌, ◌++◌, append_assoc, append-nil}
use Prim.Native.Nat.{ℕ, suc, ◌+◌, ◌*◌, ◌≤◌}
use native.Mathlib.Omega.{arith}
use lib.Dec.{ltb}
use lib.ListN.{length, length-append, length-take}
use Rattle.shape.proofs.Loops.{fits-length}
use Rattle.shape.specs.Patterns.{currency_pattern}
use Rattle.sheet.specs.Grammar.{name_most, depth_most, sheet_most, Element, leaf, parent, Elements, one, more, opening, render, count_of, count_all}
use Rattle.sheet.specs.Grammar.{depth_of, depth_all, is_name, is_ccy, is_content, good_parts, good_all, Good, starts_from, depths_from, placed}
use Rattle.sheet.specs.Answer.{Reading, accepted, refused, reading_of}
use Rattle.sheet.specs.Right.{Right, whole, broken, long}
use Rattle.sheet.proofs.Reading.{reading-right}
use Rattle.sheet.proofs.Acceptance.Parts.{name-short, name-not-empty, content-short, leaf-name, leaf-ccy, leaf-content, parent-name, parent-children, first_good, others-good}
use Rattle.outline.specs.Rows.{Row, rows, rows_all}
use Rattle.outline.proofs.OfTree.{rows-of-tree}
use Rattle.lister.specs.Listing.{path_text, ccy_text, line_with, line_of, lines_of, fields_of, decimal_text, text_of, listing_of}
use Rattle.lister.specs.Listing.{line_most, listing_most, listed_count}

-- what a name adds to a path
name-most : (name : List ℕ) → is_name name ≡ true → length name ≤ name_most
name-most [] g = absurd (name-not-empty g)
name-most (b ∷ w) g = name-short b w g

path-grows : (name : List ℕ) (around : List (List ℕ)) (k : ℕ) → is_name name ≡ true → length (path_text around) ≤ suc name_most * k
    → length (path_text (name ∷ around)) ≤ suc name_most * suc k
path-grows name around k g h = omega (arith, length-append (path_text around) (47 ∷ name), name-most name g)

ccy-most : (ccy : Option (List ℕ)) → is_ccy ccy ≡ true → length (ccy_text ccy) ≤ 5
unfolding is_ccy currency_pattern
ccy-most None g = omega arith
ccy-most (Some ccy) g = omega (arith, length-append ccy (93 ∷ []), fits-length currency_pattern ccy g)

-- the line of a leaf
line-most : (path : List (List ℕ)) (ccy : Option (List ℕ)) (text : List ℕ) (k : ℕ) → length (path_text path) ≤ suc name_most * k → k ≤ depth_most
    → is_ccy ccy ≡ true → is_content text ≡ true → length (line_with path ccy (Some text)) ≤ line_most
line-most path ccy text k h few c t =
    omega (
      arith,
      length-append (path_text path) (ccy_text ccy ++ (32 ∷ (text ++ (10 ∷ [])))),
      length-append (ccy_text ccy) (32 ∷ (text ++ (10 ∷ []))),
      length-append text (10 ∷ []),
      ccy-most ccy c,
      content-short text t,
    )

lines-append : (xs ys : List Row) → lines_of (xs ++ ys) ≡ lines_of xs ++ lines_of ys
unfolding lines_of
lines-append [] ys = refl
lines-append (x ∷ xs) ys = rw (lines-append xs ys, append_assoc (line_of x) (lines_of xs) (lines_of ys))

mutual
  unfolding lines_of line_of rows rows_all count_of count_all depth_of depth_all good_parts good_all

  lines-most : (e : Element) (i : ℕ) (around : List (List ℕ)) (k : ℕ) → good_parts e ≡ true → length (path_text around) ≤ suc name_most * k
      → k + depth_of e ≤ depth_most → length (lines_of (rows e i around)) ≤ line_most * count_of e
  lines-most (leaf name ccy text) i around k g h deep =
      rw (append-nil (line_with (name ∷ around) ccy (Some text)))
      (line-most (name ∷ around) ccy text (suc k) (path-grows name around k (leaf-name name ccy text g) h) (omega arith)
      (leaf-ccy name ccy text g) (leaf-content name ccy text g))
  lines-most (parent name es) i around k g h deep =
      let j : ℕ = i + length (opening name None) in
      let inner : length (lines_of (rows_all es j (name ∷ around))) ≤ line_most * count_all es =
      all_most es j (name ∷ around) (suc k) (parent-children name es g) (path-grows name around k (parent-name name es g) h) (omega arith) in
      omega (arith, inner)

  all_most : (es : Elements) (i : ℕ) (around : List (List ℕ)) (k : ℕ) → good_all es ≡ true → length (path_text around) ≤ suc name_most * k
      → k + depth_all es ≤ depth_most → length (lines_of (rows_all es i around)) ≤ line_most * count_all es
  all_most (one e) i around k g h deep = lines-most e i around k g h deep
  all_most (more e es) i around k g h deep =
      let j : ℕ = i + length (render e) in
      let first : length (lines_of (rows e i around)) ≤ line_most * count_of e = lines-most e i around k (first_good e es g) h (omega arith) in
      let others : length (lines_of (rows_all es j around)) ≤ line_most * count_all es = all_most es j around k (others-good e es g) h (omega arith) in
      rw (lines-append (rows e i around) (rows_all es j around)) (omega (arith, length-append (lines_of (rows e i around)) (lines_of (rows_all es j around)), first, others))

either-most : (t : Bool) (x y : List ℕ) → length x ≤ 4 → length y ≤ 4 → length (cond t x y) ≤ 4
either-most true x y h k = h
either-most false x y h k = k

-- a number has at most four digits
decimal-most : (n : ℕ) → length (decimal_text n) ≤ 4
unfolding decimal_text
decimal-most n =
    either-most (ltb n 10) _ _ (omega arith) (either-most (ltb n 100) _ _ (omega arith) (either-most (ltb n 1000) _ _ (omega arith) (omega arith)))

tree-most : (e : Element) → Good e
    → length (text_of (render e) (accepted (count_of e) (placed (starts_from e 0)) (placed (depths_from e 1)))) ≤ listing_most
unfolding text_of
tree-most e good =
    rw (rows-of-tree e good)
    (omega (
      arith,
      length-append (lines_of (rows e 0 [])) (decimal_text (fields_of (rows e 0 [])) ++ (32 ∷ 102 ∷ 105 ∷ 101 ∷ 108 ∷ 100 ∷ 115 ∷ 10 ∷ [])),
      length-append (decimal_text (fields_of (rows e 0 []))) (32 ∷ 102 ∷ 105 ∷ 101 ∷ 108 ∷ 100 ∷ 115 ∷ 10 ∷ []),
      decimal-most (fields_of (rows e 0 [])),
      lines-most e 0 [] 0 good.parts (omega arith) (omega (arith, good.shallow)),
      good.few,
    ))

refused-most : (s : List ℕ) (k : ℕ) → length (text_of s (refused k)) ≤ listing_most
unfolding text_of
refused-most s k = omega (arith, length-append (decimal_text k) (10 ∷ []), decimal-most k)

right-most : (s : List ℕ) (r : Reading) → Right s r → length (text_of s r) ≤ listing_most
right-most s r (whole w l) =
    subst (λ (t : List ℕ). length (text_of t (accepted (count_of w.tree) (placed (starts_from w.tree 0)) (placed (depths_from w.tree 1)))) ≤ listing_most)
    (sym w.written) (tree-most w.tree w.good)
right-most s r (broken k l not-formed inside front further) = refused-most s k
right-most s r (long l) = refused-most s sheet_most

pub longest : (s : List ℕ) → length (listing_of s) ≤ listing_most
unfolding listing_of
longest s = right-most s (reading_of s) (reading-right s)

-- with room for that many bytes the whole listing is written
pub whole-written : (s out : List ℕ) → listing_most ≤ length out → listed_count s out ≡ length (listing_of s)
unfolding listed_count
whole-written s out h = length-take (length out) (listing_of s) ∙ omega (arith, longest s)
