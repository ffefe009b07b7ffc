-- The rows that are read off what a good tree is written as are the tree's.
-- Assumes nothing.
use Rattle.std.specs.Prelude.{Option, Some, None}
use mathlib.Core.Path.{◌≡◌, refl, sym, ap, ◌∙◌}
use mathlib.Core.Bool.{true}
use mathlib.Core.List.{List, [], ◌∷◌, ◌++◌, append_assoc, append-nil}
use Prim.Native.Nat.{ℕ, suc, ◌+◌}
use lib.ListN.{length, take, drop}
use lib.Seq.{take_at}
use Rattle.sheet.specs.Grammar.{Element, leaf, parent, Elements, one, more, opening, closing, render, render_all, count_of, starts_from, starts_all, depths_from, depths_all, placed, is_ccy, good_parts, good_all, Good}
use Rattle.outline.specs.Rows.{Row, rows, rows_all, name_at, ccy_at, inside_at, text_at, rows_from, rows_of}
use Rattle.outline.proofs.Standing.{stands-behind}
use Rattle.sheet.proofs.Acceptance.Parts.{leaf-name, leaf-ccy, leaf-content as leaf-text, parent-name, parent-children, first_good, others-good}
use Rattle.outline.proofs.Opened.{Opens, opening-read}
use Rattle.outline.proofs.Contents.{text-read, no-text-read}
use Rattle.outline.proofs.Around.{last_names, last_names_all, around-stays}
use Rattle.sheet.proofs.Acceptance.Sizes.{count-starts, count-depths}

-- one element gives one row, and the next ones are read behind its path
row_read : (s : List ℕ) (a : ℕ) (inner around : List (List ℕ)) (name : List ℕ) (ccy text : Option (List ℕ)) (inside : ℕ) (starts depths : List ℕ)
    → name_at s a ≡ name → ccy_at s a ≡ ccy → inside_at s a ≡ inside → text_at s a ≡ text
    → rows_from s (inner ++ around) (a ∷ starts) (suc (length around) ∷ depths)
    ≡ record { path = name ∷ around; ccy = ccy; inside = inside; text = text } ∷ rows_from s (name ∷ around) starts depths
unfolding rows_from
row_read s a inner around name ccy text inside starts depths n c i t = rw (around-stays inner around, n, c, i, t)

mutual
  unfolding render render_all starts_from starts_all depths_from depths_all rows rows_all last_names last_names_all good_parts good_all is_ccy

  -- where an element stands in a sheet, behind one whose path ends in the names around it, its rows are read, and the next ones behind its last path
  pub rows-of-element : (e : Element) (s : List ℕ) (i : ℕ) (rest : List ℕ) (inner around : List (List ℕ)) (starts depths : List ℕ)
      → good_parts e ≡ true → drop i s ≡ render e ++ rest
      → rows_from s (inner ++ around) (starts_from e i ++ starts) (depths_from e (suc (length around)) ++ depths)
      ≡ rows e i around ++ rows_from s (last_names e ++ around) starts depths
  rows-of-element (leaf name ccy text) s i rest inner around starts depths g stands =
      let behind : List ℕ = text ++ (closing name ++ rest) in
      let tag : Opens s i name ccy behind = opening-read s i name ccy behind (leaf-name name ccy text g) (leaf-ccy name ccy text g) (stands ∙ simp append_assoc) in
      row_read s i inner around name ccy (Some text) (i + length (opening name ccy)) starts depths tag.named tag.with-ccy tag.behind
      (text-read s i text _ (leaf-text name ccy text g) tag.holds)
  rows-of-element (parent name es) s i rest inner around starts depths g stands =
      let behind : List ℕ = render_all es ++ (closing name ++ rest) in
      let from-tag : drop i s ≡ opening name None ++ behind = stands ∙ simp append_assoc in
      let tag : Opens s i name None behind = opening-read s i name None behind (parent-name name es g) refl from-tag in
      let j : ℕ = i + length (opening name None) in
      let d : ℕ = suc (suc (length around)) in
      row_read s i inner around name None None j (starts_all es j ++ starts) (depths_all es d ++ depths) tag.named tag.with-ccy tag.behind
      (no-text-read s i es (closing name ++ rest) tag.holds)
      ∙ ap (λ (r : List Row). record { path = name ∷ around; ccy = None; inside = j; text = None } ∷ r)
      (rows-of-elements es s j (closing name ++ rest) [] (name ∷ around) starts depths (parent-children name es g)
      (stands-behind s (opening name None) behind i from-tag)
      ∙ rw append_assoc)

  -- so it is with elements side by side
  pub rows-of-elements : (es : Elements) (s : List ℕ) (i : ℕ) (rest : List ℕ) (inner around : List (List ℕ)) (starts depths : List ℕ)
      → good_all es ≡ true → drop i s ≡ render_all es ++ rest
      → rows_from s (inner ++ around) (starts_all es i ++ starts) (depths_all es (suc (length around)) ++ depths)
      ≡ rows_all es i around ++ rows_from s (last_names_all es ++ around) starts depths
  rows-of-elements (one e) s i rest inner around starts depths g stands = rows-of-element e s i rest inner around starts depths g stands
  rows-of-elements (more e es) s i rest inner around starts depths g stands =
      let from_first : drop i s ≡ render e ++ (render_all es ++ rest) = stands ∙ simp append_assoc in
      let j : ℕ = i + length (render e) in
      let d : ℕ = suc (length around) in
      simp append_assoc
      (rows-of-element e s i (render_all es ++ rest) inner around (starts_all es j ++ starts) (depths_all es d ++ depths) (first_good e es g) from_first
      ∙ ap (λ (r : List Row). rows e i around ++ r)
      (rows-of-elements es s j rest (last_names e) around starts depths (others-good e es g) (stands-behind s (render e) (render_all es ++ rest) i from_first)))

-- of a list of 256 places as many are taken as were placed, so these
take-placed : (xs : List ℕ) (n : ℕ) → length xs ≡ n → take n (placed xs) ≡ xs ++ []
take-placed xs n e = take_at xs _ n e ∙ sym (append-nil xs)

-- on the bytes of a good tree the rows are the tree's
pub rows-of-tree : (e : Element) → Good e → rows_of (render e) (count_of e) (placed (starts_from e 0)) (placed (depths_from e 1)) ≡ rows e 0 []
unfolding rows_of rows_from
rows-of-tree e good =
    rw (take-placed (starts_from e 0) (count_of e) (count-starts e 0), take-placed (depths_from e 1) (count_of e) (count-depths e 1))
    (rows-of-element e (render e) 0 [] [] [] [] [] good.parts (sym (append-nil (render e))) ∙ append-nil (rows e 0 []))
