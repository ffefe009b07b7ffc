-- The rows that are left, one after the other, with the path kept as a stack of starts.
-- Assumes nothing.
use Rattle.std.specs.Prelude.{Option, Some, None}
use mathlib.Core.Path.{◌≡◌, refl, ap}
use mathlib.Core.Bool.{Bool, true, false, cond}
use mathlib.Core.List.{List, [], ◌∷◌, ◌++◌}
use Prim.Native.Nat.{ℕ, zero, suc, ◌+◌, ◌-◌, ◌≤◌, ◌<◌}
use native.Mathlib.Omega.{arith}
use native.Mathlib.Numerals.{add-one}
use lib.Dec.{ltb}
use lib.ListN.{length, take, drop, get_or, set, length-take}
use lib.Seq.{get_or-set_same, get_or-set_other, get_or-take}
use borrow.Author.Tests.{ltb-true, ltb-false}
use Rattle.outline.proofs.Walk.{list-goes, list-ends}
use Rattle.outline.specs.Rows.{Row, name_at, ccy_at, inside_at, text_at, around_at, rows_from, rows_of}
use Rattle.lister.specs.Listing.{line_with, line_of, lines_of, holds_text, fields_of}
use Rattle.lister.specs.Writing.{names_of}
use Rattle.lister.proofs.Written.{Still, still-all}

-- the names that a stack gives
module _ (s stack : List ℕ) where
  names-count : (level : ℕ) → length (names_of s stack level) ≡ level
  names-count zero = refl
  names-count (suc level) = ap suc (names-count level)

  names-below : (x j level : ℕ) → level ≡ x + j → drop x (names_of s stack level) ≡ names_of s stack j
  names-below zero j level e = let f : level ≡ j = omega arith in rw f
  names-below (suc x) j level e =
      let f : level ≡ suc (x + j) = omega arith in
      rw f (names-below x j (x + j) refl)

  names-around : (d level : ℕ) (t : Bool) → ltb (d - 1) level ≡ t → around_at d (names_of s stack level) ≡ names_of s stack (cond t (d - 1) level)
  names-around d level true e =
      let h = ltb-true (d - 1) level e in
      rw (names-count level) (names-below (level - (d - 1)) (d - 1) level (omega arith))
  names-around d level false e =
      let h = ltb-false (d - 1) level e in
      let f : level - (d - 1) ≡ 0 = omega arith in
      rw (names-count level, f)

  names-kept : (i a j : ℕ) → j ≤ i → names_of s (set stack i a) j ≡ names_of s stack j
  names-kept i a zero h = refl
  names-kept i a (suc j) h =
      rw (get_or-set_other stack i j a 0 (λ e. omega arith), names-kept i a j (omega arith))

  names-pushed : (i a : ℕ) → i < length stack → names_of s (set stack i a) (i + 1) ≡ name_at s a ∷ names_of s stack i
  names-pushed i a h = rw (add-one i, get_or-set_same stack i a 0 h, names-kept i a i (omega arith))

  -- the path that stands in front of a stack is the stack's
  names-front : (n j : ℕ) → j ≤ n → names_of s (take n stack) j ≡ names_of s stack j
  names-front n zero h = refl
  names-front n (suc j) h = rw (get_or-take n stack j 0 (omega arith), names-front n j (omega arith))

  pub line-front : (n a : ℕ) → n ≤ length stack
      → line_with (names_of s (take n stack) (length (take n stack))) (ccy_at s a) (text_at s a) ≡ line_with (names_of s stack n) (ccy_at s a) (text_at s a)
  line-front n a h =
      let e : length (take n stack) ≡ n = omega (arith, length-take n stack) in
      rw (e, names-front n n (omega arith))

-- the rows from the k-th on, behind an element whose path the stack gives
pub rows_left : List ℕ → ℕ → List ℕ → List ℕ → List ℕ → ℕ → ℕ → List Row
rows_left s count starts depths stack level k = rows_from s (names_of s stack level) (drop k (take count starts)) (drop k (take count depths))

module _ (s : List ℕ) (count : ℕ) (starts depths stack : List ℕ) where
  pub rows-begin : rows_of s count starts depths ≡ rows_left s count starts depths stack 0 0
  unfolding rows_of rows_left
  rows-begin = refl

  pub lines-begin : (out : List ℕ) → Still out 0 (lines_of (rows_of s count starts depths)) out 0 (lines_of (rows_left s count starts depths stack 0 0))
  lines-begin out = rw rows-begin (still-all out 0 (lines_of (rows_left s count starts depths stack 0 0)))

  pub fields-begin : fields_of (rows_of s count starts depths) ≡ 0 + fields_of (rows_left s count starts depths stack 0 0)
  fields-begin = rw rows-begin (omega arith)

  module _ (level k : ℕ) where
    rows_end : count ≤ k → rows_left s count starts depths stack level k ≡ []
    unfolding rows_left rows_from
    rows_end h = rw (list-ends starts count k h)

    pub lines_end : count ≤ k → lines_of (rows_left s count starts depths stack level k) ≡ []
    unfolding lines_of
    lines_end h = rw (rows_end h)

    pub fields-end : count ≤ k → fields_of (rows_left s count starts depths stack level k) ≡ 0
    unfolding fields_of
    fields-end h = rw (rows_end h)

    -- the k-th row, whose path is the j names around it and its own
    module _ (j : ℕ) (room : j < length stack) (around : j ≡ cond (ltb (get_or depths k 0 - 1) level) (get_or depths k 0 - 1) level) (h : k < count) (hs : k < length starts) (hd : k < length depths) where
      row_goes : rows_left s count starts depths stack level k
          ≡ record { path = names_of s (set stack j (get_or starts k 0)) (j + 1); ccy = ccy_at s (get_or starts k 0); inside = inside_at s (get_or starts k 0); text = text_at s (get_or starts k 0) }
          ∷ rows_left s count starts depths (set stack j (get_or starts k 0)) (j + 1) (k + 1)
      unfolding rows_left rows_from
      row_goes =
          rw (list-goes starts count k h hs, list-goes depths count k h hd, names-around s stack (get_or depths k 0) level (ltb (get_or depths k 0 - 1) level) refl, ← around, names-pushed s stack j (get_or starts k 0) room)

      lines-go : lines_of (rows_left s count starts depths stack level k)
          ≡ line_with (names_of s (set stack j (get_or starts k 0)) (j + 1)) (ccy_at s (get_or starts k 0)) (text_at s (get_or starts k 0))
          ++ lines_of (rows_left s count starts depths (set stack j (get_or starts k 0)) (j + 1) (k + 1))
      unfolding lines_of line_of
      lines-go = ap lines_of row_goes

      fields_go : fields_of (rows_left s count starts depths stack level k)
          ≡ holds_text (text_at s (get_or starts k 0)) + fields_of (rows_left s count starts depths (set stack j (get_or starts k 0)) (j + 1) (k + 1))
      unfolding fields_of
      fields_go = ap fields_of row_goes

      pub turn : (lines_of (rows_left s count starts depths stack level k)
          ≡ line_with (names_of s (set stack j (get_or starts k 0)) (j + 1)) (ccy_at s (get_or starts k 0)) (text_at s (get_or starts k 0))
          ++ lines_of (rows_left s count starts depths (set stack j (get_or starts k 0)) (j + 1) (k + 1)))
          × (fields_of (rows_left s count starts depths stack level k)
          ≡ holds_text (text_at s (get_or starts k 0)) + fields_of (rows_left s count starts depths (set stack j (get_or starts k 0)) (j + 1) (k + 1)))
      turn = (lines-go, fields_go)

pub holds-one : (text : Option (List ℕ)) → holds_text text ≤ 1
holds-one None = omega arith
holds-one (Some text) = omega arith
