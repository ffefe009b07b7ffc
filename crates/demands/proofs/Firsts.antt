-- A table of rows, each a number and whether it applies, whose numbers are all different and not 0: the number of the first row that applies
-- tells which row that is, as no other row has it, and it is 0 only where no row applies.
-- Assumes nothing.
use mathlib.Core.Path.{◌≡◌, refl, sym, subst, ◌∙◌}
use mathlib.Core.Bool.{Bool, true, false, not, ◌&&◌, cond, false≢true}
use mathlib.Core.List.{List, [], ◌∷◌, ◌++◌}
use Prim.Native.Nat.{ℕ}
use lib.Dec.{eqb}
use borrow.Author.Tests.{eqb-false, not-true}
use Rattle.shape.proofs.Tests.{and_left, and_right}
use Rattle.demands.specs.Refusals.{none, Exactly}

-- the number of the first row that applies, 0 if none does
abbrev pub first_number : List (ℕ × Bool) → ℕ
first_number [] = 0
first_number (row ∷ rows) = cond row.1 row.0 (first_number rows)

-- no row has this number
abbrev pub absent : ℕ → List (ℕ × Bool) → Bool
absent n [] = true
absent n (row ∷ rows) = not (eqb row.0 n) && absent n rows

-- the numbers are all different and not 0
abbrev pub distinct : List (ℕ × Bool) → Bool
distinct [] = true
distinct (row ∷ rows) = not (eqb row.0 0) && (absent row.0 rows && distinct rows)

-- a test that is denied does not hold of equal numbers
apart : (m n : ℕ) → not (eqb m n) ≡ true → m ≡ n → ⊥
apart m n e = eqb-false m n (not-true (eqb m n) e)

-- what stands in front of the other rows
module _ (row : ℕ × Bool) (rows : List (ℕ × Bool)) (d : distinct (row ∷ rows) ≡ true) where
  not-zero : row.0 ≡ 0 → ⊥
  not-zero = apart row.0 0 (and_left (not (eqb row.0 0)) (absent row.0 rows && distinct rows) d)

  not_behind : absent row.0 rows ≡ true
  not_behind = and_left (absent row.0 rows) (distinct rows) (and_right (not (eqb row.0 0)) (absent row.0 rows && distinct rows) d)

  rest-distinct : distinct rows ≡ true
  rest-distinct = and_right (absent row.0 rows) (distinct rows) (and_right (not (eqb row.0 0)) (absent row.0 rows && distinct rows) d)

-- a number that no row has, and that is not 0, is not the first
never_first : (n : ℕ) (rows : List (ℕ × Bool)) → absent n rows ≡ true → (n ≡ 0 → ⊥) → first_number rows ≡ n → ⊥
never_first n [] away some e = some (sym e)
never_first n ((m, true) ∷ rows) away some e = apart m n (and_left (not (eqb m n)) (absent n rows) away) e
never_first n ((m, false) ∷ rows) away some e = never_first n rows (and_right (not (eqb m n)) (absent n rows) away) some e

-- a number that stands behind is not absent
not-absent : (m n : ℕ) (t : Bool) (before behind : List (ℕ × Bool)) → absent m (before ++ ((n, t) ∷ behind)) ≡ true → m ≡ n → ⊥
not-absent m n t [] behind away e = apart n m (and_left (not (eqb n m)) (absent m behind) away) (sym e)
not-absent m n t ((k, u) ∷ before) behind away e =
    not-absent m n t before behind (and_right (not (eqb k m)) (absent m (before ++ ((n, t) ∷ behind))) away) e

-- the first number is that of a row: the row applies and none before it does
row_first : (before : List (ℕ × Bool)) (n : ℕ) (t : Bool) (behind : List (ℕ × Bool)) → distinct (before ++ ((n, t) ∷ behind)) ≡ true
    → first_number (before ++ ((n, t) ∷ behind)) ≡ n → (t ≡ true) × (none before ≡ true)
row_first [] n true behind d e = (refl, refl)
row_first [] n false behind d e = absurd (never_first n behind (not_behind (n, false) behind d) (not-zero (n, false) behind d) e)
row_first ((m, true) ∷ before) n t behind d e =
    absurd (not-absent m n t before behind (not_behind (m, true) (before ++ ((n, t) ∷ behind)) d) e)
row_first ((m, false) ∷ before) n t behind d e =
    row_first before n t behind (rest-distinct (m, false) (before ++ ((n, t) ∷ behind)) d) e

-- and the other way
first-row : (before : List (ℕ × Bool)) (n : ℕ) (t : Bool) (behind : List (ℕ × Bool)) → t ≡ true → none before ≡ true
    → first_number (before ++ ((n, t) ∷ behind)) ≡ n
first-row [] n true behind applies e = refl
first-row [] n false behind applies e = absurd (false≢true applies)
first-row ((m, true) ∷ before) n t behind applies e = absurd (false≢true e)
first-row ((m, false) ∷ before) n t behind applies e = first-row before n t behind applies e

none_first : (rows : List (ℕ × Bool)) → distinct rows ≡ true → first_number rows ≡ 0 → none rows ≡ true
none_first [] d e = refl
none_first ((n, true) ∷ rows) d e = absurd (not-zero (n, true) rows d e)
none_first ((n, false) ∷ rows) d e = none_first rows (rest-distinct (n, false) rows d) e

first-none : (rows : List (ℕ × Bool)) → none rows ≡ true → first_number rows ≡ 0
first-none [] e = refl
first-none ((n, true) ∷ rows) e = absurd (false≢true e)
first-none ((n, false) ∷ rows) e = first-none rows e

-- both, of a number that a call answers with by such a table
module _ (number : ℕ) (rows : List (ℕ × Bool)) (d : distinct rows ≡ true) (same : number ≡ first_number rows) where
  pub given-exactly : (before : List (ℕ × Bool)) (n : ℕ) (t : Bool) (behind : List (ℕ × Bool)) → rows ≡ before ++ ((n, t) ∷ behind)
      → Exactly (number ≡ n) ((t ≡ true) × (none before ≡ true))
  given-exactly before n t behind split = (
    λ e. row_first before n t behind (subst (λ rs. distinct rs ≡ true) split d) (subst (λ rs. first_number rs ≡ n) split (sym same ∙ e)),
    λ h. same ∙ subst (λ rs. first_number rs ≡ n) (sym split) (first-row before n t behind h.0 h.1),
  )

  pub zero-exactly : Exactly (number ≡ 0) (none rows ≡ true)
  zero-exactly = (λ e. none_first rows d (sym same ∙ e), λ h. same ∙ first-none rows h)
