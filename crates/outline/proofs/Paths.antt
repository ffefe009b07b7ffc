-- Two names that pass the test are one name, two paths that pass it one path, and each passes with itself.
-- Assumes nothing.
use mathlib.Core.Path.{◌≡◌, refl}
use mathlib.Core.Bool.{true, false≢true}
use mathlib.Core.List.{List, [], ◌∷◌}
use Prim.Native.Nat.{ℕ}
use lib.Dec.{eqb}
use borrow.Author.Tests.{eqb-true, eq-eqb}
use Rattle.shape.proofs.Tests.{and_left, and_right}
use Rattle.outline.specs.Paths.{same_name, same_path}

pub same-name : (s t : List ℕ) → same_name s t ≡ true → s ≡ t
unfolding same_name
same-name [] [] e = refl
same-name [] (b ∷ t) e = absurd (false≢true e)
same-name (a ∷ s) [] e = absurd (false≢true e)
same-name (a ∷ s) (b ∷ t) e =
    cc (eqb-true a b (and_left (eqb a b) (same_name s t) e), same-name s t (and_right (eqb a b) (same_name s t) e))

pub name-same : (s : List ℕ) → same_name s s ≡ true
unfolding same_name
name-same [] = refl
name-same (a ∷ s) = rw (eq-eqb a a refl, name-same s)

pub same-path : (p q : List (List ℕ)) → same_path p q ≡ true → p ≡ q
unfolding same_path
same-path [] [] e = refl
same-path [] (n ∷ q) e = absurd (false≢true e)
same-path (m ∷ p) [] e = absurd (false≢true e)
same-path (m ∷ p) (n ∷ q) e =
    cc (same-name m n (and_left (same_name m n) (same_path p q) e), same-path p q (and_right (same_name m n) (same_path p q) e))

pub path-same : (p : List (List ℕ)) → same_path p p ≡ true
unfolding same_path
path-same [] = refl
path-same (m ∷ p) = rw (name-same m, path-same p)
