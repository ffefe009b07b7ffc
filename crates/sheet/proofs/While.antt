-- How many bytes in front pass a test, one byte after the other.
-- Assumes nothing.
use mathlib.Core.Path.{◌≡◌, refl, ap, ◌∙◌}
use mathlib.Core.Bool.{Bool, true, false, cond}
use mathlib.Core.List.{List, [], ◌∷◌}
use Prim.Native.Nat.{ℕ, suc, ◌+◌, ◌-◌, ◌≤◌}
use native.Mathlib.Omega.{arith}
use native.Mathlib.Numerals.{add-one}
use native.Mathlib.Nat.{add_comm}
use lib.Dec.{ltb}
use borrow.Author.Tests.{ltb-true, ltb-false}
use lib.ListN.{length, get_or, take, drop, length-drop, drop_of_length-le}
use lib.Seq.{drop-cons}
use Rattle.std.proofs.lemmas.List.{take_all}
use Rattle.std.specs.List.{prefix_len}
use Rattle.sheet.specs.Reader.{while}

-- there are as many as are counted
pub while_counted : (f : ℕ → Bool) (s : List ℕ) → prefix_len f s ≡ length (while f s)
while_counted f [] = refl
while_counted f (b ∷ s) = go (while_counted f s) (f b)
  where
    go : prefix_len f s ≡ length (while f s) → (t : Bool) → cond t (1 + prefix_len f s) 0 ≡ length (cond t (b ∷ while f s) [])
    go e true = add_comm 1 (prefix_len f s) ∙ add-one (prefix_len f s) ∙ ap suc e
    go e false = refl

pub counted-from : (f : ℕ → Bool) (s : List ℕ) (from : ℕ) → prefix_len f (take (length s - from) (drop from s)) ≡ length (while f (drop from s))
counted-from f s from =
    ap (prefix_len f) (take_all (length s - from) (drop from s) (omega (arith, length-drop from s))) ∙ while_counted f (drop from s)

-- where the first byte does not pass, and after the end, there are none
pub while-none : (f : ℕ → Bool) (s : List ℕ) (i : ℕ) → f (get_or s i 0) ≡ false → i ≡ i + length (while f (drop i s))
while-none f s i e = go (ltb i (length s)) refl
  where
    go : (t : Bool) → ltb i (length s) ≡ t → i ≡ i + length (while f (drop i s))
    go true h = rw (drop-cons s i 0 (ltb-true i (length s) h), e) (omega arith)
    go false h = rw (drop_of_length-le s (ltb-false i (length s) h)) (omega arith)

-- the bytes that pass lie within the text
while-short : (f : ℕ → Bool) (s : List ℕ) → length (while f s) ≤ length s
while-short f [] = omega arith
while-short f (b ∷ s) = go (while-short f s) (f b)
  where
    go : length (while f s) ≤ length s → (t : Bool) → length (cond t (b ∷ while f s) []) ≤ suc (length s)
    go h true = omega arith
    go h false = omega arith

pub while-inside : (f : ℕ → Bool) (s : List ℕ) (from : ℕ) → from ≤ length s → from + length (while f (drop from s)) ≤ length s
while-inside f s from h = omega (arith, while-short f (drop from s), length-drop from s)

-- and they are as many of its bytes as they are
pub take_while : (f : ℕ → Bool) (s : List ℕ) → take (length (while f s)) s ≡ while f s
take_while f [] = refl
take_while f (b ∷ s) = go (take_while f s) (f b)
  where
    go : take (length (while f s)) s ≡ while f s → (t : Bool) → take (length (cond t (b ∷ while f s) [])) (b ∷ s) ≡ cond t (b ∷ while f s) []
    go e true = ap (λ (x : List ℕ). b ∷ x) e
    go e false = refl
