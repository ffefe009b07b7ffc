-- A sheet from some place on: what stands there, what stands behind it, and the bytes in front that pass a test.
-- Assumes nothing.
use mathlib.Core.Path.{◌≡◌, sym, ap, ◌∙◌}
use mathlib.Core.Bool.{Bool, true, false}
use mathlib.Core.List.{List, [], ◌∷◌, ◌++◌}
use Prim.Native.Nat.{ℕ, ◌+◌}
use native.Mathlib.Nat.{add-zero}
use lib.ListN.{length, get_or, drop}
use lib.Seq.{drop-drop, drop-append_seam, get_or-drop}
use Rattle.shape.specs.Bytes.{every}
use Rattle.shape.proofs.Tests.{and_left, and_right}
use Rattle.sheet.specs.Reader.{while}

-- where x stands with y behind it, y stands as many places on as x has
pub stands-behind : (s x y : List ℕ) (a : ℕ) → drop a s ≡ x ++ y → drop (a + length x) s ≡ y
stands-behind s x y a e = sym (drop-drop (length x) a s) ∙ ap (λ (t : List ℕ). drop (length x) t) e ∙ drop-append_seam x y

-- the byte at a place is the first of what stands there
pub byte-there : (s : List ℕ) (a : ℕ) → get_or s a 0 ≡ get_or (drop a s) 0 0
byte-there s a = sym (get_or-drop a s 0 0 ∙ rw add-zero)

-- bytes that pass are taken up to the first that does not
pub while-stops : (f : ℕ → Bool) (xs : List ℕ) (b : ℕ) (ys : List ℕ) → every f xs ≡ true → f b ≡ false → while f (xs ++ (b ∷ ys)) ≡ xs
while-stops f [] b ys g h = rw h
while-stops f (x ∷ xs) b ys g h =
    rw (and_left (f x) (every f xs) g, while-stops f xs b ys (and_right (f x) (every f xs) g) h)
