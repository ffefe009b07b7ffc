-- Two texts that are the same split at the same place: each before the first byte that a test refuses.
-- Assumes nothing.
use mathlib.Core.Path.{◌≡◌, refl, ap, sym, ◌∙◌}
use mathlib.Core.Bool.{Bool, true, false, false≢true}
use mathlib.Core.List.{List, [], ◌∷◌, ◌++◌}
use Prim.Native.Nat.{ℕ}
use Rattle.shape.specs.Bytes.{every}
use Rattle.shape.proofs.Tests.{and_left, and_right}

-- the parts before, the bytes, and the parts behind
pub record SameParts (v w : List ℕ) (c d : ℕ) (s t : List ℕ) : Type 0 where
  pub before : v ≡ w
  pub byte : c ≡ d
  pub after : s ≡ t

-- a byte that a test refuses is none of those that it accepts
pub refused-differs : (f : ℕ → Bool) (c b : ℕ) → f c ≡ false → f b ≡ true → c ≡ b → ⊥
refused-differs f c b p q e = false≢true (sym p ∙ ap f e ∙ q)

-- before the first byte that the test refuses both have the same, and behind it too
pub splits-same : (f : ℕ → Bool) (v w : List ℕ) (c d : ℕ) (s t : List ℕ) → every f v ≡ true → every f w ≡ true → f c ≡ false → f d ≡ false
    → v ++ (c ∷ s) ≡ w ++ (d ∷ t) → SameParts v w c d s t
splits-same f [] [] c d s t g h p q e = record { before = refl; byte = cc; after = cc }
splits-same f [] (y ∷ w) c d s t g h p q e = absurd (refused-differs f c y p (and_left (f y) (every f w) h) (cc))
splits-same f (x ∷ v) [] c d s t g h p q e = absurd (refused-differs f d x q (and_left (f x) (every f v) g) (cc))
splits-same f (x ∷ v) (y ∷ w) c d s t g h p q e =
    let z : x ≡ y = cc in
    let r : SameParts v w c d s t = splits-same f v w c d s t (and_right (f x) (every f v) g) (and_right (f y) (every f w) h) p q (cc) in
    record { before = cc; byte = r.byte; after = r.after }
