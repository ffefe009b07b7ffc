-- Each number, read off what the reader hands back; and the place of a refusal is small.
-- Assumes nothing.
use mathlib.Core.Path.{◌≡◌, refl, sym}
use mathlib.Core.Bool.{Bool, true, false, cond}
use mathlib.Core.List.{List}
use native.Mathlib.Omega.{arith}
use borrow.Author.Tests.{lt-ltb, le-ltb}
use Prim.Native.Nat.{ℕ, zero, suc, ◌+◌, ◌-◌, ◌*◌, ◌≤◌, ◌<◌}
use lib.Dec.{ltb}
use lib.ListN.{get_or, replicate}
use Rattle.std.specs.Prelude.{Ok, Err}
use Rattle.sheet.specs.Grammar.{element_most, sheet_most}
use Rattle.sheet.specs.Right.{Reading, accepted, refused, Right, whole, broken, long}
use Rattle.sheet.specs.Sheet.{Answers, sheet_of}
use Rattle.sheet.specs.declared.Sheet.{Sheet}
use Rattle.sheet.specs.declared.parts.Refused.{Refused}
use Rattle.sheet.proofs.Descent.{not-read}
use Rattle.reader.specs.Number.{number_of, number_at, refused_from}

-- of an accepted sheet
module _ (r : Sheet) (which : ℕ) where
  pub at-start : (a : Reading) → Ok r ≡ sheet_of a → which < element_most → get_or r.starts which 0 ≡ number_at a which
  unfolding sheet_of
  at-start (refused i) e h = absurd (not-read (sym e))
  at-start (accepted n starts depths) e h =
      let same : r ≡ record { count = n; starts = starts; depths = depths } = cc in
      rw (lt-ltb which element_most h, same)

  pub at-depth : (a : Reading) → Ok r ≡ sheet_of a → element_most ≤ which → which < 2 * element_most → get_or r.depths (which - element_most) 0 ≡ number_at a which
  unfolding sheet_of
  at-depth (refused i) e g h = absurd (not-read (sym e))
  at-depth (accepted n starts depths) e g h =
      let same : r ≡ record { count = n; starts = starts; depths = depths } = cc in
      rw (le-ltb which element_most g, lt-ltb which (2 * element_most) h, same)

  pub at_count : (a : Reading) → Ok r ≡ sheet_of a → element_most ≤ which → 2 * element_most ≤ which → r.count ≡ number_at a which
  unfolding sheet_of number_of
  at_count (refused i) e g h = absurd (not-read (sym e))
  at_count (accepted n starts depths) e g h =
      let same : r ≡ record { count = n; starts = starts; depths = depths } = cc in
      rw (le-ltb which element_most g, le-ltb which (2 * element_most) h, same)

-- an empty place is 0
empty-place : (n i : ℕ) → get_or {A = ℕ} (replicate n 0) i 0 ≡ 0
empty-place zero i = refl
empty-place (suc n) zero = refl
empty-place (suc n) (suc i) = empty-place n i

-- of a refused one
module _ (r : Refused) (which : ℕ) where
  pub at-nothing : (a : Reading) → Err r ≡ sheet_of a → which < 2 * element_most → 0 ≡ number_at a which
  unfolding sheet_of
  at-nothing (accepted n starts depths) e h = absurd (not-read e)
  at-nothing (refused i) e h =
      rw (lt-ltb which (2 * element_most) h, empty-place element_most which, empty-place element_most (which - element_most))
      (sym (either (ltb which element_most)))
    where
      either : (t : Bool) → cond {A = ℕ} t 0 0 ≡ 0
      either true = refl
      either false = refl

  pub at-refusal : (a : Reading) → Err r ≡ sheet_of a → 2 * element_most ≤ which → refused_from + r.place ≡ number_at a which
  unfolding sheet_of number_of
  at-refusal (accepted n starts depths) e h = absurd (not-read e)
  at-refusal (refused i) e h =
      let same : r ≡ record { place = i } = cc in
      rw (le-ltb which element_most (omega arith), le-ltb which (2 * element_most) h, same)

  -- a place is at most the length of the longest sheet
  within : (s : List ℕ) (a : Reading) → Right s a → Err r ≡ sheet_of a → r.place ≤ sheet_most
  unfolding sheet_of
  within s _ (whole w short) e = absurd (not-read e)
  within s _ (broken k short unformed inside viable longest) e = let same : r ≡ record { place = k } = cc in rw same (omega arith)
  within s _ (long over) e = let same : r ≡ record { place = sheet_most } = cc in rw same (omega arith)

  pub place-within : (s : List ℕ) → Answers s (Err r) → r.place ≤ sheet_most
  place-within s a = within s a.reading a.right a.image
