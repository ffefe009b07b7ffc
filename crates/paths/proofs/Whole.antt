-- What is seen of a sheet is what its reading gives.
-- Assumes nothing.
use mathlib.Core.Path.{◌≡◌, sym}
use mathlib.Core.List.{List}
use Prim.Native.Nat.{ℕ}
use Rattle.std.specs.Prelude.{Ok, Err}
use Rattle.sheet.specs.Answer.{Reading, accepted, refused, reading_of}
use Rattle.sheet.specs.Sheet.{sheet_of}
use Rattle.sheet.specs.declared.Sheet.{Sheet}
use Rattle.sheet.specs.declared.parts.Refused.{Refused}
use Rattle.sheet.proofs.Descent.{not-read}
use Rattle.paths.specs.Survey.{seen_in, standing_of, survey_of}

module _ (s : List ℕ) where
  refused-so : (e : Refused) (g : Reading) → Err e ≡ sheet_of g → Err e ≡ standing_of s g
  unfolding sheet_of standing_of
  refused-so e (refused k) f = cc
  refused-so e (accepted n starts depths) f = absurd (not-read f)

  accepted-so : (r : Sheet) (g : Reading) → Ok r ≡ sheet_of g → Ok (seen_in s r.count r.starts r.depths) ≡ standing_of s g
  unfolding sheet_of standing_of
  accepted-so r (refused k) f = absurd (not-read (sym f))
  accepted-so r (accepted n starts depths) f =
      let same : r ≡ record { count = n; starts = starts; depths = depths } = cc in rw same

  pub surveyed-refused : (e : Refused) → Err e ≡ sheet_of (reading_of s) → Err e ≡ survey_of s
  unfolding survey_of
  surveyed-refused e f = refused-so e (reading_of s) f

  pub surveyed-accepted : (r : Sheet) → Ok r ≡ sheet_of (reading_of s) → Ok (seen_in s r.count r.starts r.depths) ≡ survey_of s
  unfolding survey_of
  surveyed-accepted r f = accepted-so r (reading_of s) f
