-- The listing of a sheet is what the grammar says is printed, and nothing else is.
-- Assumes nothing.
use mathlib.Core.Path.{◌≡◌, ap, sym, subst}
use mathlib.Core.List.{List, ◌++◌}
use Prim.Native.Nat.{ℕ}
use Rattle.shape.specs.Text.{bytes}
use Rattle.sheet.specs.Grammar.{sheet_most}
use Rattle.sheet.specs.Answer.{Reading, reading_of}
use Rattle.sheet.specs.Right.{Right, whole, broken, long}
use Rattle.sheet.proofs.Reading.{reading-right, one_place, formed-not-refused}
use Rattle.outline.specs.Rows.{Row}
use Rattle.outline.proofs.OfSheet.{same_rows, rows-of-sheet}
use Rattle.lister.specs.Listing.{lines_of, fields_of, decimal_text, text_of, listing_of}
use Rattle.lister.specs.Printed.{Printed, lines, refusal}

-- what is printed of rows, and of a place
abbrev listed : List Row → List ℕ
listed rs = lines_of rs ++ (decimal_text (fields_of rs) ++ bytes " fields\n")

abbrev refused_at : ℕ → List ℕ
refused_at place = bytes "refused 7 at " ++ (decimal_text place ++ bytes "\n")

-- what is printed of a sheet that is rightly read so
read-printed : (s : List ℕ) (r : Reading) → Right s r → Printed s (text_of s r)
unfolding text_of
read-printed s r (whole w l) = subst (λ (rs : List Row). Printed s (listed rs)) (sym (rows-of-sheet s w)) (lines w l)
read-printed s r (broken k l not-formed inside front further) = refusal k (broken k l not-formed inside front further)
read-printed s r (long l) = refusal sheet_most (long l)

-- the listing is what is printed
pub listing-printed : (s : List ℕ) → Printed s (listing_of s)
unfolding listing_of
listing-printed s = read-printed s (reading_of s) (reading-right s)

-- and nothing else is
pub printed-only : (s x y : List ℕ) → Printed s x → Printed s y → x ≡ y
printed-only s x y (lines w l) (lines v m) = ap listed (same_rows s w v)
printed-only s x y (lines w l) (refusal place r) = absurd (formed-not-refused s w l place r)
printed-only s x y (refusal place r) (lines w l) = absurd (formed-not-refused s w l place r)
printed-only s x y (refusal place r) (refusal other t) = ap refused_at (one_place s place other r t)
