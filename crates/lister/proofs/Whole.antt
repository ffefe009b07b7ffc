-- What is written of a sheet is the listing of its reading.
-- Assumes nothing.
use mathlib.Core.Path.{◌≡◌, sym}
use mathlib.Core.List.{List, ◌++◌}
use Prim.Native.Nat.{ℕ, ◌≤◌}
use native.Mathlib.Omega.{arith}
use lib.ListN.{length, take, drop, length-append, length-take}
use Rattle.shape.specs.Text.{bytes}
use Rattle.sheet.specs.Answer.{Reading, accepted, refused, reading_of}
use Rattle.sheet.specs.Sheet.{sheet_of}
use Rattle.std.specs.Prelude.{Ok, Err}
use Rattle.sheet.specs.declared.Sheet.{Sheet}
use Rattle.sheet.specs.declared.parts.Refused.{Refused}
use Rattle.sheet.proofs.Descent.{not-read}
use Rattle.outline.specs.Rows.{rows_of}
use Rattle.lister.specs.Listing.{lines_of, fields_of, decimal_text, text_of, listing_of, listed_count, listed_after}
use Rattle.lister.specs.Writing.{Wrote}
use Rattle.lister.proofs.Written.{wrote_as, wrote-all}

module _ (s : List ℕ) where
  refused-text : (r : Refused) (g : Reading) → Err r ≡ sheet_of g → bytes "refused 7 at " ++ (decimal_text r.place ++ bytes "\n") ≡ text_of s g
  unfolding sheet_of text_of
  refused-text r (refused k) e = let same : r ≡ record { place = k } = cc in rw same
  refused-text r (accepted n starts depths) e = absurd (not-read e)

  accepted-text : (r : Sheet) (g : Reading) → Ok r ≡ sheet_of g
      → lines_of (rows_of s r.count r.starts r.depths) ++ (decimal_text (fields_of (rows_of s r.count r.starts r.depths)) ++ bytes " fields\n") ≡ text_of s g
  unfolding sheet_of text_of
  accepted-text r (refused k) e = absurd (not-read (sym e))
  accepted-text r (accepted n starts depths) e =
      let same : r ≡ record { count = n; starts = starts; depths = depths } = cc in rw same

  module _ (out left : List ℕ) (to : ℕ) where
    listed : Wrote out 0 (listing_of s) left to → (to ≡ listed_count s out) × (left ≡ listed_after s out)
    unfolding listed_count listed_after
    listed a = wrote-all a

    pub listed-refused : (r : Refused) → Err r ≡ sheet_of (reading_of s) → Wrote out 0 (bytes "refused 7 at " ++ (decimal_text r.place ++ bytes "\n")) left to
        → (to ≡ listed_count s out) × (left ≡ listed_after s out)
    unfolding listing_of
    listed-refused r e a = listed (wrote_as a (refused-text r (reading_of s) e))

    pub listed-accepted : (r : Sheet) → Ok r ≡ sheet_of (reading_of s)
        → Wrote out 0 (lines_of (rows_of s r.count r.starts r.depths) ++ (decimal_text (fields_of (rows_of s r.count r.starts r.depths)) ++ bytes " fields\n")) left to
        → (to ≡ listed_count s out) × (left ≡ listed_after s out)
    unfolding listing_of
    listed-accepted r e a = listed (wrote_as a (accepted-text r (reading_of s) e))

-- as many bytes as are said to be written stand in the buffer
pub inside : (s out : List ℕ) → listed_count s out ≤ length (listed_after s out)
unfolding listed_count listed_after
inside s out = omega (arith, length-append (take (length out) (listing_of s)) (drop (length (listing_of s)) out))

-- and of a list that has so many, so many in front are so many
pub front : (l : List ℕ) (n : ℕ) → n ≤ length l → n ≡ length (take n l)
front l n h = omega (arith, length-take n l)
