-- What is shown for a number of the fields of what a sheet was received as is the text of that field in the sheet.
-- Assumes nothing.
use Rattle.std.specs.Prelude.{Option, Some, None}
use mathlib.Core.Path.{◌≡◌, refl, sym, ◌∙◌}
use mathlib.Core.Bool.{Bool, true, false, cond}
use mathlib.Core.List.{List, [], ◌∷◌}
use Prim.Native.Nat.{ℕ, zero, suc, ◌+◌, ◌≤◌, ◌<◌}
use native.Mathlib.Omega.{arith}
use lib.Dec.{eqb, leb}
use borrow.Author.Tests.{leb-false}
use lib.ListN.{length, take, length-map, get_or-eq_default}
use Rattle.sheet.specs.Answer.{Reading, accepted, refused, reading_of}
use Rattle.outline.specs.Rows.{Row, rows_from, rows_of, name_at, around_at}
use Rattle.outline.specs.Paths.{same_path, standing}
use Rattle.table.specs.declared.Kind.{Kind}
use Rattle.table.specs.declared.Kind.TheVariants.{Pacs008, Camt050, Pacs028, Pacs002}
use Rattle.message.specs.declared.Received.{Received}
use Rattle.message.specs.Fields.{Field, fields_of, fields_most, pacs008_fields, camt050_fields, pacs028_fields, pacs002_fields}
use Rattle.message.specs.Held.{Held, missing, once, held_in, held_of, kind_of}
use Rattle.message.specs.Good.{lowest_bad}
use Rattle.message.specs.Message.{text_in, numbered}
use Rattle.message.specs.Received.{nothing, judged, received_in, received_as, received_from, received_of, shown_in, field_shown, field_as, field_from, field_of}
use Rattle.message.proofs.Stands.{Stands, none-shown, missing-stands, doubled-stands, element-stands, all-stand, shown-is-text}

-- rows of which each one's text stands in the sheet
data EachStands (s : List ℕ) : List Row → Type 0 where
  none_left : EachStands s []
  one_more : {row : Row} {rows : List Row} → Stands s (once row.ccy row.inside row.text) → EachStands s rows → EachStands s (row ∷ rows)

rows-stand : (s : List ℕ) (path : List (List ℕ)) (starts depths : List ℕ) → EachStands s (rows_from s path starts depths)
unfolding rows_from
rows-stand s path [] depths = none_left
rows-stand s path (a ∷ starts) [] = none_left
rows-stand s path (a ∷ starts) (d ∷ depths) = one_more (element-stands s a) (rows-stand s (name_at s a ∷ around_at d path) starts depths)

-- so do those at a path, and what a field holds
some-stand : (s : List ℕ) (path : List (List ℕ)) {rows : List Row} → EachStands s rows → EachStands s (standing path rows)
unfolding standing
some-stand s path none_left = none_left
some-stand s path (one_more {row} {rows} h st) = go (some-stand s path st) (same_path row.path path)
  where
    go : EachStands s (standing path rows) → (t : Bool) → EachStands s (cond t (row ∷ standing path rows) (standing path rows))
    go rest true = one_more h rest
    go rest false = rest

held-stands : (s : List ℕ) {rows : List Row} → EachStands s rows → Stands s (held_in rows)
unfolding held_in
held-stands s none_left = missing-stands s
held-stands s (one_more h none_left) = h
held-stands s (one_more h (one_more h2 st)) = doubled-stands s

fields-stand : (s : List ℕ) (kind : Kind) (n : ℕ) (starts depths : List ℕ) (k : ℕ) → Stands s (numbered (held_of kind (rows_of s n starts depths)) k)
unfolding held_of rows_of
fields-stand s kind n starts depths k =
    all-stand s (λ (f : Field). held_in (standing f.path (rows_of s n starts depths)))
    (λ (f : Field). held-stands s (some-stand s f.path (rows-stand s [] (take n starts) (take n depths)))) (fields_of kind) k

-- where nothing is given nothing is shown
nothing-there : (k : ℕ) → text_in (numbered [] k) ≡ []
unfolding text_in
nothing-there zero = refl
nothing-there (suc k) = refl

nothing-shown : (s : List ℕ) (k : ℕ) → shown_in s nothing k ≡ []
nothing-shown s k = shown-is-text s [] (λ (j : ℕ). all-stand s (λ (f : Field). missing) (λ (f : Field). missing-stands s) [] j) k ∙ nothing-there k

-- a message shows its fields, a refusal nothing
module _ (s : List ℕ) (kind : Kind) (held : List Held) (st : (k : ℕ) → Stands s (numbered held k)) (k : ℕ) where
  judged-shown : (bad : ℕ) → shown_in s (judged kind held bad).spots k ≡ cond (eqb bad 0) (text_in (numbered held k)) []
  judged-shown bad = go (eqb bad 0) refl
    where
      go : (t : Bool) → eqb bad 0 ≡ t → shown_in s (judged kind held bad).spots k ≡ cond t (text_in (numbered held k)) []
      go true e = rw e (shown-is-text s held st k)
      go false e = rw e (nothing-shown s k)

as-shown : (s : List ℕ) (body : Option Kind) (n : ℕ) (starts depths : List ℕ) (k : ℕ)
    → shown_in s (received_as body (rows_of s n starts depths)).spots k ≡ field_as body (rows_of s n starts depths) k
unfolding received_as received_in field_as
as-shown s None n starts depths k = nothing-shown s k
as-shown s (Some kind) n starts depths k =
    judged-shown s kind (held_of kind (rows_of s n starts depths)) (fields-stand s kind n starts depths) k
    (lowest_bad kind (held_of kind (rows_of s n starts depths)))

from-shown : (s : List ℕ) (reading : Reading) (k : ℕ) → shown_in s (received_from s reading).spots k ≡ field_from s reading k
unfolding received_from field_from
from-shown s (refused place) k = nothing-shown s k
from-shown s (accepted n starts depths) k = as-shown s (kind_of (rows_of s n starts depths)) n starts depths k

pub field-shown : (s : List ℕ) (k : ℕ) → shown_in s (received_of s).spots k ≡ field_of s k
unfolding received_of field_of
field-shown s k = from-shown s (reading_of s) k

-- no kind has a field with a number above the most
pub fields-few : (kind : Kind) → length (fields_of kind) ≤ fields_most
unfolding fields_of pacs008_fields camt050_fields pacs028_fields pacs002_fields
fields-few Pacs008 = omega arith
fields-few Camt050 = omega arith
fields-few Pacs028 = omega arith
fields-few Pacs002 = omega arith

past-last : (kind : Kind) (rows : List Row) (k : ℕ) → fields_most < k → text_in (numbered (held_of kind rows) k) ≡ []
unfolding text_in held_of
past-last kind rows k h =
    let e : length (held_of kind rows) ≡ length (fields_of kind) = length-map (fields_of kind) (λ (f : Field). held_in (standing f.path rows)) in
    let m : length (missing ∷ held_of kind rows) ≤ k = omega (arith, fields-few kind, e) in
    rw (get_or-eq_default (missing ∷ held_of kind rows) missing m)

both-none : (t : Bool) (l : List ℕ) → l ≡ [] → cond t l [] ≡ []
both-none true l e = e
both-none false l e = refl

as-past : (body : Option Kind) (rows : List Row) (k : ℕ) → fields_most < k → field_as body rows k ≡ []
unfolding field_as
as-past None rows k h = refl
as-past (Some kind) rows k h =
    both-none (eqb (lowest_bad kind (held_of kind rows)) 0) (text_in (numbered (held_of kind rows) k)) (past-last kind rows k h)

from_past : (s : List ℕ) (reading : Reading) (k : ℕ) → fields_most < k → field_from s reading k ≡ []
unfolding field_from
from_past s (refused place) k h = refl
from_past s (accepted n starts depths) k h = as-past (kind_of (rows_of s n starts depths)) (rows_of s n starts depths) k h

pub field_past : (s : List ℕ) (k : ℕ) → fields_most < k → field_of s k ≡ []
unfolding field_of
field_past s k h = from_past s (reading_of s) k h

-- what was received has a spot for each number and no more, so nothing is shown above the most
pub shown-field : (s : List ℕ) (received : Received) (k : ℕ) → length received.spots ≡ fields_most + 1 → shown_in s received.spots k ≡ field_shown s received k
unfolding field_shown
shown-field s received k long = go (leb k fields_most) refl
  where
    go : (t : Bool) → leb k fields_most ≡ t → shown_in s received.spots k ≡ cond t (shown_in s received.spots k) []
    go true e = refl
    go false e = sym (none-shown s received.spots k (omega (arith, long, leb-false k fields_most e)))
