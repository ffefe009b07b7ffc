-- The rules of the tables of fields, each one test that computes over a whole table: in a kind no path stands twice, and none is the front of
-- another, so that a field never stands inside a field; and a kind's numbers are those of the fields that say so.
-- Assumes nothing.
use mathlib.Core.Path.{◌≡◌, refl}
use mathlib.Core.Bool.{Bool, true, false, not, ◌&&◌, ◌||◌, cond}
use mathlib.Core.List.{List, [], ◌∷◌}
use Prim.Native.Nat.{ℕ, zero, suc, ◌-◌, ◌≤◌, ◌<◌}
use Prim.Native.String.{String}
use native.Mathlib.Omega.{arith}
use native.Mathlib.Nat.{le_of_suc-le-suc}
use lib.Dec.{eqb, leb}
use lib.ListN.{length, get_or, take, drop}
use borrow.Author.Tests.{leb-true}
use Rattle.shape.specs.Bytes.{every}
use Rattle.shape.proofs.Tests.{and_left, and_right, at_place}
use Rattle.outline.specs.Paths.{same_name, same_path}
use Rattle.table.specs.declared.Kind.{Kind}
use Rattle.table.specs.declared.Kind.TheVariants.{Pacs008, Camt050, Pacs028, Pacs002}
use Rattle.message.specs.declared.kinds.Numbers.{Numbers}
use Rattle.message.specs.Fields.{
  Field,
  no_field,
  path_of,
  pacs008_fields,
  camt050_fields,
  pacs028_fields,
  pacs002_fields,
  fields_of,
  body_of,
  fields_most,
  numbers_of,
}

-- a path is another one or the front of it. Names stand innermost first, so its names are the last ones of the other
abbrev pub is_front : List (List ℕ) → List (List ℕ) → Bool
is_front p q = same_path (drop (length q - length p) q) p

-- neither path is the other or a front of it
abbrev pub apart : Field → Field → Bool
apart f g = not (is_front f.path g.path) && not (is_front g.path f.path)

all_apart : List Field → Bool
all_apart [] = true
all_apart (f ∷ fields) = every (apart f) fields && all_apart fields

tested : (kind : Kind) → all_apart (fields_of kind) ≡ true
unfolding all_apart fields_of pacs008_fields camt050_fields pacs028_fields pacs002_fields same_path same_name
tested Pacs008 = refl
tested Camt050 = refl
tested Pacs028 = refl
tested Pacs002 = refl

pairs : (fields : List Field) → all_apart fields ≡ true → (i j : ℕ) → i < j → j < length fields
    → apart (get_or fields i no_field) (get_or fields j no_field) ≡ true
unfolding all_apart
pairs [] e i j l h = absurd (omega arith)
pairs (f ∷ fields) e i zero l h = absurd (omega arith)
pairs (f ∷ fields) e zero (suc j) l h = at_place (apart f) fields no_field (and_left (every (apart f) fields) (all_apart fields) e) j (le_of_suc-le-suc h)
pairs (f ∷ fields) e (suc i) (suc j) l h =
    pairs fields (and_right (every (apart f) fields) (all_apart fields) e) i j (le_of_suc-le-suc l) (le_of_suc-le-suc h)

-- of two fields of a kind neither path is the other or a front of it
pub fields-apart : (kind : Kind) (i j : ℕ) → i < j → j < length (fields_of kind)
    → apart (get_or (fields_of kind) i no_field) (get_or (fields_of kind) j no_field) ≡ true
fields-apart kind = pairs (fields_of kind) (tested kind)

-- every field stands below its kind's own path
below : (kind : Kind) → every (λ (f : Field). is_front (body_of kind) f.path) (fields_of kind) ≡ true
unfolding fields_of body_of pacs008_fields camt050_fields pacs028_fields pacs002_fields same_path same_name
below Pacs008 = refl
below Camt050 = refl
below Pacs028 = refl
below Pacs002 = refl

pub fields-below : (kind : Kind) (i : ℕ) → i < length (fields_of kind) → is_front (body_of kind) (get_or (fields_of kind) i no_field).path ≡ true
fields-below kind i h = at_place (λ (f : Field). is_front (body_of kind) f.path) (fields_of kind) no_field (below kind) i h

-- each number of a kind, and in which names the path of its field ends: document 01, "Fields", and request 9 of document 02, in whatever kind
abbrev pub endings : Numbers → List (ℕ × List String)
endings of =
    (of.id, "/MsgId" ∷ [])
    ∷ (of.created, "/CreDtTm" ∷ [])
    ∷ (of.instructing, "/InstgAgt/FinInstnId/ClrSysMmbId/MmbId" ∷ [])
    ∷ (of.instructed, "/InstdAgt/FinInstnId/ClrSysMmbId/MmbId" ∷ [])
    ∷ (of.reference, "/EndToEndId" ∷ "/OrgnlEndToEndId" ∷ [])
    ∷ (of.uetr, "/UETR" ∷ "/OrgnlUETR" ∷ [])
    ∷ (of.amount, "/IntrBkSttlmAmt" ∷ "/TrfdAmt" ∷ [])
    ∷ (of.previous, "/PrvsInstgAgt1/FinInstnId/ClrSysMmbId/MmbId" ∷ [])
    ∷ (of.debtor.system, "/DbtrAgt/FinInstnId/ClrSysMmbId/ClrSysId/Prtry" ∷ [])
    ∷ (of.debtor.code, "/DbtrAgt/FinInstnId/ClrSysMmbId/MmbId" ∷ [])
    ∷ (of.creditor.system, "/CdtrAgt/FinInstnId/ClrSysMmbId/ClrSysId/Prtry" ∷ [])
    ∷ (of.creditor.code, "/CdtrAgt/FinInstnId/ClrSysMmbId/MmbId" ∷ [])
    ∷ (of.iban, "/CdtrAcct/Id/IBAN" ∷ [])
    ∷ (of.debit, "/DbtrAcct/Id/Othr/Id" ∷ [])
    ∷ (of.credit, "/CdtrAcct/Id/Othr/Id" ∷ [])
    ∷ (of.original, "/OrgnlMsgId" ∷ [])
    ∷ (of.originated, "/OrgnlCreDtTm" ∷ [])
    ∷ (of.group, "/GrpSts" ∷ [])
    ∷ (of.transaction, "/TxSts" ∷ [])
    ∷ []

-- a path ends in one of these. Names stand innermost first, so its first names are those of the end
ends_in : List String → List (List ℕ) → Bool
ends_in [] path = false
ends_in (text ∷ texts) path = same_path (take (length (path_of text)) path) (path_of text) || ends_in texts path

-- the number of the first field that does, where the fields are numbered from k on; 0 where none does
number_ending : List String → ℕ → List Field → ℕ
number_ending texts k [] = 0
number_ending texts k (f ∷ fields) = cond (ends_in texts f.path) k (number_ending texts (suc k) fields)

-- a number is that of the first field whose path ends so, and not above the most
pub is_number : Kind → ℕ × List String → Bool
is_number kind part = eqb part.0 (number_ending part.1 1 (fields_of kind)) && leb part.0 fields_most

-- so is each number of a kind; it is 0 where no field ends so
pub numbers-right : (kind : Kind) → every (is_number kind) (endings (numbers_of kind)) ≡ true
unfolding is_number number_ending ends_in numbers_of fields_of pacs008_fields camt050_fields pacs028_fields pacs002_fields same_path same_name
numbers-right Pacs008 = refl
numbers-right Camt050 = refl
numbers-right Pacs028 = refl
numbers-right Pacs002 = refl

-- so the number at a place of that list is not above the most
pub number-low : (kind : Kind) (i : ℕ) → i < length (endings (numbers_of kind)) → (get_or (endings (numbers_of kind)) i (0, [])).0 ≤ fields_most
unfolding is_number
number-low kind i h =
    let part = get_or (endings (numbers_of kind)) i (0, []) in
    let tested : is_number kind part ≡ true = at_place (is_number kind) (endings (numbers_of kind)) (0, []) (numbers-right kind) i h in
    leb-true part.0 fields_most (and_right (eqb part.0 (number_ending part.1 1 (fields_of kind))) (leb part.0 fields_most) tested)
