-- The message of a sheet has well-shaped fields: a sheet is a message only where no field of its kind is bad, and each part of the message is
-- made of the text of one such field.
-- Assumes nothing.
use Rattle.std.specs.Prelude.{ℕ, Option, Some, None, Ok, Err}
use mathlib.Core.Path.{◌≡◌, refl, ap, subst}
use mathlib.Core.Bool.{Bool, true, false, not, ◌&&◌, ◌||◌, cond, false≢true}
use mathlib.Core.List.{List, [], ◌∷◌}
use Prim.Native.Nat.{ℕ, zero, suc, ◌+◌, ◌-◌, ◌*◌, ◌≤◌, ◌<◌}
use native.Mathlib.Omega.{arith}
use native.Mathlib.Nat.{le_of_suc-le-suc}
use lib.Dec.{leb, ltb, eqb, lit<}
use lib.ListN.{length, get_or, length-take, length-drop}
use borrow.Author.Tests.{ltb-true}
use Rattle.shape.specs.Bytes.{every, is_digit}
use Rattle.shape.specs.Numbers.{digit_value, decimal_from, decimal}
use Rattle.shape.specs.Patterns.{fits, time_pattern}
use Rattle.shape.specs.Dates.{is_time, time_number, time_of}
use Rattle.shape.specs.Fields.{whole, point, hundredths, kopecks as kopecks_of, is_amount, amount_of, is_identifier}
use Rattle.shape.specs.Stored.{identifier_of, is_uetr, uetr_of}
use Rattle.shape.specs.declared.stored.Identifier.{Identifier}
use Rattle.shape.specs.declared.stored.Uetr.{Uetr}
use Rattle.shape.proofs.Tests.{and_left, and_right, in-range}
use Rattle.shape.proofs.Amounts.{amount-length}
use Rattle.sheet.specs.Answer.{Reading, accepted, refused, reading_of}
use Rattle.outline.specs.Rows.{Row, rows_of}
use Rattle.outline.specs.Paths.{standing}
use Rattle.table.specs.declared.Kind.{Kind}
use Rattle.table.specs.declared.Kind.TheVariants.{Pacs008, Camt050, Pacs028, Pacs002}
use Rattle.message.specs.declared.kinds.Shape.{Shape}
use Rattle.message.specs.declared.kinds.Shape.TheVariants.{Identifier as Named, Time as Timed, Uetr as Traced, Amount as Paid}
use Rattle.message.specs.declared.kinds.Ccy.{Ccy}
use Rattle.message.specs.declared.kinds.Numbers.{Numbers}
use Rattle.message.specs.declared.Reply.{Reply}
use Rattle.message.specs.declared.Message.{Message}
use Rattle.message.specs.Fields.{
  Field,
  no_field,
  fields_of,
  pacs008_fields,
  camt050_fields,
  pacs028_fields,
  pacs002_fields,
  pacs008_numbers,
  camt050_numbers,
  pacs028_numbers,
  pacs002_numbers,
  numbers_of,
}
use Rattle.message.specs.Held.{Held, missing, once, doubled, held_in, kind_of, held_of}
use Rattle.message.specs.Good.{is_given, has_shape, ccy_fits, text_fits, is_good, goes_with}
use Rattle.message.specs.Message.{Answer, text_in, numbered, name_of, message_from, message_of}
use Rattle.message.specs.Received.{received_as, received_from, received_of}
use Rattle.message.specs.Lowest.{fine, Bad, Told, unknown, bad, good}
use Rattle.message.proofs.Absent.{no-identifier, no-uetr, empty-identifier, empty-uetr, good-reply}
use Rattle.message.proofs.Lowest.{told}

-- an identifier, a UETR, a time, an amount in kopecks, as a good message has them
pub record IsIdentifier (x : Identifier) : Type 0 where
  pub text : List ℕ
  pub good : is_identifier text ≡ true
  pub stored : x ≡ identifier_of text

pub record IsUetr (x : Uetr) : Type 0 where
  pub text : List ℕ
  pub good : is_uetr text ≡ true
  pub stored : x ≡ uetr_of text

pub record IsTime (v : Option ℕ) : Type 0 where
  pub time : ℕ
  pub given : v ≡ Some time
  pub real : is_time time ≡ true

pub record IsAmount (v : Option ℕ) : Type 0 where
  pub kopecks : ℕ
  pub given : v ≡ Some kopecks
  pub least : 1 ≤ kopecks
  pub most : kopecks ≤ 9999999999999

-- what the kind has of a UETR, of a reference and of an amount
abbrev pub HasUetr : Kind → Uetr → Type 0
HasUetr Pacs008 x = IsUetr x
HasUetr Camt050 x = IsUetr x
HasUetr Pacs028 x = IsUetr x
HasUetr Pacs002 x = x ≡ no-uetr

abbrev pub Referenced : Kind → Identifier → Type 0
Referenced Pacs008 x = IsIdentifier x
Referenced Camt050 x = x ≡ no-identifier
Referenced Pacs028 x = IsIdentifier x
Referenced Pacs002 x = x ≡ no-identifier

abbrev pub Moves : Kind → Option ℕ → Type 0
Moves Pacs008 v = IsAmount v
Moves Camt050 v = IsAmount v
Moves Pacs028 v = Unit {0}
Moves Pacs002 v = Unit {0}

-- an answer says something of the transfer
abbrev pub Replies : Kind → Option Reply → Type 0
Replies Pacs008 r = Unit {0}
Replies Camt050 r = Unit {0}
Replies Pacs028 r = Unit {0}
Replies Pacs002 r = r ≡ None → ⊥

pub record Shaped (m : Message) : Type 0 where
  pub identifier : IsIdentifier m.id.stored
  pub created : IsTime m.created
  pub uetr : HasUetr m.kind m.uetr
  pub reference : Referenced m.kind m.reference
  pub amount : Moves m.kind m.amount
  pub reply : Replies m.kind m.reply

-- c followed by k zeros
abbrev tens : ℕ → ℕ → ℕ
tens c zero = c
tens c (suc k) = tens (10 * c) k

tens-grow : (c k : ℕ) → c ≤ tens c k
tens-grow c zero = omega arith
tens-grow c (suc k) = omega (arith, tens-grow (10 * c) k)

digit-most : (b : ℕ) → is_digit b ≡ true → digit_value b ≤ 9
unfolding is_digit
digit-most b e = omega (arith, (in-range 48 57 b e).1)

-- k digits behind a number below c write a number below c followed by k zeros
digits-below : (n c : ℕ) (s : List ℕ) (k : ℕ) → every is_digit s ≡ true → length s ≤ k → n < c → decimal_from n s < tens c k
digits-below n c [] k e h l = omega (arith, tens-grow c k)
digits-below n c (b ∷ s) zero e h l = absurd (omega arith)
digits-below n c (b ∷ s) (suc k) e h l =
    let d : digit_value b ≤ 9 = digit-most b (and_left (is_digit b) (every is_digit s) e) in
    digits-below (n * 10 + digit_value b) (10 * c) s k (and_right (is_digit b) (every is_digit s) e) (le_of_suc-le-suc h) (omega arith)

decimal-below : (s : List ℕ) (k : ℕ) → every is_digit s ≡ true → length s ≤ k → decimal s < tens 1 k
unfolding decimal
decimal-below s k e h = digits-below 0 1 s k e h (lit< tt)

-- of the seven tests of an amount: the digits before the point, those behind it, and that it is above zero
amount-tests : (a b c d e f g : Bool) → (a && b && c && d && e && f && g) ≡ true → (c ≡ true) × (f ≡ true) × (g ≡ true)
amount-tests a b c d e f g h =
    let six = and_left (a && b && c && d && e && f) g h in
    let three = and_left (a && b && c) d (and_left (a && b && c && d) e (and_left (a && b && c && d && e) f six)) in
    (and_right (a && b) c three, and_right (a && b && c && d && e) f six, and_right (a && b && c && d && e && f) g h)

-- at most 11 digits before the point and two behind it
kopecks-range : (s : List ℕ) → is_amount s ≡ true → (1 ≤ kopecks_of s) × (kopecks_of s ≤ 9999999999999)
unfolding is_amount kopecks_of
kopecks-range s e =
    let t = amount-tests (leb 4 (length s)) (leb (length s) 14)
    (every is_digit (whole s)) (eqb (length s) 4 || not (eqb (get_or s 0 0) 48))
    (eqb (point s) 46) (every is_digit (hundredths s)) (ltb 0 (kopecks_of s)) e in
    let l = amount-length s e in
    let before : decimal (whole s) < 100000000000 = decimal-below (whole s) 11 t.0 (simp length-take (omega (arith, l.1))) in
    let behind : decimal (hundredths s) < 100 = decimal-below (hundredths s) 2 t.1 (simp length-drop (omega (arith, l.0))) in
    (ltb-true 0 (kopecks_of s) t.2, omega arith)

-- a text of a shape gives a well-shaped part
identifier-shaped : (s : List ℕ) → has_shape Named s ≡ true → IsIdentifier (identifier_of s)
unfolding has_shape
identifier-shaped s e = record { text = s; good = e; stored = refl }

uetr-shaped : (s : List ℕ) → has_shape Traced s ≡ true → IsUetr (uetr_of s)
unfolding has_shape
uetr-shaped s e = record { text = s; good = e; stored = refl }

time-shaped : (s : List ℕ) → has_shape Timed s ≡ true → IsTime (time_of s)
unfolding has_shape time_of
time-shaped s e = go (fits time_pattern s && is_time (time_number s)) refl e
  where
    go : (t : Bool) → (fits time_pattern s && is_time (time_number s)) ≡ t → is_given (cond t (Some (time_number s)) None) ≡ true
        → IsTime (cond t (Some (time_number s)) None)
    go true f g = record { time = time_number s; given = refl; real = and_right (fits time_pattern s) (is_time (time_number s)) f }
    go false f g = absurd (false≢true g)

amount-shaped : (s : List ℕ) → has_shape Paid s ≡ true → IsAmount (amount_of s)
unfolding has_shape amount_of
amount-shaped s e =
    let range = kopecks-range s e in
    record { kopecks = kopecks_of s; given = rw e; least = range.0; most = range.1 }

-- what a good field that may not be missing holds is a text of its shape
text-shaped : (shape : Shape) (ccy : Ccy) (h : Held) → is_good false shape ccy h ≡ true → has_shape shape (text_in h) ≡ true
unfolding is_good text_fits text_in
text-shaped shape ccy missing e = absurd (false≢true e)
text-shaped shape ccy (once given inside None) e = absurd (false≢true (and_right (ccy_fits ccy given) false e))
text-shaped shape ccy (once given inside (Some text)) e = and_right (ccy_fits ccy given) (text_fits shape (Some text)) e
text-shaped shape ccy doubled e = absurd (false≢true e)

-- whether an answer is a message, and which
is-good : Answer → Bool
is-good (Err reason) = false
is-good (Ok message) = true

message-in : Message → Answer → Message
message-in m (Err reason) = m
message-in m (Ok message) = message

-- what is not false is true
holds : (t : Bool) → (t ≡ false → ⊥) → t ≡ true
holds true h = refl
holds false h = absurd (h refl)

module _ (rows : List Row) where
  abbrev NoneBad : Kind → Type 0
  NoneBad kind = (j : ℕ) → Bad kind rows j → ⊥

  field-fine : (kind : Kind) → NoneBad kind → (j : ℕ) → j < length (fields_of kind) → fine rows (get_or (fields_of kind) j no_field) ≡ true
  field-fine kind fault j h =
      let alone = fine rows (get_or (fields_of kind) j no_field) in
      let beside = goes_with kind (suc j) (held_of kind rows) in
      and_left alone beside (holds (alone && beside) (λ e. fault j (record { numbered = h; faulty = e })))

  -- where no field is bad, the text of each field that may not be missing has the field's shape
  must-fit : (f : Field) → f.optional ≡ false → fine rows f ≡ true → has_shape f.shape (text_in (held_in (standing f.path rows))) ≡ true
  must-fit f must e =
      let h = held_in (standing f.path rows) in
      text-shaped f.shape f.ccy h (subst (λ (o : Bool). is_good o f.shape f.ccy h ≡ true) must e)

  -- the field with a number stands one place before it in the table
  abbrev field_at : Kind → ℕ → Field
  field_at kind number = get_or (fields_of kind) (number - 1) no_field

  fits-at : (kind : Kind) → NoneBad kind → (number : ℕ) → number - 1 < length (fields_of kind) → (field_at kind number).optional ≡ false
      → has_shape (field_at kind number).shape (text_in (held_in (standing (field_at kind number).path rows))) ≡ true
  fits-at kind fault number h must = must-fit (field_at kind number) must (field-fine kind fault (number - 1) h)

  -- the text with a number
  abbrev text_of : Kind → ℕ → List ℕ
  text_of kind k = text_in (numbered (held_of kind rows) k)

  kind-shaped : (kind : Kind) → NoneBad kind → Shaped (message_of kind (held_of kind rows))
  unfolding message_of message_from name_of numbers_of held_of fields_of pacs008_fields camt050_fields pacs028_fields pacs002_fields text_in
  kind-shaped Pacs008 fault =
      let of : Numbers = pacs008_numbers in
      record {
        identifier = identifier-shaped (text_of Pacs008 of.id) (fits-at Pacs008 fault of.id (lit< tt) refl);
        created = time-shaped (text_of Pacs008 of.created) (fits-at Pacs008 fault of.created (lit< tt) refl);
        uetr = uetr-shaped (text_of Pacs008 of.uetr) (fits-at Pacs008 fault of.uetr (lit< tt) refl);
        reference = identifier-shaped (text_of Pacs008 of.reference) (fits-at Pacs008 fault of.reference (lit< tt) refl);
        amount = amount-shaped (text_of Pacs008 of.amount) (fits-at Pacs008 fault of.amount (lit< tt) refl);
        reply = tt;
      }
  kind-shaped Camt050 fault =
      let of : Numbers = camt050_numbers in
      record {
        identifier = identifier-shaped (text_of Camt050 of.id) (fits-at Camt050 fault of.id (lit< tt) refl);
        created = time-shaped (text_of Camt050 of.created) (fits-at Camt050 fault of.created (lit< tt) refl);
        uetr = uetr-shaped (text_of Camt050 of.uetr) (fits-at Camt050 fault of.uetr (lit< tt) refl);
        reference = empty-identifier;
        amount = amount-shaped (text_of Camt050 of.amount) (fits-at Camt050 fault of.amount (lit< tt) refl);
        reply = tt;
      }
  kind-shaped Pacs028 fault =
      let of : Numbers = pacs028_numbers in
      record {
        identifier = identifier-shaped (text_of Pacs028 of.id) (fits-at Pacs028 fault of.id (lit< tt) refl);
        created = time-shaped (text_of Pacs028 of.created) (fits-at Pacs028 fault of.created (lit< tt) refl);
        uetr = uetr-shaped (text_of Pacs028 of.uetr) (fits-at Pacs028 fault of.uetr (lit< tt) refl);
        reference = identifier-shaped (text_of Pacs028 of.reference) (fits-at Pacs028 fault of.reference (lit< tt) refl);
        amount = tt;
        reply = tt;
      }
  kind-shaped Pacs002 fault =
      let of : Numbers = pacs002_numbers in
      record {
        identifier = identifier-shaped (text_of Pacs002 of.id) (fits-at Pacs002 fault of.id (lit< tt) refl);
        created = time-shaped (text_of Pacs002 of.created) (fits-at Pacs002 fault of.created (lit< tt) refl);
        uetr = empty-uetr;
        reference = empty-identifier;
        amount = tt;
        reply =
            good-reply (text_of Pacs002 of.group) (text_of Pacs002 of.transaction) (fits-at Pacs002 fault of.group (lit< tt) refl);
      }

  -- an answer that is a message is told of a sheet without a bad field
  told-shaped : (a : Answer) (m : Message) → Told rows a → a ≡ Ok m → Shaped m
  unfolding is-good message-in
  told-shaped a m (unknown known) e = absurd (false≢true (ap is-good e))
  told-shaped a m (bad kind i known here low) e = absurd (false≢true (ap is-good e))
  told-shaped a m (good kind known fault) e = subst (λ (x : Message). Shaped x) (ap (message-in m) e) (kind-shaped kind fault)

reading-shaped : (s : List ℕ) (m : Message) (r : Reading) → (received_from s r).answer ≡ Ok m → Shaped m
unfolding received_from is-good
reading-shaped s m (refused place) e = absurd (false≢true (ap is-good e))
reading-shaped s m (accepted n starts depths) e =
    let rows = rows_of s n starts depths in
    told-shaped rows (received_as (kind_of rows) rows).answer m (told rows) e

pub shaped : (s : List ℕ) (m : Message) → (received_of s).answer ≡ Ok m → Shaped m
unfolding received_of
shaped s m e = reading-shaped s m (reading_of s) e
