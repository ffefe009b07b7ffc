-- Of each public function: no second answer satisfies its contract. The grammar alone settles it, and so does the equation.
-- Assumes nothing.
use mathlib.Core.Path.{◌≡◌, sym, ap, ◌∙◌}
use denote.Ref.{Bor}
use Rattle.shape.proofs.Single.{Settled, SettledShown, by-equation}
use Rattle.std.specs.Prelude.{Result}
use Rattle.sheet.specs.declared.Sheet.{Sheet}
use Rattle.sheet.specs.declared.parts.Refused.{Refused}
use Rattle.sheet.specs.declared.reader.Reader.{Reader}
use Rattle.sheet.specs.Sheet.{Answers, sheet_of}
use mathlib.Core.List.{List}
use Prim.Native.Nat.{ℕ}
use Rattle.sheet.proofs.Reading.{right-only}
use Rattle.sheet.proofs.parts.is_name_byte.Kinds as is-name-byte-kinds
use Rattle.sheet.proofs.parts.is_name_byte.Reads as is-name-byte-reads
use Rattle.sheet.proofs.read.Kinds as read-kinds
use Rattle.sheet.proofs.read.Reads as read-reads
use Rattle.sheet.proofs.reader.name_bytes_end.Kinds as name-bytes-end-kinds
use Rattle.sheet.proofs.reader.name_bytes_end.Reads as name-bytes-end-reads
use Rattle.sheet.proofs.reader.next_at.Kinds as next-at-kinds
use Rattle.sheet.proofs.reader.next_at.Reads as next-at-reads
use Rattle.sheet.proofs.reader.next_in.Kinds as next-in-kinds
use Rattle.sheet.proofs.reader.next_in.Reads as next-in-reads
use Rattle.sheet.proofs.reader.part.Kinds as part-kinds
use Rattle.sheet.proofs.reader.part.Reads as part-reads
use Rattle.sheet.proofs.reader.shown_at.Kinds as shown-at-kinds
use Rattle.sheet.proofs.reader.shown_at.Reads as shown-at-reads
use Rattle.sheet.proofs.reader.Reader.begin.Kinds as begin-kinds
use Rattle.sheet.proofs.reader.Reader.begin.Reads as begin-reads
use Rattle.sheet.proofs.reader.Reader.moved.Kinds as moved-kinds
use Rattle.sheet.proofs.reader.Reader.moved.Reads as moved-reads
use Rattle.sheet.proofs.reader.Reader.place.Kinds as place-kinds
use Rattle.sheet.proofs.reader.Reader.place.Reads as place-reads
use Rattle.sheet.proofs.reader.Reader.next.Kinds as next-kinds
use Rattle.sheet.proofs.reader.Reader.next.Reads as next-reads
use Rattle.sheet.proofs.reader.Reader.shown.Kinds as shown-kinds
use Rattle.sheet.proofs.reader.Reader.shown.Reads as shown-reads

pub is-name-byte : Settled _ is-name-byte-kinds.ps is-name-byte-kinds.r is-name-byte-reads.Post
is-name-byte κs a x y e f = by-equation

pub read : Settled _ read-kinds.ps read-kinds.r read-reads.Post
read κs a x y e f p q = by-equation p.1 q.1

-- the clause that cites the grammar settles the answer by itself
pub grammar-settles : (s : List ℕ) (x y : Result Sheet Refused) → Answers s x → Answers s y → x ≡ y
grammar-settles s x y p q = p.image ∙ ap sheet_of (right-only s p.reading q.reading p.right q.right) ∙ sym q.image

pub name-bytes-end : Settled _ name-bytes-end-kinds.ps name-bytes-end-kinds.r name-bytes-end-reads.Post
name-bytes-end κs a x y e f = by-equation

pub next-in : Settled _ next-in-kinds.ps next-in-kinds.r next-in-reads.Post
next-in κs a x y e f = by-equation

pub next-at : Settled _ next-at-kinds.ps next-at-kinds.r next-at-reads.Post
next-at κs a x y e f = by-equation

-- of a part that is handed back, its bytes are settled
pub part : SettledShown _ part-kinds.ps part-kinds.r part-reads.Post (List ℕ) (λ κs x. x.now)
part κs a x y e f = by-equation

pub shown-at : SettledShown _ shown-at-kinds.ps shown-at-kinds.r shown-at-reads.Post (List ℕ) (λ κs x. x.now)
shown-at κs a x y e f = by-equation

-- a reader is its sheet and its place
same-reader : (x y : Reader) → x.sheet ≡ y.sheet → x.place ≡ y.place → x ≡ y
same-reader x y p q = ap (λ (s : Bor (List ℕ)). record { sheet = s; place = x.place }) p ∙ ap (λ (n : ℕ). record { sheet = y.sheet; place = n }) q

by-fields : {s : Bor (List ℕ)} {n : ℕ} (x y : Reader) → (x.sheet ≡ s) × (x.place ≡ n) → (y.sheet ≡ s) × (y.place ≡ n) → x ≡ y
by-fields x y p q = same-reader x y (by-equation p.0 q.0) (by-equation p.1 q.1)

pub begin : Settled _ begin-kinds.ps begin-kinds.r begin-reads.Post
begin κs a x y e f = by-fields x y

pub moved : Settled _ moved-kinds.ps moved-kinds.r moved-reads.Post
moved κs a x y e f = by-fields x y

pub place : Settled _ place-kinds.ps place-kinds.r place-reads.Post
place κs a x y e f = by-equation

pub next : Settled _ next-kinds.ps next-kinds.r next-reads.Post
next κs a x y e f = by-equation

-- of the part that is handed back, its bytes
pub shown : SettledShown _ shown-kinds.ps shown-kinds.r shown-reads.Post (List ℕ) (λ κs x. x.now)
shown κs a x y e f = by-equation
