-- Case 8 of document 01 in both forms, the slips of the two stages of a transfer (request 9 of document 02), and how many things a slip can say,
-- worked out over the definitions.
-- Assumes nothing.
use mathlib.Core.Path.{◌≡◌, refl}
use mathlib.Core.Bool.{cond}
use mathlib.Core.List.{List, [], ◌∷◌}
use Prim.Native.Nat.{ℕ, zero, suc, ◌+◌}
use Rattle.table.specs.declared.Kind.{Kind}
use Rattle.table.specs.declared.Kind.TheVariants.{Pacs008, Camt050, Pacs028, Pacs002}
use Rattle.slip.specs.declared.Form.{Form}
use Rattle.slip.specs.declared.Form.TheVariants.{FiveBytes, SixBytes}
use Rattle.slip.specs.declared.Slip.{Slip}
use Rattle.slip.specs.declared.Status.{Status}
use Rattle.slip.specs.declared.Status.TheVariants.{Pdng, Accc, Rjct, Waits}
use Rattle.std.specs.Prelude.{Ok, Err}
use Rattle.slip.specs.Meaning.{kind_number, status_number, either_says, six_alone_says, sayings, says_in, measures}
use Rattle.slip.specs.Image.{image_in, slip_number, image, slip_of}
use Rattle.slip.specs.Answers.{no_slip, read_answer, holds_slip}

-- camt.050, accepted, seat 3, opening 1, step 1; and seat 6, opening 2, step 2
abbrev accepted : Slip
accepted = record { kind = kind_number Camt050; status = status_number Accc; check = 0; seat = 3; opening = 1; step = 1 }

abbrev other : Slip
other = record { kind = kind_number Camt050; status = status_number Accc; check = 0; seat = 6; opening = 2; step = 2 }

-- the first of them in five bytes, which are read
case-8-five : image_in (measures FiveBytes) accepted ≡ 0x48 ∷ 0x0C ∷ 0x00 ∷ 0x04 ∷ 0x01 ∷ []
unfolding kind_number status_number
case-8-five = refl

case-8-five-read : read_answer (0x48 ∷ 0x0C ∷ 0x00 ∷ 0x04 ∷ 0x01 ∷ []) ≡ Ok accepted
unfolding read_answer holds_slip sayings either_says six_alone_says kind_number status_number slip_of
case-8-five-read = refl

-- and in six bytes, which are written and read
case-8-six : image accepted ≡ 0x48 ∷ 0x06 ∷ 0x00 ∷ 0x02 ∷ 0x00 ∷ 0x80 ∷ []
unfolding image slip_number kind_number status_number
case-8-six = refl

case-8-six-read : read_answer (0x48 ∷ 0x06 ∷ 0x00 ∷ 0x02 ∷ 0x00 ∷ 0x80 ∷ []) ≡ Ok accepted
unfolding read_answer holds_slip sayings either_says six_alone_says kind_number status_number slip_of
case-8-six-read = refl

-- the five bytes with a zero byte after them are another slip: the length alone says the form
five-and-zero : read_answer (0x48 ∷ 0x0C ∷ 0x00 ∷ 0x04 ∷ 0x01 ∷ 0x00 ∷ []) ≡ Ok other
unfolding read_answer holds_slip sayings either_says six_alone_says kind_number status_number slip_of
five-and-zero = refl

-- a bit that is set after the values makes the bytes no slip
last_bit : read_answer (0x48 ∷ 0x06 ∷ 0x00 ∷ 0x02 ∷ 0x00 ∷ 0x81 ∷ []) ≡ Err no_slip
unfolding read_answer holds_slip sayings either_says six_alone_says kind_number status_number slip_of
last_bit = refl

-- a slip and its bytes, which are its image and are read as it
record Both (s : Slip) (bytes : List ℕ) : Type 0 where
  written : image s ≡ bytes
  read : read_answer bytes ≡ Ok s

-- a slip of seat 0, opening 1
abbrev early : Kind → Status → ℕ → ℕ → Slip
early kind status check step = record { kind = kind_number kind; status = status_number status; check = check; seat = 0; opening = 1; step = step }

-- a pacs.008 waits
waits : Both (early Pacs008 Waits 0 1) (0x38 ∷ 0x00 ∷ 0x00 ∷ 0x02 ∷ 0x00 ∷ 0x80 ∷ [])
unfolding image slip_number read_answer holds_slip sayings either_says six_alone_says kind_number status_number slip_of
waits = record { written = refl; read = refl }

-- a pacs.002 is carried out, and fails by 35, 36 and 37
settled : Both (early Pacs002 Accc 0 2) (0x88 ∷ 0x00 ∷ 0x00 ∷ 0x02 ∷ 0x01 ∷ 0x00 ∷ [])
unfolding image slip_number read_answer holds_slip sayings either_says six_alone_says kind_number status_number slip_of
settled = record { written = refl; read = refl }

not-waited-for : Both (early Pacs002 Rjct 35 2) (0x94 ∷ 0x60 ∷ 0x00 ∷ 0x02 ∷ 0x01 ∷ 0x00 ∷ [])
unfolding image slip_number read_answer holds_slip sayings either_says six_alone_says kind_number status_number slip_of
not-waited-for = record { written = refl; read = refl }

declined : Both (early Pacs002 Rjct 36 2) (0x94 ∷ 0x80 ∷ 0x00 ∷ 0x02 ∷ 0x01 ∷ 0x00 ∷ [])
unfolding image slip_number read_answer holds_slip sayings either_says six_alone_says kind_number status_number slip_of
declined = record { written = refl; read = refl }

-- with the highest seat, opening and step
abbrev latest : Slip
latest = record { kind = kind_number Pacs002; status = status_number Rjct; check = 37; seat = 11; opening = 65535; step = 24 }

refused : Both latest (0x94 ∷ 0xB7 ∷ 0xFF ∷ 0xFE ∷ 0x0C ∷ 0x00 ∷ [])
unfolding image slip_number read_answer holds_slip sayings either_says six_alone_says kind_number status_number slip_of
refused = record { written = refl; read = refl }

-- a pacs.028 asks after a waiting transfer, and after one that was not credited
asked : Both (early Pacs028 Pdng 10 2) (0x61 ∷ 0x40 ∷ 0x00 ∷ 0x02 ∷ 0x01 ∷ 0x00 ∷ [])
unfolding image slip_number read_answer holds_slip sayings either_says six_alone_says kind_number status_number slip_of
asked = record { written = refl; read = refl }

told : Both (early Pacs028 Rjct 37 3) (0x74 ∷ 0xA0 ∷ 0x00 ∷ 0x02 ∷ 0x01 ∷ 0x80 ∷ [])
unfolding image slip_number read_answer holds_slip sayings either_says six_alone_says kind_number status_number slip_of
told = record { written = refl; read = refl }

-- in five bytes status 3 and kind 4 are no slip, whatever comes after them
waits-in-five : read_answer (image_in (measures FiveBytes) (early Pacs008 Waits 0 1)) ≡ Err no_slip
unfolding read_answer holds_slip either_says kind_number status_number slip_of
waits-in-five = refl

settled-in-five : read_answer (image_in (measures FiveBytes) (early Pacs002 Accc 0 2)) ≡ Err no_slip
unfolding read_answer holds_slip either_says kind_number status_number slip_of
settled-in-five = refl

-- how many numbers below n pass a test, weighed by another count
abbrev sum : (ℕ → ℕ) → ℕ → ℕ
sum f zero = 0
sum f (suc n) = sum f n + f n

-- of all triples of the fields' widths, 71 are a kind, a status and a check that go together in five bytes, and 87 in six
abbrev triples_in : Form → ℕ
triples_in form =
    sum (λ (kind : ℕ). sum (λ (status : ℕ). sum (λ (check : ℕ). cond (says_in (measures form).sayings kind status check) 1 0) 64) 4) 8

abbrev triples_most : Form → ℕ
triples_most FiveBytes = 71
triples_most SixBytes = 87

pub triples : (form : Form) → triples_in form ≡ triples_most form
unfolding sayings either_says six_alone_says kind_number status_number
triples FiveBytes = refl
triples SixBytes = refl
