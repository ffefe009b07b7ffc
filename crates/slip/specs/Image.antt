-- The bits of a slip, most significant first, and the bytes that hold them: document 01, "The slip", and request 8 of document 02. Said of any
-- form by its measures; then of what is written, and of what is read.
use Rattle.std.specs.Prelude.{Bool, ◌≡◌, List, [], ◌∷◌, map, ℕ, zero, suc, ◌<◌, ◌^◌, ltb, eqb, length, get_or, replicate}
use Rattle.shape.specs.Bits.{joined, cut}
use Rattle.shape.specs.Bytes.{every}
use Rattle.slip.specs.declared.Form.{Form}
use Rattle.slip.specs.declared.Measures.{Measures as Measured}
use Rattle.slip.specs.declared.Slip.{Slip}
use Rattle.slip.specs.Meaning.{Widths, Measures, six_bytes, measures, form_of}

-- a byte is a field of eight bits
abbrev pub byte_wide : ℕ
byte_wide = 8

abbrev pub byte_fields : List ℕ → List (ℕ × ℕ)
byte_fields = map {B = ℕ × ℕ} (λ (b : ℕ). (byte_wide, b))

abbrev pub values : List (ℕ × ℕ) → List ℕ
values = map (λ (f : ℕ × ℕ). f.1)

-- the zero bits after the values are one more field, where there are any
abbrev pub spare_widths : ℕ → List ℕ
spare_widths zero = []
spare_widths (suc n) = suc n ∷ []

abbrev pub spare_fields : ℕ → List (ℕ × ℕ)
spare_fields n = map {B = ℕ × ℕ} (λ (w : ℕ). (w, 0)) (spare_widths n)

-- the widths of the fields, and the fields of a slip
abbrev pub widths_in : Measures → List ℕ
widths_in form =
    let w = form.widths in
    w.kind ∷ w.status ∷ w.check ∷ w.seat ∷ w.opening ∷ w.step ∷ spare_widths form.spare

abbrev pub fields_in : Measures → Slip → List (ℕ × ℕ)
fields_in form s =
    let w = form.widths in
    (w.kind, s.kind)
    ∷ (w.status, s.status)
    ∷ (w.check, s.check)
    ∷ (w.seat, s.seat)
    ∷ (w.opening, s.opening)
    ∷ (w.step, s.step)
    ∷ spare_fields form.spare

-- each value fits its field, which the code that joins them asks for
pub record Fits (w : Widths) (s : Slip) : Type 0 where
  pub kind : s.kind < 2 ^ w.kind
  pub status : s.status < 2 ^ w.status
  pub check : s.check < 2 ^ w.check
  pub seat : s.seat < 2 ^ w.seat
  pub opening : s.opening < 2 ^ w.opening
  pub step : s.step < 2 ^ w.step

-- the slip as one number, a number's bytes, and so the bytes of a slip
abbrev pub number_in : Measures → Slip → ℕ
number_in form s = joined 0 (fields_in form s)

abbrev pub bytes_in : Measures → ℕ → List ℕ
bytes_in form n = values (cut (replicate form.long byte_wide) n)

abbrev pub image_in : Measures → Slip → List ℕ
image_in form s = bytes_in form (number_in form s)

-- the six values that a number holds
abbrev pub slip_from : List ℕ → Slip
slip_from vs =
    record { kind = get_or vs 0 0; status = get_or vs 1 0; check = get_or vs 2 0; seat = get_or vs 3 0; opening = get_or vs 4 0; step = get_or vs 5 0 }

abbrev pub held_in : Measures → ℕ → Slip
held_in form n = slip_from (values (cut (widths_in form) n))

-- its bits after the values are zero
abbrev pub spare_zero : Measures → ℕ → Bool
spare_zero form n = every (λ (v : ℕ). eqb v 0) (values (cut (spare_widths form.spare) n))

-- every element is a byte
abbrev pub are_bytes : List ℕ → Bool
are_bytes bytes = every (λ (b : ℕ). ltb b (2 ^ byte_wide)) bytes

-- bytes as one number
abbrev pub bytes_number : List ℕ → ℕ
bytes_number bytes = joined 0 (byte_fields bytes)

-- what is written: a slip of six bytes, as one number and as bytes
unfoldable pub slip_number : Slip → ℕ
slip_number = number_in six_bytes

unfoldable pub image : Slip → List ℕ
image s = bytes_in six_bytes (slip_number s)

-- what is read: the values that bytes hold in the form that their length says
unfoldable pub slip_of : List ℕ → Slip
slip_of bytes = held_in (measures (form_of (length bytes))) (bytes_number bytes)

-- what the code works with is what the form measures
pub record IsMeasured (form : Form) (m : Measured) : Type 0 where
  pub seats : m.seats ≡ (measures form).seats
  pub seat_wide : m.seat_wide ≡ (measures form).widths.seat
  pub spare_wide : m.spare_wide ≡ (measures form).spare
