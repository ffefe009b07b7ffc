-- What writing and reading a slip answer and leave: calls that know refusal 11 alone.
use Rattle.std.specs.Prelude.{Bool, ◌&&◌, not, cond, List, ◌++◌, ℕ, ltb, eqb, length, drop, Result, Ok, Err}
use Rattle.slip.specs.declared.Slip.{Slip}
use Rattle.slip.specs.declared.NoSlip.{NoSlip}
use Rattle.slip.specs.Meaning.{slip_long, Measures, measures, form_of, is_slip_in, is_slip}
use Rattle.slip.specs.Image.{held_in, spare_zero, bytes_number, image, slip_of}

-- refusal 11
abbrev pub no_slip : NoSlip
no_slip = record {}

-- the slip buffer is too short
abbrev pub buffer_short : List ℕ → Bool
buffer_short buffer = ltb (length buffer) slip_long

-- a slip can be written: the buffer is not too short, and the values are a slip's
unfoldable pub can_write : Slip → List ℕ → Bool
can_write s buffer = not (buffer_short buffer) && is_slip s

unfoldable pub write_answer : Slip → List ℕ → Result (Unit {0}) NoSlip
write_answer s buffer = cond (can_write s buffer) (Ok tt) (Err no_slip)

-- the buffer then: the slip in the first six bytes, the rest as it was; on a refusal all as it was
unfoldable pub write_after : Slip → List ℕ → List ℕ
write_after s buffer = cond (can_write s buffer) (image s ++ drop slip_long buffer) buffer

-- the bytes are a slip of a form: exactly as many as it has, the bits after the values zero, and the values a slip's
abbrev pub holds_in : Measures → List ℕ → Bool
holds_in form bytes =
    let n = bytes_number bytes in
    eqb (length bytes) form.long && (spare_zero form n && is_slip_in form (held_in form n))

-- the bytes are a slip of the form that their length says
unfoldable pub holds_slip : List ℕ → Bool
holds_slip bytes = holds_in (measures (form_of (length bytes))) bytes

unfoldable pub read_answer : List ℕ → Result Slip NoSlip
read_answer bytes = cond (holds_slip bytes) (Ok (slip_of bytes)) (Err no_slip)

-- document 01's number for each answer, and the values that it gives
abbrev pub write_number : Result (Unit {0}) NoSlip → ℕ
write_number (Ok x) = 0
write_number (Err e) = 11

abbrev pub read_number : Result Slip NoSlip → ℕ
read_number (Ok s) = 0
read_number (Err e) = 11

abbrev pub read_values : Result Slip NoSlip → Slip
read_values (Ok s) = s
read_values (Err e) = record { kind = 0; status = 0; check = 0; seat = 0; opening = 0; step = 0 }
