-- A form is sound where its bits fill its bytes and what its slips may hold fits their fields. Both forms are, and so the values of a slip fit
-- their fields.
-- Assumes nothing.
use mathlib.Core.Path.{◌≡◌, refl}
use mathlib.Core.Bool.{Bool, true, ◌&&◌}
use Prim.Native.Nat.{ℕ, zero, suc, ◌*◌, ◌-◌, ◌^◌, ◌<◌, ◌≤◌}
use native.Mathlib.Omega.{arith}
use lib.Dec.{leb, ltb, lit<}
use lib.Pow.{pow_pos}
use borrow.Author.Tests.{leb-true, le-leb, ltb-true}
use Rattle.shape.specs.Bits.{total}
use Rattle.shape.specs.Bytes.{every}
use Rattle.shape.proofs.Bits.{Small}
use Rattle.shape.proofs.Tests.{and_left, and_right}
use Rattle.slip.specs.declared.Slip.{Slip}
use Rattle.slip.specs.declared.Form.{Form}
use Rattle.slip.specs.declared.Form.TheVariants.{FiveBytes, SixBytes}
use Rattle.slip.specs.Meaning.{kind_number, status_number, openings, steps, either_says, six_alone_says, sayings, says_in}
use Rattle.slip.specs.Meaning.{Widths, Measures, five_bytes, six_bytes, measures, is_slip_in}
use Rattle.slip.specs.Image.{byte_wide, spare_fields, widths_in, fields_in, Fits}
use Rattle.slip.proofs.Meanings.{of_saying, of-sayings}

-- a kind, a status and a check fit their fields
abbrev pub saying_fits : Widths → ℕ → ℕ → ℕ → Bool
saying_fits w kind status check = ltb kind (2 ^ w.kind) && ltb status (2 ^ w.status) && ltb check (2 ^ w.check)

pub record Sound (form : Measures) : Type 0 where
  pub filled : total (widths_in form) ≡ form.long * byte_wide
  pub said : every (of_saying (saying_fits form.widths)) form.sayings ≡ true
  pub seat : form.seats - 1 < 2 ^ form.widths.seat
  pub opening : openings < 2 ^ form.widths.opening
  pub step : steps < 2 ^ form.widths.step

pub sound : (form : Form) → Sound (measures form)
unfolding sayings either_says six_alone_says kind_number status_number
sound FiveBytes = record { filled = refl; said = refl; seat = lit< tt; opening = lit< tt; step = lit< tt }
sound SixBytes = record { filled = refl; said = refl; seat = lit< tt; opening = lit< tt; step = lit< tt }

-- six tests that all hold
record AllSix (a b c d e f : Bool) : Type 0 where
  said : a ≡ true
  seat : b ≡ true
  opened : c ≡ true
  opening : d ≡ true
  stepped : e ≡ true
  step : f ≡ true

all-six : (a b c d e f : Bool) → (a && b && c && d && e && f) ≡ true → AllSix a b c d e f
all-six a b c d e f h =
    let five = and_left (a && b && c && d && e) f h in
    let four = and_left (a && b && c && d) e five in
    let three = and_left (a && b && c) d four in
    let two = and_left (a && b) c three in
    record {
      said = and_left a b two;
      seat = and_right a b two;
      opened = and_right (a && b) c three;
      opening = and_right (a && b && c) d four;
      stepped = and_right (a && b && c && d) e five;
      step = and_right (a && b && c && d && e) f h;
    }

-- what is tested of the values of a slip
slip-tests : (form : Measures) (s : Slip) → is_slip_in form s ≡ true
    → AllSix (says_in form.sayings s.kind s.status s.check) (leb s.seat (form.seats - 1))
    (leb 1 s.opening) (leb s.opening openings) (leb 1 s.step) (leb s.step steps)
slip-tests form s e =
    all-six (says_in form.sayings s.kind s.status s.check) (leb s.seat (form.seats - 1))
    (leb 1 s.opening) (leb s.opening openings) (leb 1 s.step) (leb s.step steps) e

-- the values of a slip of a sound form fit their fields
pub slip-fits : (form : Measures) → Sound form → (s : Slip) → is_slip_in form s ≡ true → Fits form.widths s
slip-fits form good s e =
    let w = form.widths in
    let h = slip-tests form s e in
    let said = of-sayings (saying_fits w) form.sayings good.said s.kind s.status s.check h.said in
    let pair = and_left (ltb s.kind (2 ^ w.kind) && ltb s.status (2 ^ w.status)) (ltb s.check (2 ^ w.check)) said in
    let last = and_right (ltb s.kind (2 ^ w.kind) && ltb s.status (2 ^ w.status)) (ltb s.check (2 ^ w.check)) said in
    let seat : s.seat ≤ form.seats - 1 = leb-true s.seat (form.seats - 1) h.seat in
    let opening : s.opening ≤ openings = leb-true s.opening openings h.opening in
    let step : s.step ≤ steps = leb-true s.step steps h.step in
    record {
      kind = ltb-true s.kind (2 ^ w.kind) (and_left (ltb s.kind (2 ^ w.kind)) (ltb s.status (2 ^ w.status)) pair);
      status = ltb-true s.status (2 ^ w.status) (and_right (ltb s.kind (2 ^ w.kind)) (ltb s.status (2 ^ w.status)) pair);
      check = ltb-true s.check (2 ^ w.check) last;
      seat = omega (arith, good.seat);
      opening = omega (arith, good.opening);
      step = omega (arith, good.step);
    }

spare-small : (n : ℕ) → Small (spare_fields n)
spare-small zero = tt
spare-small (suc n) = (pow_pos (suc n), tt)

-- and so do all fields
pub fields-small : (form : Measures) (s : Slip) → Fits form.widths s → Small (fields_in form s)
fields-small form s f = (f.kind, (f.status, (f.check, (f.seat, (f.opening, (f.step, spare-small form.spare))))))

-- what five bytes can say six can
pub five-in-six : (s : Slip) → is_slip_in five_bytes s ≡ true → is_slip_in six_bytes s ≡ true
unfolding sayings either_says six_alone_says kind_number status_number
five-in-six s e =
    let h = slip-tests five_bytes s e in
    let says = of-sayings (says_in six_bytes.sayings) five_bytes.sayings refl s.kind s.status s.check h.said in
    let low : s.seat ≤ five_bytes.seats - 1 = leb-true s.seat (five_bytes.seats - 1) h.seat in
    rw (says, le-leb s.seat (six_bytes.seats - 1) (omega arith), h.opened, h.opening, h.stepped, h.step)
