-- Slips written are read back the same, and no other bytes are read as a slip: `slip` has both of its own answers, and the room's answers say the
-- same by their number.
-- Assumes nothing.
use mathlib.Core.Path.{◌≡◌, refl, sym, ap, ◌∙◌}
use mathlib.Core.Bool.{Bool, true, false, not, cond}
use mathlib.Core.List.{List, []}
use Prim.Native.Nat.{ℕ}
use native.Mathlib.Omega.{arith}
use lib.ListN.{length, take, drop}
use Rattle.slip.specs.declared.Form.{Form}
use Rattle.slip.specs.declared.Form.TheVariants.{SixBytes}
use Rattle.slip.specs.declared.Slip.{Slip}
use Rattle.slip.specs.Meaning.{slip_long, measures, form_of, is_slip_in, is_slip}
use Rattle.slip.specs.Image.{are_bytes, slip_from, image_in, image, slip_of}
use Rattle.slip.specs.Answers.{can_write, write_after, holds_slip}
use Rattle.slip.proofs.Small.{five-in-six}
use Rattle.slip.proofs.Exact.{Shows, image-long, long-form, shown-holds, shown-back, holds-shown, image-six, image-first, writable}
use Rattle.centre.specs.Answers.{Told, done, refused, slip_values}
use Rattle.centre.specs.Slips.{write_told, read_told}
use Rattle.demands.specs.Messages.{Slips}

-- a call that knows one refusal is done where its test holds
one-row : (t : Bool) (values : List ℕ) → (cond (not t) (refused 11) (done values)).number ≡ 0 → t ≡ true
one-row true values e = refl
one-row false values e = absurd (omega (arith, e))

written-can : (slip : Slip) (buffer : List ℕ) → (write_told slip buffer).number ≡ 0 → can_write slip buffer ≡ true
unfolding write_told
written-can slip buffer e = one-row (can_write slip buffer) [] e

read-holds : (bytes : List ℕ) → (read_told bytes).number ≡ 0 → holds_slip bytes ≡ true
unfolding read_told
read-holds bytes e = one-row (holds_slip bytes) (slip_values (slip_of bytes)) e

read_done : (bytes : List ℕ) → holds_slip bytes ≡ true → read_told bytes ≡ done (slip_values (slip_of bytes))
unfolding read_told
read_done bytes e = rw e

-- the first bytes of what is left are those of the slip
written-image : (slip : Slip) (buffer : List ℕ) → can_write slip buffer ≡ true → take slip_long (write_after slip buffer) ≡ image slip
unfolding write_after
written-image slip buffer e = rw e (image-first slip (drop slip_long buffer))

-- the bytes that a slip is in a form are read as what it says, and so is what is written
shown_read : (form : Form) (slip : Slip) → is_slip_in (measures form) slip ≡ true → read_told (image_in (measures form) slip) ≡ done (slip_values slip)
shown_read form slip e =
    read_done (image_in (measures form) slip) (shown-holds form slip e)
    ∙ ap (λ (x : Slip). done (slip_values x)) (shown-back form slip e)

pub image-read : (slip : Slip) → is_slip slip ≡ true → read_told (image slip) ≡ done (slip_values slip)
unfolding is_slip
image-read slip e = ap read_told (image-six slip) ∙ shown_read SixBytes slip e

-- what is told of a slip says all of it
same-values : (x y : Slip) → done (slip_values x) ≡ done (slip_values y) → x ≡ y
unfolding slip_values
same-values x y e = ap (λ (t : Told). slip_from t.values) e

-- bytes that are read as a slip of a form, and are as many as it has, are that slip's
module _ (form : Form) (slip : Slip) (bytes : List ℕ) (small : are_bytes bytes ≡ true) (long : length bytes ≡ (measures form).long)
    (read : read_told bytes ≡ done (slip_values slip)) where
  holds : holds_slip bytes ≡ true
  holds = read-holds bytes (ap (λ (t : Told). t.number) read)

  same-slip : slip_of bytes ≡ slip
  same-slip = same-values (slip_of bytes) slip (sym (read_done bytes holds) ∙ read)

  shown : Shows bytes (slip_of bytes)
  shown = holds-shown bytes small holds

  same-form : shown.form ≡ form
  same-form =
      let shown-long : length bytes ≡ (measures shown.form).long = ap length shown.same ∙ image-long shown.form (slip_of bytes) in
      sym (ap form_of shown-long ∙ long-form shown.form) ∙ ap form_of long ∙ long-form form

  only_one : bytes ≡ image_in (measures form) slip
  only_one =
      shown.same
      ∙ ap (λ (x : Form). image_in (measures x) (slip_of bytes)) same-form
      ∙ ap (image_in (measures form)) same-slip

pub slips : Slips
slips = record {
  back = λ (slip : Slip) (buffer : List ℕ) (e : (write_told slip buffer).number ≡ 0).
      let can : can_write slip buffer ≡ true = written-can slip buffer e in
      ap read_told (written-image slip buffer can) ∙ image-read slip (writable slip buffer can);
  one = λ (form : Form) (slip : Slip) (e : is_slip_in (measures form) slip ≡ true).
      record { long = image-long form slip; read_back = shown_read form slip e; only = only_one form slip };
  both = five-in-six;
  only = λ (bytes : List ℕ) (e : (read_told bytes).number ≡ 0) (small : are_bytes bytes ≡ true).
      let holds : holds_slip bytes ≡ true = read-holds bytes e in
      let shown = holds-shown bytes small holds in
      record { slip = slip_of bytes; form = shown.form; sound = shown.said; values = read_done bytes holds; same = shown.same };
}
