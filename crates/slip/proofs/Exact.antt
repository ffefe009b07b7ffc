-- Reading gives values exactly when the bytes are what they are in one of the two forms: slips written are read back the same, and no other
-- bytes are read as a slip. The law of every sound form, in the form that a length says.
-- Assumes nothing.
use mathlib.Core.Path.{◌≡◌, refl, ap, subst, ◌∙◌}
use mathlib.Core.Bool.{Bool, true, false, ◌&&◌, not, cond, false≢true}
use mathlib.Core.List.{List, ◌++◌}
use mathlib.Core.Logic.{◌↔◌}
use Prim.Native.Nat.{ℕ, ◌≤◌}
use native.Mathlib.Omega.{arith}
use lib.Dec.{eqb}
use lib.ListN.{length, take, drop}
use borrow.Author.Tests.{ltb-false, eqb-true, not-true}
use Rattle.shape.proofs.Tests.{and_left, and_right}
use Rattle.slip.specs.declared.Form.{Form}
use Rattle.slip.specs.declared.Form.TheVariants.{FiveBytes, SixBytes}
use Rattle.slip.specs.declared.Slip.{Slip}
use Rattle.std.specs.Prelude.{Ok, Err}
use Rattle.slip.specs.Meaning.{slip_long, five_bytes, six_bytes, measures, form_of, is_slip_in, is_slip}
use Rattle.slip.specs.Image.{are_bytes, Fits, image_in, held_in, spare_zero, bytes_number, slip_number, image, slip_of}
use Rattle.slip.specs.Answers.{no_slip, buffer_short, can_write, write_answer, write_after, holds_in, holds_slip, read_answer}
use Rattle.slip.proofs.Small.{sound, slip-fits}
use Rattle.slip.proofs.Forms as forms

-- a slip's bytes in a form are as many as it has, and their number says the form
pub image-long : (form : Form) (f : Slip) → length (image_in (measures form) f) ≡ (measures form).long
image-long form f = forms.image-long (measures form) f

pub long-form : (form : Form) → form_of (measures form).long ≡ form
long-form FiveBytes = refl
long-form SixBytes = refl

image-form : (form : Form) (f : Slip) → form_of (length (image_in (measures form) f)) ≡ form
image-form form f = ap form_of (image-long form f) ∙ long-form form

-- so what is read of it is what it holds there
holds-there : (form : Form) (f : Slip) → holds_slip (image_in (measures form) f) ≡ holds_in (measures form) (image_in (measures form) f)
unfolding holds_slip
holds-there form f = ap (λ (x : Form). holds_in (measures x) (image_in (measures form) f)) (image-form form f)

held-there : (form : Form) (f : Slip) → slip_of (image_in (measures form) f) ≡ held_in (measures form) (bytes_number (image_in (measures form) f))
unfolding slip_of
held-there form f = ap (λ (x : Form). held_in (measures x) (bytes_number (image_in (measures form) f))) (image-form form f)

-- what reading gives was found by the test
found : (t : Bool) (v f : Slip) → cond t (Ok v) (Err no_slip) ≡ Ok f → (t ≡ true) × (v ≡ f)
found true v f h = (refl, cc)
found false v f h = absurd (let z : ◌≡◌ {A = ℕ} 0 1 = cc in omega arith)

held : (t : Bool) (v f : Slip) → t ≡ true → v ≡ f → cond t (Ok v) (Err no_slip) ≡ Ok f
held true v f h e = cc
held false v f h e = absurd (false≢true h)

-- bytes that hold a slip are five or six
pub holds-long : (s : List ℕ) → holds_slip s ≡ true → (length s ≡ five_bytes.long → ⊥) → (length s ≡ six_bytes.long → ⊥) → ⊥
unfolding holds_slip
holds-long s e five six =
    let form = measures (form_of (length s)) in
    let n = bytes_number s in
    among (form_of (length s)) (eqb-true (length s) form.long
    (and_left (eqb (length s) form.long) (spare_zero form n && is_slip_in form (held_in form n)) e))
  where
    among : (form : Form) → length s ≡ (measures form).long → ⊥
    among FiveBytes h = five h
    among SixBytes h = six h

-- the bytes are what f is in a form in which it is a slip
pub record Shows (bytes : List ℕ) (f : Slip) : Type 0 where
  pub form : Form
  pub said : is_slip_in (measures form) f ≡ true
  pub same : bytes ≡ image_in (measures form) f

-- bytes that hold a slip show it, in the form that their length says
pub holds-shown : (s : List ℕ) → are_bytes s ≡ true → holds_slip s ≡ true → Shows s (slip_of s)
unfolding holds_slip slip_of
holds-shown s e h =
    let form = form_of (length s) in
    let law = (forms.holds-exactly (measures form) (sound form) s (held_in (measures form) (bytes_number s)) e).0 (h, refl) in
    record { form = form; said = law.0; same = law.1 }

-- bytes that show a slip hold it, and are read as it
module _ (form : Form) (f : Slip) (e : is_slip_in (measures form) f ≡ true) where
  pub shown-holds : holds_slip (image_in (measures form) f) ≡ true
  shown-holds = holds-there form f ∙ forms.image_holds (measures form) (sound form) f e

  pub shown-back : slip_of (image_in (measures form) f) ≡ f
  shown-back = held-there form f ∙ forms.image-back (measures form) (sound form) f (slip-fits (measures form) (sound form) f e)

  shown_read : read_answer (image_in (measures form) f) ≡ Ok f
  unfolding read_answer
  shown_read = held (holds_slip (image_in (measures form) f)) (slip_of (image_in (measures form) f)) f shown-holds shown-back

-- the theorem: reading gives f exactly when the bytes are what f is in a form in which it is a slip
pub read-exactly : (s : List ℕ) (f : Slip) → are_bytes s ≡ true → (read_answer s ≡ Ok f) ↔ Shows s f
unfolding read_answer
read-exactly s f e = (
  λ h.
      let there = found (holds_slip s) (slip_of s) f h in
      subst (Shows s) there.1 (holds-shown s e there.0),
  λ h. ap read_answer h.same ∙ shown_read h.form f h.said,
)

-- what is written is what a slip is in the six-byte form, and stands first in a buffer that begins with it
pub image-six : (f : Slip) → image f ≡ image_in (measures SixBytes) f
unfolding image slip_number
image-six f = refl

pub image-first : (f : Slip) (rest : List ℕ) → take slip_long (image f ++ rest) ≡ image f
unfolding image
image-first f rest = refl

-- its bytes hold the values
pub image-back : (f : Slip) → Fits (measures SixBytes).widths f → slip_of (image f) ≡ f
image-back f fits = ap slip_of (image-six f) ∙ held-there SixBytes f ∙ forms.image-back (measures SixBytes) (sound SixBytes) f fits

pub written-fits : (f : Slip) → is_slip f ≡ true → Fits (measures SixBytes).widths f
unfolding is_slip
written-fits f e = slip-fits (measures SixBytes) (sound SixBytes) f e

pub image-read : (f : Slip) → is_slip f ≡ true → read_answer (image f) ≡ Ok f
unfolding is_slip
image-read f e = ap read_answer (image-six f) ∙ shown_read SixBytes f e

-- what can be written is a slip, and the buffer has its bytes
pub writable : (f : Slip) (buffer : List ℕ) → can_write f buffer ≡ true → is_slip f ≡ true
unfolding can_write
writable f buffer e = and_right (not (buffer_short buffer)) (is_slip f) e

pub writable-long : (f : Slip) (buffer : List ℕ) → can_write f buffer ≡ true → slip_long ≤ length buffer
unfolding can_write
writable-long f buffer e =
    ltb-false (length buffer) slip_long (not-true (buffer_short buffer) (and_left (not (buffer_short buffer)) (is_slip f) e))

-- what was written is read back, whatever stands after it
pub written_read : (f : Slip) (buffer : List ℕ) → write_answer f buffer ≡ Ok tt → read_answer (take slip_long (write_after f buffer)) ≡ Ok f
unfolding write_answer write_after image
written_read f buffer e = go (can_write f buffer) refl e
  where
    go : (t : Bool) → can_write f buffer ≡ t → cond t (Ok (tt {0})) (Err no_slip) ≡ Ok tt
        → read_answer (take slip_long (cond t (image f ++ drop slip_long buffer) buffer)) ≡ Ok f
    go true c h = image-read f (writable f buffer c)
    go false c h = absurd (let z : ◌≡◌ {A = ℕ} 0 1 = cc in omega arith)
