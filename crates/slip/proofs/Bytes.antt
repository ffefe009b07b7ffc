-- The bytes of a slip as the code reads and writes them.
-- Assumes nothing.
use mathlib.Core.Path.{◌≡◌}
use mathlib.Core.Bool.{Bool, ◌&&◌, cond}
use mathlib.Core.List.{List}
use Prim.Native.Nat.{ℕ, ◌*◌, ◌^◌, ◌<◌, ◌≤◌}
use native.Mathlib.Omega.{arith}
use native.Mathlib.Nat.{pow-le-pow_right}
use lib.Dec.{lit<}
use lib.ListN.{length}
use borrow.Author.Tests.{eq-eqb, ne_eqb}
use Rattle.slip.specs.declared.Form.{Form}
use Rattle.slip.specs.declared.Form.TheVariants.{FiveBytes, SixBytes}
use Rattle.slip.specs.declared.Slip.{Slip}
use Rattle.std.specs.Prelude.{Ok, Err}
use Rattle.slip.specs.Meaning.{slip_long, measures, form_of, is_slip_in}
use Rattle.slip.specs.Image.{byte_wide, held_in, spare_zero, bytes_number, slip_of}
use Rattle.slip.specs.Answers.{no_slip, holds_slip, read_answer}

-- bytes of a slip have far fewer bits than a number
pub bytes-few : (i n : ℕ) → i ≤ slip_long → n < 2 ^ (byte_wide * i) → n < 2 ^ (byte_wide * slip_long)
bytes-few i n l h =
    let p : 2 ^ (byte_wide * i) ≤ 2 ^ (byte_wide * slip_long) =
    pow-le-pow_right {n = 2} (lit< tt) {i = byte_wide * i} {j = byte_wide * slip_long} (omega arith) in
    omega arith

-- the answers to bytes, in the form that their length says
module _ (s : List ℕ) where
  pub other-length : (length s ≡ 5 → ⊥) → (length s ≡ slip_long → ⊥) → Err no_slip ≡ read_answer s
  unfolding read_answer holds_slip
  other-length h k = rw (ne_eqb (length s) 5 h, ne_eqb (length s) slip_long k)

  pub five : length s ≡ 5 → FiveBytes ≡ form_of (length s)
  five l = rw (eq-eqb (length s) 5 l)

  pub six : length s ≡ slip_long → SixBytes ≡ form_of (length s)
  six l = rw l

  pub right-length : (form : Form) → form ≡ form_of (length s) → length s ≡ (measures form).long
      → (n : ℕ) (v : Slip) (zeros slip answer : Bool) → n ≡ bytes_number s → v ≡ held_in (measures form) n
      → zeros ≡ spare_zero (measures form) n → slip ≡ is_slip_in (measures form) v → (zeros && slip) ≡ answer
      → cond answer (Ok v) (Err no_slip) ≡ read_answer s
  unfolding read_answer holds_slip slip_of
  right-length form says l n v zeros slip answer number held z t e =
      rw (← e, z, t, held, number, ← says, eq-eqb (length s) (measures form).long l)
