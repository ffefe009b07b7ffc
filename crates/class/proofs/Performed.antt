-- What the parts of a call add up to.
-- Assumes nothing.
use mathlib.Core.Path.{◌≡◌, ◌∙◌}
use mathlib.Core.Bool.{Bool, true, false}
use mathlib.Core.List.{List}
use Prim.Native.Nat.{ℕ, zero, suc, ◌/◌, ◌<◌}
use native.Mathlib.Omega.{arith}
use lib.ListN.{take, length, get_or}
use Rattle.std.specs.Prelude.{Err}
use Rattle.std.proofs.lemmas.List.{ext_get_or}
use Rattle.text.specs.Hexadecimal.{byte_at}
use Rattle.centre.specs.declared.answers.Refusal.TheVariants.{NoSlip}
use Rattle.centre.specs.Answers.{Answer, told}
use Rattle.centre.specs.Slips as slips
use Rattle.class.specs.declared.digits.Ink.{Ink}
use Rattle.class.specs.Digits.{ink_in, whole_bytes, twelve_as_bytes, bytes_in}
use Rattle.class.specs.Lines.{slip_told}

module _ (digits : List ℕ) (ink : Ink) (t : Bool) (e : ink ≡ ink_in digits) (f : t ≡ whole_bytes ink) where
  -- what is not the digits of whole bytes is no slip's
  pub slip-none : t ≡ false → told (Err NoSlip) ≡ slip_told digits
  unfolding slip_told told
  slip-none g = let h : whole_bytes (ink_in digits) ≡ false = cc in rw h

  -- the bytes are read as they are written
  pub slip-read : (bytes : List ℕ) (r : Answer) → t ≡ true → bytes ≡ twelve_as_bytes ink → told r ≡ slips.read_told (take (ink.count / 2) bytes)
      → told r ≡ slip_told digits
  unfolding slip_told bytes_in
  slip-read bytes r g b k =
      let h : whole_bytes (ink_in digits) ≡ true = cc in
      let w : told r ≡ slips.read_told (take ((ink_in digits).count / 2) (twelve_as_bytes (ink_in digits))) =
      k ∙ rw (b, e) in
      rw h w

pub ruleset slip_parts = (slip-none, slip-read)

-- six bytes that are each what its two digits write are what twelve digits write
pub six-places : (s : List ℕ) (ink : Ink) → length s ≡ 6 → ((k : ℕ) → k < 6 → get_or s k 0 ≡ byte_at ink.bytes k) → s ≡ twelve_as_bytes ink
unfolding twelve_as_bytes
six-places s ink l h = ext_get_or 0 s (twelve_as_bytes ink) l (λ i k. by-place i (omega (arith, l)))
  where
    by-place : (i : ℕ) → i < 6 → get_or s i 0 ≡ get_or (twelve_as_bytes ink) i 0
    by-place zero k = h 0 k
    by-place (suc zero) k = h 1 k
    by-place (suc (suc zero)) k = h 2 k
    by-place (suc (suc (suc zero))) k = h 3 k
    by-place (suc (suc (suc (suc zero)))) k = h 4 k
    by-place (suc (suc (suc (suc (suc zero))))) k = h 5 k
    by-place (suc (suc (suc (suc (suc (suc i)))))) k = let z : ◌≡◌ {A = ℕ} 0 1 = omega arith in omega arith
