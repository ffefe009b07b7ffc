-- The law of slips, once for every sound form: bytes hold a slip exactly when they are what writing makes of it.
-- Assumes nothing.
use mathlib.Core.Path.{◌≡◌, refl, sym, ap, subst, ◌∙◌}
use mathlib.Core.Bool.{Bool, true, ◌&&◌}
use mathlib.Core.List.{List, [], ◌∷◌, ◌++◌}
use mathlib.Core.Logic.{◌↔◌}
use Prim.Native.Nat.{ℕ, zero, suc, ◌+◌, ◌*◌, ◌/◌, ◌%◌, ◌^◌, ◌<◌}
use native.Mathlib.Omega.{arith}
use lib.Dec.{ltb, eqb}
use lib.ListN.{length, take, drop, replicate}
use borrow.Author.Tests.{ltb-true, eqb-true, eq-eqb}
use Rattle.shape.specs.Bits.{joined, total, cut}
use Rattle.shape.specs.Bytes.{every}
use Rattle.shape.proofs.Bits.{widths, Small, cut-joined, joined-cut, joined_small}
use Rattle.shape.proofs.Tests.{and_left, and_right}
use Rattle.slip.specs.declared.Slip.{Slip}
use Rattle.slip.specs.Meaning.{Measures, is_slip_in}
use Rattle.slip.specs.Image.{byte_wide, are_bytes, byte_fields, values, spare_widths, spare_fields, widths_in, fields_in}
use Rattle.slip.specs.Image.{Fits, number_in, bytes_in, image_in, slip_from, held_in, spare_zero, bytes_number}
use Rattle.slip.specs.Answers.{holds_in}
use Rattle.slip.proofs.Small.{Sound, slip-fits, fields-small}

bytes_small : (s : List ℕ) → are_bytes s ≡ true → Small (byte_fields s)
bytes_small [] e = tt
bytes_small (b ∷ s) e =
    (ltb-true b (2 ^ byte_wide) (and_left (ltb b (2 ^ byte_wide)) (are_bytes s) e), bytes_small s (and_right (ltb b (2 ^ byte_wide)) (are_bytes s) e))

byte-widths : (s : List ℕ) → widths (byte_fields s) ≡ replicate (length s) byte_wide
byte-widths [] = refl
byte-widths (b ∷ s) = ap (λ (ws : List ℕ). byte_wide ∷ ws) (byte-widths s)

byte-values : (s : List ℕ) → values (byte_fields s) ≡ s
byte-values [] = refl
byte-values (b ∷ s) = ap (λ (t : List ℕ). b ∷ t) (byte-values s)

-- so many bytes have eight times as many bits
bytes-total : (k : ℕ) → total (replicate k byte_wide) ≡ k * byte_wide
bytes-total zero = refl
bytes-total (suc k) = ap (λ (n : ℕ). byte_wide + n) (bytes-total k) ∙ omega arith

-- what is cut into bytes has so many, and they are its fields
cut-length : (k n : ℕ) → length (values (cut (replicate k byte_wide) n)) ≡ k
cut-length zero n = refl
cut-length (suc k) n = ap suc (cut-length k n)

-- so a slip has as many bytes in a form as that has
pub image-long : (form : Measures) (s : Slip) → length (image_in form s) ≡ form.long
image-long form s = cut-length form.long (number_in form s)

cut-fields : (k n : ℕ) → byte_fields (values (cut (replicate k byte_wide) n)) ≡ cut (replicate k byte_wide) n
cut-fields zero n = refl
cut-fields (suc k) n =
    ap (λ (fs : List (ℕ × ℕ)). (byte_wide, n / 2 ^ total (replicate k byte_wide) % 2 ^ byte_wide) ∷ fs) (cut-fields k n)

-- the bits after the values: their width, that they are zero in the number of a slip, and that they are its field where they are zero
spare-widths : (n : ℕ) → widths (spare_fields n) ≡ spare_widths n
spare-widths zero = refl
spare-widths (suc n) = refl

spare-zeros : (n : ℕ) → every (λ (v : ℕ). eqb v 0) (values (spare_fields n)) ≡ true
spare-zeros zero = refl
spare-zeros (suc n) = refl

spare-cut : (k n : ℕ) → every (λ (v : ℕ). eqb v 0) (values (cut (spare_widths k) n)) ≡ true → spare_fields k ≡ cut (spare_widths k) n
spare-cut zero n e = refl
spare-cut (suc k) n e =
    ap {B = List (ℕ × ℕ)} (λ (v : ℕ). (suc k, v) ∷ []) (sym (eqb-true (n / 2 ^ 0 % 2 ^ suc k) 0 (and_left (eqb (n / 2 ^ 0 % 2 ^ suc k) 0) true e)))

both : (t u : Bool) → t ≡ true → u ≡ true → (t && u) ≡ true
both t u p q = rw (p, q)

module _ (form : Measures) (sound : Sound form) where
  -- the bits of a slip are those of its bytes
  all-bits : total (widths_in form) ≡ total (replicate form.long byte_wide)
  all-bits = sound.filled ∙ sym (bytes-total form.long)

  fields-widths : (s : Slip) → widths (fields_in form s) ≡ widths_in form
  fields-widths s = ap (λ (ws : List ℕ). take 6 (widths_in form) ++ ws) (spare-widths form.spare)

  -- what is joined is cut out again
  fields_back : (s : Slip) → Fits form.widths s → cut (widths_in form) (number_in form s) ≡ fields_in form s
  fields_back s fits =
      subst (λ (ws : List ℕ). cut ws (number_in form s) ≡ fields_in form s) (fields-widths s)
      (cut-joined 0 (fields_in form s) (fields-small form s fits))

  number_small : (s : Slip) → Fits form.widths s → number_in form s < 2 ^ total (replicate form.long byte_wide)
  number_small s fits =
      subst (λ (k : ℕ). number_in form s < 2 ^ k) (ap total (fields-widths s) ∙ all-bits)
      (joined_small (fields_in form s) (fields-small form s fits))

  -- the bytes of a number hold it
  number-held : (n : ℕ) → n < 2 ^ total (replicate form.long byte_wide) → bytes_number (bytes_in form n) ≡ n
  number-held n h = ap (joined 0) (cut-fields form.long n) ∙ joined-cut (replicate form.long byte_wide) n h

  -- the bytes of values that fit their fields hold them, be they a slip's or not
  pub image-back : (f : Slip) → Fits form.widths f → held_in form (bytes_number (image_in form f)) ≡ f
  image-back f fits =
      ap (held_in form) (number-held (number_in form f) (number_small f fits))
      ∙ ap (λ (fs : List (ℕ × ℕ)). slip_from (values fs)) (fields_back f fits)

  image-zeros : (f : Slip) → Fits form.widths f → spare_zero form (bytes_number (image_in form f)) ≡ true
  image-zeros f fits =
      ap (spare_zero form) (number-held (number_in form f) (number_small f fits))
      ∙ ap (λ (fs : List (ℕ × ℕ)). every (λ (v : ℕ). eqb v 0) (values (drop 6 fs))) (fields_back f fits)
      ∙ spare-zeros form.spare

  -- a number with zero bits after its values is the number of its values
  number-back : (n : ℕ) → n < 2 ^ total (widths_in form) → spare_zero form n ≡ true → number_in form (held_in form n) ≡ n
  number-back n h e =
      ap (λ (rest : List (ℕ × ℕ)). joined 0 (take 6 (cut (widths_in form) n) ++ rest)) (spare-cut form.spare n e)
      ∙ joined-cut (widths_in form) n h

  -- a number of bytes has no more bits than they
  bytes_low : (s : List ℕ) → are_bytes s ≡ true → length s ≡ form.long → bytes_number s < 2 ^ total (widths_in form)
  bytes_low s e l =
      subst (λ (k : ℕ). bytes_number s < 2 ^ k) (ap total (byte-widths s) ∙ ap (λ (k : ℕ). total (replicate k byte_wide)) l ∙ sym all-bits)
      (joined_small (byte_fields s) (bytes_small s e))

  bytes_cut : (s : List ℕ) → are_bytes s ≡ true → length s ≡ form.long → bytes_in form (bytes_number s) ≡ s
  bytes_cut s e l =
      ap values (subst (λ (ws : List ℕ). cut ws (bytes_number s) ≡ byte_fields s) (byte-widths s ∙ ap (λ (k : ℕ). replicate k byte_wide) l)
      (cut-joined 0 (byte_fields s) (bytes_small s e)))
      ∙ byte-values s

  -- bytes with zero bits after their values are the bytes of these values
  bytes_back : (s : List ℕ) → are_bytes s ≡ true → length s ≡ form.long → spare_zero form (bytes_number s) ≡ true
      → image_in form (held_in form (bytes_number s)) ≡ s
  bytes_back s e l z = ap (bytes_in form) (number-back (bytes_number s) (bytes_low s e l) z) ∙ bytes_cut s e l

  -- the bytes of a slip are a slip
  pub image_holds : (f : Slip) → is_slip_in form f ≡ true → holds_in form (image_in form f) ≡ true
  image_holds f e =
      let fits = slip-fits form sound f e in
      let n = bytes_number (image_in form f) in
      both (eqb (length (image_in form f)) form.long) (spare_zero form n && is_slip_in form (held_in form n))
      (eq-eqb (length (image_in form f)) form.long (image-long form f))
      (both (spare_zero form n) (is_slip_in form (held_in form n)) (image-zeros f fits)
      (subst (λ (v : Slip). is_slip_in form v ≡ true) (sym (image-back f fits)) e))

  -- the theorem: bytes hold f exactly when f is a slip and they are its image
  pub holds-exactly : (s : List ℕ) (f : Slip) → are_bytes s ≡ true
      → ((holds_in form s ≡ true) × (held_in form (bytes_number s) ≡ f)) ↔ ((is_slip_in form f ≡ true) × (s ≡ image_in form f))
  holds-exactly s f e = (
    λ h.
        let n = bytes_number s in
        let long = eqb-true (length s) form.long
        (and_left (eqb (length s) form.long) (spare_zero form n && is_slip_in form (held_in form n)) h.0) in
        let rest = and_right (eqb (length s) form.long) (spare_zero form n && is_slip_in form (held_in form n)) h.0 in (
          subst (λ (v : Slip). is_slip_in form v ≡ true) h.1 (and_right (spare_zero form n) (is_slip_in form (held_in form n)) rest),
          sym (bytes_back s e long (and_left (spare_zero form n) (is_slip_in form (held_in form n)) rest)) ∙ ap (image_in form) h.1,
        ),
    λ h. (
      subst (λ (t : List ℕ). holds_in form t ≡ true) (sym h.1) (image_holds f h.0),
      ap (λ (t : List ℕ). held_in form (bytes_number t)) h.1 ∙ image-back f (slip-fits form sound f h.0),
    ),
  )
