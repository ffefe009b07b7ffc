-- What a seat is compared by: two lists of numbers, and a list of zeros.
-- Assumes nothing.
use Rattle.std.specs.Prelude.{nat_eq}
use Rattle.std.specs.Cmp.Lexicographic.{pointwise}
use mathlib.Core.Path.{◌≡◌, refl, ap, subst}
use mathlib.Core.Bool.{Bool, false, ◌&&◌}
use mathlib.Core.List.{List, [], ◌∷◌}
use Prim.Native.Nat.{ℕ, suc, ◌-◌, ◌≤◌, ◌<◌}
use native.Mathlib.Omega.{arith}
use lib.Dec.{eqb}
use lib.ListN.{length, get_or, take, drop, replicate}
use lib.Seq.{take_all}
use borrow.Author.Tests.{eq-eqb, le-leb, lt-leb}
use Rattle.shape.specs.Bytes.{every}
use Rattle.shape.proofs.Tests.{and-false}
use Rattle.slip.specs.Meaning.{openings}
use Rattle.layout.specs.Parts.{part}
use Rattle.layout.specs.Rows.{head_row, head_in}
use Rattle.layout.specs.Seat.{seat_long, head_of}
use Rattle.seat.specs.Fit.{same, closed_seat, closed_fits}

-- two lists are the same where they are number by number
pub same-pointwise : (s t : List ℕ) → pointwise nat_eq s t ≡ same s t
unfolding same
same-pointwise [] [] = refl
same-pointwise [] (b ∷ t) = refl
same-pointwise (a ∷ s) [] = refl
same-pointwise (a ∷ s) (b ∷ t) = ap (λ (rest : Bool). eqb a b && rest) (same-pointwise s t)

-- lists of different lengths are not the same
pub unlike : (s t : List ℕ) → (length s ≡ length t → ⊥) → same s t ≡ false
unfolding same
unlike [] [] h = absurd (h refl)
unlike [] (b ∷ t) h = refl
unlike (a ∷ s) [] h = refl
unlike (a ∷ s) (b ∷ t) h = and-false (eqb a b) (same s t) (unlike s t (λ e. h (ap suc e)))

-- a list is the same as that many zeros where each of its numbers is zero
abbrev pub is_zero : ℕ → Bool
is_zero n = eqb n 0

zeros : (s : List ℕ) → same s (replicate (length s) 0) ≡ every is_zero s
unfolding same
zeros [] = refl
zeros (a ∷ s) = rw (zeros s)

-- the first number of a seat is its opening
pub first-number : (s : List ℕ) → (head_of s).opening ≡ get_or s 0 0
unfolding head_of head_in part
first-number [] = refl
first-number (a ∷ s) = refl

closed-zeros : (a : ℕ) (s : List ℕ) → length s ≡ seat_long - 1 → same (a ∷ s) (closed_seat a) ≡ every is_zero s
unfolding same closed_seat head_row
closed-zeros a s l =
    rw (eq-eqb a a refl) (subst (λ (n : ℕ). same s (replicate n 0) ≡ every is_zero s) l (zeros s))

-- a closed seat has only zeros behind its first number
pub closed-rest : (s : List ℕ) → length s ≡ seat_long → same s (closed_seat (get_or s 0 0)) ≡ every is_zero (drop 1 s)
closed-rest [] l = absurd (omega (arith, l))
closed-rest (a ∷ s) l = closed-zeros a s (omega (arith, l))

pub rest-whole : (s : List ℕ) → take (length s - 1) (drop 1 s) ≡ drop 1 s
rest-whole [] = refl
rest-whole (a ∷ s) = take_all (length (a ∷ s) - 1) s (omega arith)

module _ (s : List ℕ) where
  pub closed-high : openings < get_or s 0 0 → false ≡ closed_fits s
  unfolding closed_fits
  closed-high h = rw (first-number s, lt-leb (get_or s 0 0) openings h)

  pub closed-by : (b : Bool) → length s ≡ seat_long → get_or s 0 0 ≤ openings → every is_zero (drop 1 s) ≡ b → b ≡ closed_fits s
  unfolding closed_fits
  closed-by b l h e = rw (first-number s, le-leb (get_or s 0 0) openings h, closed-rest s l, e)
