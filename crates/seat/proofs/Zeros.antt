-- Zeros with a head in front are a closed seat.
-- Assumes nothing.
use mathlib.Core.Path.{◌≡◌, refl, ap, ◌∙◌}
use mathlib.Core.List.{List}
use Prim.Native.Nat.{ℕ}
use lib.ListN.{length, replicate}
use Rattle.layout.specs.Parts.{put}
use Rattle.layout.specs.Rows.{head_row}
use Rattle.layout.specs.Seat.{seat_long, with_head}
use Rattle.seat.specs.Fit.{closed_seat}

pub seat-zeros : (s z : List ℕ) → length s ≡ seat_long → z ≡ replicate (length s) 0 → z ≡ replicate seat_long 0
seat-zeros s z l e = e ∙ ap (λ (n : ℕ). replicate n 0) l

closed-head : (opening : ℕ) → with_head (replicate seat_long 0) (record { opening = opening; opened = 0; steps = 0 }) ≡ closed_seat opening
unfolding with_head put head_row closed_seat
closed-head opening = refl

pub closed-made : (s : List ℕ) (opening : ℕ) → s ≡ replicate seat_long 0
    → with_head s (record { opening = opening; opened = 0; steps = 0 }) ≡ closed_seat opening
closed-made s opening e =
    ap (λ (t : List ℕ). with_head t (record { opening = opening; opened = 0; steps = 0 })) e ∙ closed-head opening
