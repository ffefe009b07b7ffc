-- What the calls of a seat ask for, once its fitness was tested.
-- Assumes nothing.
use mathlib.Core.Path.{◌≡◌, sym, ap, ◌∙◌}
use mathlib.Core.Bool.{Bool, true}
use mathlib.Core.List.{List}
use Prim.Native.Nat.{ℕ, ◌<◌, ◌≤◌}
use native.Mathlib.Omega.{arith}
use lib.ListN.{length}
use Rattle.slip.specs.Meaning.{steps}
use Rattle.layout.specs.declared.rows.Head.{Head}
use Rattle.layout.specs.declared.rows.Step.{Step}
use Rattle.layout.specs.Seat.{seat_long, head_of}
use Rattle.journal.specs.Steps.{step_fits}
use Rattle.journal.specs.Working.{possible}
use Rattle.journal.specs.Low.{Low}
use Rattle.journal.proofs.Backed.{possible-fits}
use Rattle.seat.specs.Fit.{seat_fits}
use Rattle.seat.proofs.Kept.{fit-long, fit-open}
use Rattle.seat.proofs.Forward.{fit_low}

module _ (s : List ℕ) (b : Bool) (e : b ≡ seat_fits s) (t : b ≡ true) where
  pub fits : seat_fits s ≡ true
  fits = sym e ∙ t

  pub long : length s ≡ seat_long
  long = fit-long s fits

  -- to ask whether a step is possible
  pub possible-asks : (h : Head) → h ≡ head_of s → h.steps < steps → (length s ≡ seat_long) × ((head_of s).steps ≤ steps)
  possible-asks h k few =
      let count : h.steps ≡ (head_of s).steps = ap (λ (y : Head). y.steps) k in (long, omega (arith, count, few))

  -- to record a step
  pub step-asks : (h : Head) → h ≡ head_of s → h.opened ≡ 1 → h.steps < steps → (x : Step) (p : Bool) → p ≡ possible x s → p ≡ true
      → Low s × (step_fits x ≡ true) × ((head_of s).steps < steps)
  step-asks h k o few x p q n =
      let count : h.steps ≡ (head_of s).steps = ap (λ (y : Head). y.steps) k in (
        fit_low s long (fit-open s fits (sym (ap (λ (y : Head). y.opened) k) ∙ o)),
        possible-fits x s (sym q ∙ n),
        omega (arith, count, few),
      )
