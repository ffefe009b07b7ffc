-- What opening, setting and taking back ask of the functions that they call, from the seat's fitness and the tests that were passed.
-- Assumes nothing.
use Rattle.std.specs.Prelude.{Option, Some}
use mathlib.Core.Path.{◌≡◌, sym, ap, subst}
use mathlib.Core.Bool.{true, false}
use mathlib.Core.List.{List}
use Prim.Native.Nat.{ℕ, ◌≤◌, ◌<◌}
use native.Mathlib.Omega.{arith}
use lib.ListN.{length}
use Rattle.slip.specs.Meaning.{openings, steps}
use Rattle.directory.specs.declared.Listed.{Listed}
use Rattle.layout.specs.declared.rows.Settings.{Settings}
use Rattle.layout.specs.declared.rows.Account.{Account}
use Rattle.layout.specs.declared.rows.Head.{Head}
use Rattle.layout.specs.declared.rows.Step.{Step}
use Rattle.layout.specs.Seat.{accounts, seat_long, head_of, account_of}
use Rattle.journal.specs.Low.{Low}
use Rattle.journal.specs.Steps.{settings_fit, step_fits}
use Rattle.journal.specs.Working.{last_step}
use Rattle.seat.specs.Fit.{open_fits, seat_fits}
use Rattle.seat.specs.Calls.{no_ticket, account_found, place_fits, set_step}
use Rattle.seat.proofs.Forward.{open-fits, fit_low}
use Rattle.seat.proofs.Reached.{fit-last, fit-settings}
use Rattle.seat.proofs.Answered.{ticket-good}
use Rattle.seat.proofs.Kept.{fit-open, fit-number}
use Rattle.seat.proofs.Named.{account-found-low, set-step-fits}

-- one opening more fits its type
pub opening-low : (s : List ℕ) → seat_fits s ≡ true → (h : Head) → h ≡ head_of s → h.opening ≤ openings
opening-low s f h e = subst (λ (x : Head). x.opening ≤ openings) (sym e) (fit-number s f)

module _ (opening : ℕ) (s : List ℕ) (l : length s ≡ seat_long) (f : seat_fits s ≡ true) (t : no_ticket opening s ≡ false)
    (h : Head) (e : h ≡ head_of s) where
  fits : open_fits s ≡ true
  fits = fit-open s f (ticket-good opening s t).0

  count : h.steps ≡ (head_of s).steps
  count = ap (λ (x : Head). x.steps) e

  -- take back
  pub back-asks : (h.steps ≡ 0 → ⊥)
      → Low s × (step_fits (last_step s) ≡ true) × (1 ≤ (head_of s).steps) × ((head_of s).steps ≤ steps)
  back-asks q =
      let same : h.steps ≡ (head_of s).steps = count in
      let some : 1 ≤ (head_of s).steps = omega (arith, q, same) in
      (fit_low s l fits, fit-last s l fits some, some, (open-fits s fits).count)

  -- set
  pub set-asks : (owner : Option Listed) (number : ℕ) (given : Settings) → settings_fit given ≡ true
      → place_fits owner ≡ true → (h.steps ≡ steps → ⊥) → (i : ℕ) → account_found owner number ≡ Some i → (a : Account) → a ≡ account_of s i
      → (x : Step) → x ≡ set_step i a.settings given
      → Low s × (step_fits x ≡ true) × ((head_of s).steps < steps)
  set-asks owner number given b p q i m a k x y =
      let same : h.steps ≡ (head_of s).steps = count in
      let few : (head_of s).steps ≤ steps = (open-fits s fits).count in
      let within : i < accounts = account-found-low owner number i p m in
      let old : settings_fit a.settings ≡ true =
      subst (λ (c : Account). settings_fit c.settings ≡ true) (sym k) (fit-settings s l fits i within) in (
        fit_low s l fits,
        subst (λ (z : Step). step_fits z ≡ true) (sym y)
            (set-step-fits i a.settings given within old b),
        omega (arith, q, same, few),
      )
