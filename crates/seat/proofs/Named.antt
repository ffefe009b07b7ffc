-- An account that is named is one of the seat's, and a set of it is a step that fits.
-- Assumes nothing.
use Rattle.std.specs.Prelude.{Some, None, Option}
use mathlib.Core.Path.{◌≡◌, refl, sym, subst}
use mathlib.Core.Bool.{Bool, true, false, ◌||◌, cond}
use Prim.Native.Nat.{ℕ, ◌≤◌, ◌<◌}
use native.Mathlib.Omega.{arith}
use lib.Dec.{eqb}
use borrow.Author.Tests.{ltb-true, lt-ltb, eqb-true}
use Rattle.shape.specs.Stored.{same_identifier}
use Rattle.shape.proofs.Tests.{and_right, or_cases}
use Rattle.directory.specs.declared.Listed.{Listed}
use Rattle.directory.specs.Directory.{owner_found}
use Rattle.layout.specs.declared.rows.Settings.{Settings}
use Rattle.layout.specs.Seat.{places, accounts}
use Rattle.journal.specs.Steps.{settings_fit, no_message, no_uetr, no_movement, set_fits, step_fits}
use Rattle.seat.specs.Calls.{account_named, account_number, account_found, place_fits, set_step}

module _ (owner : Option Listed) (number : ℕ) (named : account_named owner number ≡ true) where
  pub number-low : number ≤ 2
  unfolding account_named
  number-low =
      or_cases (eqb number 1) (eqb number 2) (and_right (owner_found owner) (eqb number 1 || eqb number 2) named)
      (λ (e : eqb number 1 ≡ true). omega (arith, eqb-true number 1 e))
      (λ (e : eqb number 2 ≡ true). omega (arith, eqb-true number 2 e))

  pub account-low : place_fits owner ≡ true → account_number owner number < accounts
  account-low h = go owner h
    where
      go : (f : Option Listed) → place_fits f ≡ true → account_number f number < accounts
      go (Some l) t =
          let low : l.place < places = ltb-true l.place places t in
          omega (arith, low, number-low)
      go None t = omega arith

-- an account that is found is the one that is named
pub found-is : (owner : Option Listed) (number i : ℕ) → account_found owner number ≡ Some i
    → (account_named owner number ≡ true) × (i ≡ account_number owner number)
unfolding account_found
found-is owner number i e = go (account_named owner number) refl e
  where
    go : (t : Bool) → account_named owner number ≡ t → cond t (Some (account_number owner number)) None ≡ Some i
        → (account_named owner number ≡ true) × (i ≡ account_number owner number)
    go true named f = (named, cc)
    go false named f = let z : ◌≡◌ {A = ℕ} 0 1 = cc in absurd (omega arith)

-- and one of the seat's
pub account-found-low : (owner : Option Listed) (number i : ℕ) → place_fits owner ≡ true → account_found owner number ≡ Some i → i < accounts
account-found-low owner number i p e =
    let is = found-is owner number i e in
    subst (λ (j : ℕ). j < accounts) (sym is.1) (account-low owner number is.0 p)

-- a set of an account from settings that fit to settings that fit
pub set-step-fits : (account : ℕ) (old given : Settings) → account < accounts → settings_fit old ≡ true → settings_fit given ≡ true
    → step_fits (set_step account old given) ≡ true
unfolding step_fits set_fits no_message no_uetr no_movement same_identifier
set-step-fits account old given h o g = rw (lt-ltb account accounts h, o, g)
