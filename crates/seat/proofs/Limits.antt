-- The settings that an account opens with: none at all where its sum is 0, and such as fit where the sum is one.
-- Assumes nothing.
use Rattle.std.specs.Prelude.{Some, None}
use mathlib.Core.Path.{◌≡◌}
use mathlib.Core.Bool.{Bool, true, false, cond}
use Prim.Native.Nat.{ℕ, ◌+◌, ◌≤◌}
use native.Mathlib.Omega.{arith}
use lib.Dec.{eqb}
use borrow.Author.Tests.{le-leb}
use Rattle.journal.specs.Steps.{sum_most, settings_fit}
use Rattle.journal.proofs.Settings.{no-settings-fit}
use Rattle.seat.specs.Settings.{limit_number, settings_of, opening_limit, opening_settings}

pub opening-settings-fit : (sum : ℕ) → sum ≤ sum_most → settings_fit (opening_settings sum) ≡ true
unfolding opening_settings opening_limit settings_of limit_number settings_fit
opening-settings-fit sum most = go (eqb sum 0)
  where
    above : sum + 1 ≤ sum_most + 1
    above = omega arith

    go : (zero : Bool) → settings_fit (record { out = 0; into = 0; ltk = 0; lpo = limit_number (cond zero None (Some sum)) }) ≡ true
    go true = no-settings-fit
    go false = rw (le-leb sum sum_most most) (le-leb (sum + 1) (sum_most + 1) above)
