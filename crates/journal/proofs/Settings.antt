-- A step leaves settings that fit: they stay, or are those that a set gives. Settings that were never given, all zeros, fit as well.
-- Assumes nothing.
use mathlib.Core.Path.{◌≡◌, refl}
use mathlib.Core.Bool.{Bool, true, false, cond}
use Prim.Native.Nat.{ℕ}
use lib.Dec.{eqb}
use Rattle.layout.specs.declared.rows.Account.{Account}
use Rattle.layout.specs.declared.rows.Step.{Step}
use Rattle.journal.specs.Steps.{settings_fit, step_fits, no_settings}
use Rattle.journal.specs.Working.{settled, debited, credited, turned}
use Rattle.journal.proofs.StepLaws.{set_given}
use Rattle.journal.proofs.Changed.{Sort, sets, rests, turns, transfers, after}

-- settings stay, or are those that a set gives
pub after-settings : (x : Step) (j : ℕ) (a : Account) → step_fits x ≡ true → settings_fit a.settings ≡ true → Sort x
    → settings_fit (after x j a).settings ≡ true
unfolding after
after-settings x j a e p (sets k b) = rw k (go (eqb x.account j))
  where
    go : (t : Bool) → settings_fit (cond t (settled x.given a) a).settings ≡ true
    go true = set_given x e k
    go false = p
after-settings x j a e p (rests k n) = rw (k, n) p
after-settings x j a e p (turns k n q b m) = rw (k, n, q) (go (eqb x.debit j))
  where
    go : (t : Bool) → settings_fit (cond t (turned x.amount a) a).settings ≡ true
    go true = p
    go false = p
after-settings x j a e p (transfers k n q b c m) = rw (k, n, q) (go (eqb x.credit j) (eqb x.debit j))
  where
    go : (t u : Bool)
        → settings_fit (cond t (credited x.amount (cond u (debited x.amount a) a)) (cond u (debited x.amount a) a)).settings ≡ true
    go true true = p
    go true false = p
    go false true = p
    go false false = p

pub no-settings-fit : settings_fit no_settings ≡ true
unfolding settings_fit
no-settings-fit = refl
