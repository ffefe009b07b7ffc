-- What is easy to get wrong is right. A take-back gives the very numbers back; a limit of 0 is stored as 1 and none as 0, and neither is above 1.
-- That a UETR and an identifier stay used stands in `Repeats`.
-- Assumes nothing.
use Rattle.std.specs.Prelude.{Some, None}
use mathlib.Core.Path.{◌≡◌}
use mathlib.Core.Bool.{true, false}
use mathlib.Core.List.{List}
use Prim.Native.Nat.{ℕ}
use Rattle.layout.specs.declared.rows.Account.{Account}
use Rattle.layout.specs.declared.rows.Step.{Step}
use Rattle.journal.specs.Working.{stepped, backed}
use Rattle.journal.specs.Limits.{turnover_above, turnover_shut}
use Rattle.seat.specs.Settings.{limit_number}
use Rattle.journal.proofs.Backed.{back-restores}
use Rattle.seat.proofs.Reached.{fit_free}
use Rattle.seat.proofs.Kept.{fit-long, fit-open}
use Rattle.demands.specs.EasilyWrong.{Taken, EasilyWrong}
use Rattle.demands.proofs.Repeats.{uetr-found, identifier-found, uetr-kept, identifier-kept}

-- a take-back of a step that is taken
module _ (x : Step) (s : List ℕ) (t : Taken x s) where
  restored : backed (stepped x s) ≡ s
  restored =
      back-restores x s (fit-long s t.fit) t.free
      (fit_free s (fit-long s t.fit) (fit-open s t.fit t.opened) t.free) t.can

-- a limit of 0, and none
module _ (a : Account) (amount : ℕ) where
  zero-limit : a.settings.lpo ≡ limit_number (Some 0) → (turnover_shut a ≡ true) × (turnover_above a amount ≡ false)
  unfolding turnover_shut turnover_above limit_number
  zero-limit e = (rw e, rw e)

  no-limit : a.settings.lpo ≡ limit_number None → (turnover_shut a ≡ false) × (turnover_above a amount ≡ false)
  unfolding turnover_shut turnover_above limit_number
  no-limit e = (rw e, rw e)

pub easily-right : EasilyWrong
easily-right =
    record {
      uetr-kept = uetr-kept;
      identifier-kept = identifier-kept;
      uetr-stays = uetr-found;
      identifier-stays = identifier-found;
      all-restored = λ x s t. restored x s t;
      zero-shut = λ a amount e. zero-limit a amount e;
      none_free = λ a amount e. no-limit a amount e;
    }
