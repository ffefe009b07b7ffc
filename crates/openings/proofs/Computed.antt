-- The cases of an opening hold because every call, worked out, gives what stands beside it. They are worked out case by case, and then joined.
-- Assumes nothing.
use mathlib.Core.List.{map}
use mathlib.Core.Path.{◌≡◌, refl}
use Rattle.seat.specs.Fit.{open_account}
use Rattle.cases.specs.Cases.{Case, Line, started, played}
use Rattle.cases.proofs.Opened.{opened}
use Rattle.openings.specs.Openings.{
  both,
  received,
  from_nothing,
  set_first,
  at_settling,
  table,
  with_accounts,
  former,
  in_former,
  played_in,
  Openings,
}

both_so : played both ≡ both.answers
unfolding opened
both_so = refl

received-so : played received ≡ received.answers
unfolding opened
received-so = refl

from-nothing-so : played from_nothing ≡ from_nothing.answers
unfolding opened
from-nothing-so = refl

set-first-so : played set_first ≡ set_first.answers
unfolding opened
set-first-so = refl

at-settling-so : played at_settling ≡ at_settling.answers
unfolding opened
at-settling-so = refl

table-holds : map played table ≡ map (λ (case : Case). case.answers) table
table-holds = rw (both_so, received-so, from-nothing-so, set-first-so, at-settling-so)

as-opened : with_accounts open_account ≡ started
unfolding opened
as-opened = refl

former-unfit : played_in former in_former ≡ map (λ (line : Line). line.1) in_former
unfolding opened
former-unfit = refl

pub openings : Openings
openings = record { table-holds = table-holds; as-opened = as-opened; former-unfit = former-unfit }
