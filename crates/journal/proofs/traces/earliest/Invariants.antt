-- What is found is what is found in the steps that are left.
use Rattle.std.proofs.Common.{◌≡◌, ◌-◌}
use Rattle.journal.specs.Working.{steps_from}
use Rattle.journal.specs.Traces.{leaves, first_in, earliest}
use Rattle.journal.proofs.traces.earliest.Given as goal

abbrev pub invariant-loop-place : goal.invariant-loop-place
invariant-loop-place l = earliest l.trace l.s ≡ first_in (leaves l.trace l.s) l.place (steps_from l.s l.place (l.place-end - l.place))
