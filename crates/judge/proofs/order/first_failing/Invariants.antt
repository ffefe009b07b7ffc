-- In every turn the verdict is the first failing check of what is left of the order.
use mathlib.Core.Path.{◌≡◌}
use lib.ListN.{drop}
use Rattle.judge.specs.Verdict.{fails, first_failing, verdict}
use Rattle.judge.proofs.order.first_failing.Given as goal

abbrev pub invariant-loop-check : goal.invariant-loop-check
invariant-loop-check l = verdict l.fn.c l.fn.s ≡ first_failing (fails l.fn.c l.fn.s) (drop l.check-index l.check-items)
