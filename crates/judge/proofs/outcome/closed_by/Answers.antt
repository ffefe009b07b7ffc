-- A transfer that is found stands at a place that a journal has.
use mathlib.Core.Path.{ap, ◌∙◌}
use Rattle.journal.specs.Traces.{place_fits}
use Rattle.judge.proofs.Ends.{due-within}
use Rattle.judge.proofs.outcome.closed_by.Goals as goal

pub step_number-requires : goal.step_number-requires
step_number-requires c = ap place_fits c.due_to.ensures ∙ due-within c.args.c c.args.s.now c.requires.1
