-- A payment that is found stands at a place that a journal has.
use mathlib.Core.Path.{ap, ◌∙◌}
use Rattle.journal.specs.Traces.{place_fits}
use Rattle.judge.proofs.Ends.{asked-within}
use Rattle.judge.proofs.outcome.end_of.Goals as goal

pub told_of-requires : goal.told_of-requires
told_of-requires c = (c.requires.0, c.requires.1, ap place_fits c.asked_after.ensures ∙ asked-within c.args.c c.args.s.now c.requires.1)
