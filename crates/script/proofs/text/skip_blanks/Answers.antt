-- The test of the run is the function that was passed.
use Rattle.std.proofs.Common.{rules}
use Rattle.script.specs.Places.{is_blank, skip_blanks}
use Rattle.script.proofs.text.skip_blanks.Goals as goal

pub returns : goal.returns
unfolding skip_blanks
returns c = c.run_end.ensures is_blank (λ b r h e. search rules)
