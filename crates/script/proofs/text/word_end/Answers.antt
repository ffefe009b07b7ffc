-- The closure computes the test of the run.
use Rattle.std.proofs.Common.{rules, ℕ, not}
use Rattle.script.specs.Places.{is_blank, word_end}
use Rattle.script.proofs.text.word_end.Goals as goal

pub returns : goal.returns
unfolding word_end
returns c = c.run_end.ensures (λ (b : ℕ). not (is_blank b)) (λ b r h e. search rules)
