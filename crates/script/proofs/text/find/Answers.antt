-- The closure computes the test of the run.
use Rattle.std.proofs.Common.{rules, ℕ, not, nat_eq}
use Rattle.script.specs.Places.{found}
use Rattle.script.proofs.text.find.Goals as goal

pub returns : goal.returns
unfolding found
returns c = c.run_end.ensures (λ (other : ℕ). not (nat_eq other c.args.b)) (λ b r h e. search rules)
