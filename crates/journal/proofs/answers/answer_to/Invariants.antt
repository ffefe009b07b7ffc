-- The answer is the one that is found among the steps that are left.
use Rattle.std.proofs.Common.{◌≡◌, ◌-◌}
use Rattle.journal.specs.Answers.{answer_from, answer_to}
use Rattle.journal.proofs.answers.answer_to.Given as goal

abbrev pub invariant-loop-j : goal.invariant-loop-j
invariant-loop-j l = answer_to l.s l.k ≡ answer_from l.s l.number l.j (l.j-end - l.j)
