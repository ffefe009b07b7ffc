use Rattle.paths.proofs.Walked.{Walked}
use Rattle.paths.proofs.walk.Given as goal

-- in every turn what is left makes what was noted whole, and the stack has the node of each open element
abbrev pub invariant-loop-k : goal.invariant-loop-k
invariant-loop-k l = Walked l.s l.sheet.count l.sheet.starts l.sheet.depths l.stack l.level l.bodies l.counts l.starts l.k
