-- The first bad field is among those from the k-th on.
use Rattle.message.proofs.Turns.{Left}
use Rattle.message.proofs.seen.Seen.first_bad.Given as goal

abbrev pub invariant-loop-k : goal.invariant-loop-k
invariant-loop-k l = Left l.self.sheet.now l.self.kind l.self.counts.now l.self.starts.now l.k
