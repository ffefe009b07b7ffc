use Rattle.std.proofs.Common.{drop}
use Rattle.lister.proofs.Written.{Still}
use Rattle.lister.proofs.writer.put_all.Given as goal

-- the bytes from here on are what is still to be written
abbrev pub invariant-loop-b : goal.invariant-loop-b
invariant-loop-b l = Still l.initial.out l.initial.at l.text l.out l.at (drop l.b-index l.text)
