-- What is gathered so far and then the rest is the whole.
use Rattle.std.proofs.Common.{◌≡◌, drop}
use Rattle.directory.specs.Gathering.{gathered_from, gathered}
use Rattle.directory.proofs.gather.Given as goal

abbrev pub invariant-loop-p : goal.invariant-loop-p
invariant-loop-p l = record {
  counted : l.out.count ≡ l.p-index;
  so_far : gathered l.dir ≡ gathered_from l.out (drop l.p-index l.dir);
}
