-- Each turn passes one byte that is no zero, and leaves the rest to count.
use Rattle.std.proofs.Common.{◌≡◌, ◌+◌, length}
use lib.ListN.{drop}
use Rattle.shape.specs.Stored.{before_zero}
use Rattle.shape.proofs.stored.before_zero.Given as goal

abbrev pub invariant-loop-i : goal.invariant-loop-i
invariant-loop-i l = length (before_zero l.fn.s) ≡ l.i + length (before_zero (drop l.i l.fn.s))
