-- The number stays far below the width.
use Rattle.std.proofs.Common.{◌<◌, ◌^◌}
use Rattle.vectors.proofs.ask.number.Given as goal

abbrev pub invariant-loop-digit : goal.invariant-loop-digit
invariant-loop-digit l = l.n < 10 ^ 19
