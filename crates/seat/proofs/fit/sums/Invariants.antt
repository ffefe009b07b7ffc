-- What was read so far, and then what is left to read, are the sums.
use mathlib.Core.Path.{◌≡◌}
use mathlib.Core.List.{◌++◌}
use Prim.Native.Nat.{◌-◌}
use lib.ListN.{length, take}
use Rattle.layout.specs.Seat.{accounts}
use Rattle.seat.specs.Fit.{sums_from, sums_of}
use Rattle.seat.proofs.fit.sums.Given as goal

abbrev pub invariant-loop-i : goal.invariant-loop-i
invariant-loop-i l = (length l.out ≡ accounts) × (take l.i l.out ++ sums_from l.fn.s l.i (accounts - l.i) ≡ sums_of l.fn.s)
