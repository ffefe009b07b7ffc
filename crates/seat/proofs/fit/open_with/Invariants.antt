-- After each turn the seat is opened with the sums so far, since an account without a sum is all zeros.
use mathlib.Core.Path.{◌≡◌}
use lib.ListN.{length, take}
use Rattle.layout.specs.Seat.{seat_long}
use Rattle.seat.specs.Fit.{open_seat}
use Rattle.seat.proofs.fit.open_with.Given as goal

abbrev pub invariant-loop-i : goal.invariant-loop-i
invariant-loop-i l = (length l.s ≡ seat_long) × (l.s ≡ open_seat l.fn.opening (take l.i l.fn.sums))
