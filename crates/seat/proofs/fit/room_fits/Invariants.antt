-- The room is fit as far as the seats that are left are.
use mathlib.Core.Path.{◌≡◌}
use Prim.Native.Nat.{◌-◌}
use Rattle.slip.specs.Meaning.{seats}
use Rattle.seat.specs.Fit.{room_fits, seats_fit}
use Rattle.seat.proofs.fit.room_fits.Given as goal

abbrev pub invariant-loop-k : goal.invariant-loop-k
invariant-loop-k l = room_fits l.fn.r ≡ seats_fit l.fn.r l.k (seats - l.k)
