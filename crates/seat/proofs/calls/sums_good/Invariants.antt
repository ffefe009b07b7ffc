-- What is left of the records and of the sums passes as all of them do, and each record that is left has its two.
use Rattle.std.proofs.Common.{◌≡◌, length}
use Prim.Native.Nat.{◌*◌}
use Rattle.seat.specs.Calls.{sums_good}
use Rattle.seat.proofs.calls.sums_good.Given as goal

abbrev pub invariant-loop-p : goal.invariant-loop-p
invariant-loop-p l =
    (l.p-iterator.b.size ≡ 2)
    × (length l.p-iterator.b.rest.now ≡ 2 * length l.p-iterator.a.rest.now)
    × (sums_good l.fn.dir l.fn.sums ≡ sums_good l.p-iterator.a.rest.now l.p-iterator.b.rest.now)
