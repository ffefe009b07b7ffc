-- A turn carries the remainder one character further.
use mathlib.Core.Path.{◌∙◌}
use native.Mathlib.Omega.{arith}
use native.Mathlib.Nat.{mod-eq_of_lt}
use Rattle.remainder.proofs.Carry.{carry-turn, carry-end}
use Rattle.remainder.proofs.through.Goals as goal

pub loop-b-preserved : goal.loop-b-preserved
loop-b-preserved c =
    (rw c.next-at.ensures (omega arith), c.loop-b.invariant.1 ∙ carry-turn c.args.s.now c.loop-b.b-index c.loop-b.at.remainder (omega arith) ∙ rw c.next-at.ensures)

pub returns : goal.returns
returns c =
    rw (c.loop-b.invariant.1, carry-end c.args.s.now c.loop-b.b-index c.loop-b.at.remainder (omega arith), mod-eq_of_lt c.loop-b.invariant.0)
