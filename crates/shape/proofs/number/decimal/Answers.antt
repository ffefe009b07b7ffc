-- Fourteen digits stay far below the width.
use native.Mathlib.Omega.{arith}
use Rattle.shape.proofs.Loops.{decimal-small}
use Rattle.shape.proofs.number.decimal.Goals as goal

pub overflow_mul-n : goal.overflow_mul-n
overflow_mul-n c = omega (arith, decimal-small c.loop-b.b-index c.loop-b.n (omega arith) c.loop-b.invariant.1)

pub overflow_add-n : goal.overflow_add-n
overflow_add-n c = omega (arith, decimal-small c.loop-b.b-index c.loop-b.n (omega arith) c.loop-b.invariant.1)

pub returns-clause-upper_bound : goal.returns-clause-upper_bound
returns-clause-upper_bound c = decimal-small c.loop-b.b-index c.loop-b.n (omega arith) c.loop-b.invariant.1
