-- Six bytes stay far below the width.
use native.Mathlib.Omega.{arith}
use Rattle.slip.proofs.Bytes.{bytes-few}
use Rattle.slip.proofs.number_in.Goals as goal

pub overflow_mul-n : goal.overflow_mul-n
overflow_mul-n c = omega (arith, bytes-few c.loop-b.b-index c.loop-b.n (omega arith) c.loop-b.invariant.1)

pub overflow_add-n : goal.overflow_add-n
overflow_add-n c = omega (arith, bytes-few c.loop-b.b-index c.loop-b.n (omega arith) c.loop-b.invariant.1)
