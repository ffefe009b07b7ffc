-- Each turn leaves what comes out as it was, with one step less to go; a seat that was worked forward so far has no high numbers.
use Rattle.seat.proofs.Turns.{Worked}
use Rattle.seat.proofs.fit.works_out.Given as goal

abbrev pub invariant-loop-k : goal.invariant-loop-k
invariant-loop-k l = Worked l.fn.s l.fn.opening l.fn.count l.fn.given l.t l.k
