-- Where it is done there are two sums for each record, so no more than accounts, and one opening number more fits.
use mathlib.Core.Path.{sym, ◌∙◌}
use native.Mathlib.Omega.{arith}
use Rattle.directory.specs.Gathering.{records_in}
use Rattle.seat.proofs.Zeros.{seat-zeros}
use Rattle.seat.proofs.Pairs.{records-few, sums-few}
use Rattle.seat.proofs.Answered.{open_done}
use Rattle.seat.proofs.Asked.{opening-low}
use Rattle.seat.proofs.calls.open_seat.Goals as goal

pub overflow_add-h : goal.overflow_add-h
overflow_add-h c = omega (arith, opening-low c.args.s.now c.requires.1 c.head-h.result c.head-h.ensures)

pub open_with-requires : goal.open_with-requires
open_with-requires c =
    let records = records_in c.args.g in
    let done = open_done records c.args.sums.now c.args.s.now (sym c.open_answer.ensures ∙ c.in_ok-open_answer.was) in
    (seat-zeros c.args.s.now c.clear.new.s c.requires.0 c.clear.ensures, sums-few records c.args.sums.now (records-few c.args.g c.requires.2) done.2)
