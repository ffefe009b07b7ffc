-- Fitness was tested, and gives what the call asks for.
use Rattle.std.proofs.Common.{rules}
use Rattle.play.proofs.Asked.{long, possible-asks, step-asks}
use Rattle.play.proofs.play_step.Goals as goal

pub head-h-requires : goal.head-h-requires
head-h-requires g c = long c.args.s.now c.seat_fits.result c.seat_fits.ensures c.if-not-seat_fits.false

pub is_possible-requires : goal.is_possible-requires
is_possible-requires g c =
    possible-asks c.args.s.now c.seat_fits.result c.seat_fits.ensures c.if-not-seat_fits.false
    _ c.head-h.ensures c.if-h-ge-STEPS.false

pub append-requires : goal.append-requires
append-requires g c =
    step-asks c.args.s.now c.seat_fits.result c.seat_fits.ensures c.if-not-seat_fits.false
    _ c.head-h.ensures (search rules) c.if-h-ge-STEPS.false _ _
    c.is_possible.ensures c.if-not-is_possible.false
