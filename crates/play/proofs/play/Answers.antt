-- Fitness was tested, and gives what the call asks for.
use Rattle.play.proofs.Asked.{fits, long}
use Rattle.play.proofs.play.Goals as goal

pub call-requires : goal.call-requires
call-requires g c = c.requires _
    (long c.args.s.now c.seat_fits.result c.seat_fits.ensures c.if-not-seat_fits.false)
    (fits c.args.s.now c.seat_fits.result c.seat_fits.ensures c.if-not-seat_fits.false)
