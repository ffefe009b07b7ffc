-- Each turn looks at one seat more.
use mathlib.Core.Path.{sym, ap, ◌∙◌}
use Rattle.seat.specs.Fit.{seat_fits}
use Rattle.seat.proofs.Rooms.{seat-goes}
use Rattle.seat.proofs.fit.room_fits.Goals as goal

pub loop-k-preserved : goal.loop-k-preserved
loop-k-preserved c =
    c.loop-k.invariant ∙ seat-goes c.args.r.now c.loop-k.k c.loop-k-test.true
    (ap seat_fits (sym c.seat_in.ensures) ∙ sym c.seat_fits.ensures ∙ c.if-not-seat_fits.false)
