-- Of a head in range and sums that are ones the numbers that come out decide.
use mathlib.Core.Path.{sym, ◌∙◌}
use Rattle.seat.proofs.Fitness.{open_by}
use Rattle.seat.proofs.fit.open_fits.Goals as goal

pub returns-then-sums_fit : goal.returns-then-sums_fit
returns-then-sums_fit c =
    open_by c.args.s.now c.head-h.result c.head-h.ensures c.if-h-lt1.false c.if-h-gt-OPENINGS.false c.if-h-gt-STEPS.false
    c.sums-given.result c.sums-given.ensures c.works_out.result (sym c.sums_fit.ensures ∙ c.if-sums_fit.true) c.works_out.ensures
