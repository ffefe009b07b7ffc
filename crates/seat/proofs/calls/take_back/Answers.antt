-- Of a fit seat the last step fits.
use mathlib.Core.Path.{sym, ◌∙◌}
use Rattle.seat.proofs.Asked.{back-asks}
use Rattle.seat.proofs.calls.take_back.Goals as goal

pub drop_last-requires : goal.drop_last-requires
drop_last-requires c =
    back-asks c.args.opening c.args.s.now c.requires.0 c.requires.1 (sym c.no_ticket.ensures ∙ c.if-no_ticket.false) c.head.result c.head.ensures
    c.if-head-eq0.false
