-- The centre's call is this one, and what it tells has no detail.
use Rattle.damvurit.specs.Boundary.{ticket_of}
use Rattle.damvurit.proofs.Called.{plain}
use Rattle.damvurit.proofs.Details.{close-plain}
use Rattle.damvurit.proofs.damvurit_close.Goals as goal

pub result_of-requires : goal.result_of-requires
result_of-requires c = plain c.close_seat.result _ c.close_seat.ensures.result_value (close-plain (ticket_of c.args.seat c.args.opening) c.args.room.now)
