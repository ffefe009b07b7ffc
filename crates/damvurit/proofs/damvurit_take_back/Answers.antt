-- The centre's call is this one, and what it tells has no detail.
use Rattle.damvurit.specs.Boundary.{ticket_of}
use Rattle.damvurit.proofs.Called.{plain}
use Rattle.damvurit.proofs.Details.{back-plain}
use Rattle.damvurit.proofs.damvurit_take_back.Goals as goal

pub result_of-requires : goal.result_of-requires
result_of-requires c = plain c.take_back.result _ c.take_back.ensures.result_value (back-plain (ticket_of c.args.seat c.args.opening) c.args.room.now)
