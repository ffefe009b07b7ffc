-- The centre's call is this one, and what it tells has no detail.
use Rattle.damvurit.proofs.Called.{plain}
use Rattle.damvurit.proofs.Details.{lay-plain}
use Rattle.damvurit.proofs.damvurit_lay_out.Goals as goal

pub result_of-requires : goal.result_of-requires
result_of-requires c = plain c.lay_out.result _ c.lay_out.ensures.result_value (lay-plain c.args.room.now)
