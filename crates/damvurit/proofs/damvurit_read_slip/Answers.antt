-- The centre's call is this one, and what it tells has no detail.
use Rattle.damvurit.proofs.Called.{plain}
use Rattle.damvurit.proofs.Details.{slip-plain}
use Rattle.damvurit.proofs.damvurit_read_slip.Goals as goal

pub result_of-requires : goal.result_of-requires
result_of-requires c = plain c.read_slip-answer.result _ c.read_slip-answer.ensures (slip-plain c.args.slip.now)
