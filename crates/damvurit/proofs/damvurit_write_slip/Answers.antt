-- The centre's call is this one, and what it tells has no detail.
use Rattle.damvurit.specs.Boundary.{slip_of}
use Rattle.damvurit.proofs.Called.{plain}
use Rattle.damvurit.proofs.Details.{write-plain}
use Rattle.damvurit.proofs.damvurit_write_slip.Goals as goal

pub result_of-requires : goal.result_of-requires
result_of-requires c =
    plain c.write_slip.result _ c.write_slip.ensures.result_value
    (write-plain (slip_of c.args.kind c.args.status c.args.check c.args.seat c.args.opening c.args.step) c.args.slip.now)
