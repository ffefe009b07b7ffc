-- The centre's call is this one, on the directory that the numbers are; what is left in the array is what it tells of the answer.
use mathlib.Core.Path.{ap, ◌∙◌}
use Rattle.damvurit.specs.Flat.{flat_directory}
use Rattle.damvurit.specs.Boundary.{result_number, seven, ticket_of}
use Rattle.damvurit.proofs.Called.{plain, read-called}
use Rattle.damvurit.proofs.Details.{read_plain}
use Rattle.damvurit.proofs.damvurit_read.Goals as goal

pub result_of-requires : goal.result_of-requires
result_of-requires c =
    let called = read-called c.args.dir.now c.gather_flat.result c.gather_flat.ensures c.read_among-answer.result
    (ticket_of c.args.seat c.args.opening) c.args.owner c.args.account c.args.room.now c.read_among-answer.ensures in
    plain c.read_among-answer.result _ called
    (read_plain (flat_directory c.args.dir.now) (ticket_of c.args.seat c.args.opening) c.args.owner c.args.account c.args.room.now)

pub returns : goal.returns
returns c =
    let called = read-called c.args.dir.now c.gather_flat.result c.gather_flat.ensures c.read_among-answer.result
    (ticket_of c.args.seat c.args.opening) c.args.owner c.args.account c.args.room.now c.read_among-answer.ensures in
    record { result_value = c.result_of.ensures ∙ ap result_number called; out_after = c.account_in.ensures ∙ ap seven called }
