-- The centre's call is this one, on the directory that the numbers are; a place, a field and a check are small.
use mathlib.Core.Path.{ap, ◌∙◌}
use Rattle.damvurit.specs.Flat.{flat_directory}
use Rattle.damvurit.specs.Boundary.{result_number, ticket_of}
use Rattle.damvurit.proofs.Called.{low, submit-called}
use Rattle.damvurit.proofs.Details.{submit-low}
use Rattle.damvurit.proofs.damvurit_submit.Goals as goal

pub result_of-requires : goal.result_of-requires
result_of-requires c =
    let e = c.submit_among.ensures in
    let called = submit-called c.args.dir.now c.gather_flat.result c.gather_flat.ensures c.submit_among.result
    (ticket_of c.args.seat c.args.opening) c.args.sender c.args.date c.args.sheet.now c.args.slip.now c.args.room.now
    c.submit_among.new.room c.submit_among.new.slip (e.result_value, (e.room_after, e.slip_after)) in
    low c.submit_among.result _ called.0
    (submit-low (flat_directory c.args.dir.now) (ticket_of c.args.seat c.args.opening) c.args.sender c.args.date c.args.sheet.now
    c.args.slip.now c.args.room.now)

pub returns : goal.returns
returns c =
    let e = c.submit_among.ensures in
    let called = submit-called c.args.dir.now c.gather_flat.result c.gather_flat.ensures c.submit_among.result
    (ticket_of c.args.seat c.args.opening) c.args.sender c.args.date c.args.sheet.now c.args.slip.now c.args.room.now
    c.submit_among.new.room c.submit_among.new.slip (e.result_value, (e.room_after, e.slip_after)) in
    record { result_value = c.result_of.ensures ∙ ap result_number called.0; room_after = called.1.0; slip_after = called.1.1 }
