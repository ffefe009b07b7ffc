-- The centre's call is this one, on the directory that the numbers are and the wish that the four settings are.
use mathlib.Core.Path.{ap, ◌∙◌}
use Rattle.damvurit.specs.Flat.{flat_directory}
use Rattle.damvurit.specs.Boundary.{result_number, ticket_of, wish_of}
use Rattle.damvurit.proofs.Called.{plain, set-called}
use Rattle.damvurit.proofs.Details.{set-plain}
use Rattle.damvurit.proofs.damvurit_set.Goals as goal

pub result_of-requires : goal.result_of-requires
result_of-requires c =
    let wish = wish_of c.args.block_out c.args.block_in c.args.ltk c.args.lpo in
    let called = set-called c.args.dir.now c.gather_flat.result c.gather_flat.ensures c.set_among.result
    (ticket_of c.args.seat c.args.opening) c.args.owner c.args.account c.wish_of-wish.result wish c.wish_of-wish.ensures c.args.room.now
    c.set_among.new.room (c.set_among.ensures.result_value, c.set_among.ensures.room_after) in
    plain c.set_among.result _ called.0
    (set-plain (flat_directory c.args.dir.now) (ticket_of c.args.seat c.args.opening) c.args.owner c.args.account wish c.args.room.now)

pub returns : goal.returns
returns c =
    let called = set-called c.args.dir.now c.gather_flat.result c.gather_flat.ensures c.set_among.result
    (ticket_of c.args.seat c.args.opening) c.args.owner c.args.account c.wish_of-wish.result
    (wish_of c.args.block_out c.args.block_in c.args.ltk c.args.lpo) c.wish_of-wish.ensures c.args.room.now
    c.set_among.new.room (c.set_among.ensures.result_value, c.set_among.ensures.room_after) in
    record { result_value = c.result_of.ensures ∙ ap result_number called.0; room_after = called.1 }
