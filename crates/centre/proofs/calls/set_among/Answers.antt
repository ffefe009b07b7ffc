-- What the test and the search among the records give is what the directory that was gathered gives, where that matters.
use Rattle.std.proofs.Common.{arith}
use Rattle.centre.proofs.Listed.{gathered-place}
use Rattle.centre.proofs.Refusals.{set-gathered}
use Rattle.centre.proofs.calls.set_among.Goals as goal

pub set_found-requires : goal.set_found-requires
set_found-requires c =
    gathered-place c.args.g c.args.owner c.fits.result c.find_in.result c.fits.ensures c.find_in.ensures (omega arith)

pub returns : goal.returns
returns c =
    let e = set-gathered c.args.ticket c.args.number c.args.wish c.args.room.now c.args.g (omega arith) c.args.owner
    c.fits.result c.find_in.result c.fits.ensures c.find_in.ensures c.set_found.result c.set_found.new.room
    (c.set_found.ensures.result_value, c.set_found.ensures.room_after) in
    record { result_value = e.0; room_after = e.1 }
