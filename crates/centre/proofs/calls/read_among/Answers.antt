-- What the test and the search among the records give is what the directory that was gathered gives, where that matters.
use Rattle.std.proofs.Common.{arith}
use Rattle.centre.proofs.Listed.{gathered-place}
use Rattle.centre.proofs.Refusals.{read-gathered}
use Rattle.centre.proofs.calls.read_among.Goals as goal

pub read_found-requires : goal.read_found-requires
read_found-requires c =
    gathered-place c.args.g c.args.owner c.fits.result c.find_in.result c.fits.ensures c.find_in.ensures (omega arith)

pub returns : goal.returns
returns c =
    read-gathered c.args.ticket c.args.number c.args.room.now c.args.g (omega arith) c.args.owner
    c.fits.result c.find_in.result c.fits.ensures c.find_in.ensures c.read_found.result c.read_found.ensures
