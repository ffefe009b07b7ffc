use Rattle.std.proofs.Common.{arith, length}
use Rattle.lister.proofs.Written.{wrote_nothing, wrote_then, wrote_as}
use Rattle.lister.proofs.Parts.{path-longer, path-same}
use Rattle.lister.proofs.row.put_path.Goals as goal

pub loop-start-init : goal.loop-start-init
loop-start-init c = wrote_nothing _ _

pub loop-start-preserved : goal.loop-start-preserved
loop-start-preserved c =
    wrote_as (wrote_then c.loop-start.invariant (wrote_then c.put-at.ensures (wrote_as c.put_all-at.ensures c.name_at.ensures)))
    (path-longer c.args.s.now c.args.path.now c.loop-start.start-index)

pub returns : goal.returns
returns c = wrote_as c.loop-start.invariant (path-same c.args.s.now c.args.path.now c.loop-start.start-index (length c.args.path.now) (omega arith))
