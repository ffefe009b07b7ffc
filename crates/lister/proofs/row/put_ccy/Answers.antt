-- Brackets around the three capitals, or nothing.
use Rattle.lister.proofs.Written.{wrote_nothing, wrote_then, wrote_as}
use Rattle.lister.proofs.row.put_ccy.Goals as goal

pub returns-in_default : goal.returns-in_default
returns-in_default c = wrote_as (wrote_nothing _ _) (rw c.in_default.is)

pub returns : goal.returns
returns c = wrote_as (wrote_then c.put-opened.ensures (wrote_then c.put_all-named.ensures c.put.ensures)) (rw c.in-Some.is)
