use Rattle.lister.proofs.Written.{wrote_then}
use Rattle.lister.proofs.put_count.Goals as goal

pub returns : goal.returns
returns c = wrote_then c.put_decimal-counted.ensures c.put_all.ensures
