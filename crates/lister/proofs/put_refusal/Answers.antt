use Rattle.lister.proofs.Written.{wrote_then}
use Rattle.lister.proofs.put_refusal.Goals as goal

pub returns : goal.returns
returns c = wrote_then c.put_all-said.ensures (wrote_then c.put_decimal-placed.ensures c.put_all.ensures)
