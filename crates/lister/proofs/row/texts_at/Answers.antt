use Rattle.lister.proofs.Parts.{holds-leaf}
use Rattle.lister.proofs.row.texts_at.Goals as goal

pub returns : goal.returns
returns c = holds-leaf c.args.s.now c.args.start c.leaf_at.result c.leaf_at.ensures c.is_some.ensures c.from.ensures
