use Rattle.std.proofs.Common.{◌∙◌}
use Rattle.message.proofs.Held.{leaf-elsewhere, leaf-once}
use Rattle.message.proofs.found.Found.leaf.Goals as goal

pub returns-then-self-ne1 : goal.returns-then-self-ne1
returns-then-self-ne1 c = leaf-elsewhere c.args.self.sheet.now c.args.self.count c.args.self.start c.if-self-ne1.true

pub returns : goal.returns
returns c = c.leaf_at.ensures ∙ leaf-once c.args.self.sheet.now c.args.self.count c.args.self.start c.if-self-ne1.false
