use Rattle.lister.proofs.Written.{still-less, still-nothing}
use Rattle.lister.proofs.Parts.{text-goes, text-ends}
use Rattle.lister.proofs.writer.put_all.Goals as goal

pub loop-b-preserved : goal.loop-b-preserved
loop-b-preserved c = still-less c.loop-b.invariant (text-goes c.args.text.now c.loop-b.b-index c.loop-b-test.true) c.put-at.ensures

pub returns : goal.returns
returns c = still-nothing c.loop-b.invariant (text-ends c.args.text.now c.loop-b.b-index c.loop-b-test.false)
