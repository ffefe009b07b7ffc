-- Where there is room the byte is stored; elsewhere nothing changes.
use Rattle.lister.proofs.Written.{wrote-byte, wrote-no-byte}
use Rattle.lister.proofs.writer.put.Goals as goal

pub returns-then-n-out : goal.returns-then-n-out
returns-then-n-out c = wrote-byte c.args.out.now c.args.n c.args.b c.if-n-out.true

pub returns : goal.returns
returns c = wrote-no-byte c.args.out.now c.args.n c.args.b c.if-n-out.false
