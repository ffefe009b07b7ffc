use Rattle.std.proofs.Common.{arith}
use Rattle.message.proofs.Held.{good-missing, good-none, good-some}
use Rattle.message.proofs.fit.is_good.Goals as goal

pub returns-then-found-eq0 : goal.returns-then-found-eq0
returns-then-found-eq0 c =
    good-missing c.args.found.sheet.now c.args.found.count c.args.found.start c.args.e.optional c.args.e.shape c.args.e.ccy c.if-found-eq0.true

pub returns-in-Some : goal.returns-in-Some
returns-in-Some c =
    rw (c.ccy_fits.ensures, c.has_shape.ensures)
    (good-some c.args.e.shape c.args.e.ccy c.args.found.sheet.now c.args.found.count c.args.found.start c.if-found-eq0.false c.args.e.optional _ c.in-Some.ensures)

pub returns-in-None : goal.returns-in-None
returns-in-None c =
    good-none c.args.e.shape c.args.e.ccy c.args.found.sheet.now c.args.found.count c.args.found.start c.if-found-eq0.false c.args.e.optional c.in-None.ensures
