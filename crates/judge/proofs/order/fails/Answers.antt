-- No row has a number that is no arm's.
use mathlib.Core.Path.{sym}
use Rattle.judge.proofs.Orders.{outside}
use Rattle.judge.proofs.order.fails.Goals as goal

pub returns-in_default : goal.returns-in_default
returns-in_default c = sym (outside c.args.c c.args.s.now c.args.number c.in_default.in_default-own.rest)
