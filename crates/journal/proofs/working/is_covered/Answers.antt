-- A fit step names accounts of the seat.
use Rattle.journal.proofs.Moves.{set-named, sides-named}
use Rattle.journal.proofs.working.is_covered.Goals as goal

pub account-requires : goal.account-requires
account-requires c = (c.requires.0, set-named c.args.x c.requires.1 c.if-x-eq-SET.true)

pub account-requires-then-x : goal.account-requires-then-x
account-requires-then-x c = (c.requires.0, (sides-named c.args.x c.requires.1 c.if-x-eq-SET.false c.if-moves.ensures).0)
