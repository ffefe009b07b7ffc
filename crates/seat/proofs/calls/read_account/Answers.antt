-- An account that is found is one of the seat.
use mathlib.Core.Path.{sym}
use Rattle.seat.proofs.Named.{account-found-low}
use Rattle.seat.proofs.calls.read_account.Goals as goal

pub account-requires : goal.account-requires
account-requires c = (c.requires.0, account-found-low c.args.owner c.args.number c.in-Some.i c.requires.1 (sym c.in-Some.ensures))
