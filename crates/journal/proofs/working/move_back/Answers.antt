-- The second account has room above it still.
use Rattle.std.proofs.Common.{◌≤◌, refl, sym}
use Rattle.std.proofs.iter.Serving.{serving}
use Rattle.layout.specs.Seat.{account_of}
use Rattle.journal.specs.Low.{low_most}
use Rattle.journal.proofs.Moves.{other-balance}
use Rattle.journal.proofs.working.move_back.Goals as goal

pub change-requires-else-x-2 : goal.change-requires-else-x-2
change-requires-else-x-2 c =
    let low : (account_of c.change-else-x.new.s c.args.x.debit).balance ≤ low_most =
    other-balance c.args.s.now c.change-else-x.new.s c.args.x.credit c.args.x.debit _ c.change-else-x.ensures.0 c.requires.0
    c.requires.1 (λ e. c.if-x.false (sym e)) c.change-else-x.ensures.2 refl in
    grind (serving, low)
