-- A fit step names accounts of the seat.
use Rattle.journal.proofs.Moves.{set-named, sides-named}
use Rattle.journal.proofs.working.undo_effect.Goals as goal

pub change-requires : goal.change-requires
change-requires c = (c.requires.0.long, set-named c.args.x c.requires.1 c.if-x-eq-SET.true, tt)

pub move_back-requires : goal.move_back-requires
move_back-requires c =
    let sides = sides-named c.args.x c.requires.1 c.if-x-eq-SET.false c.if-moves.ensures in
    (c.requires.0, sides.0, sides.1, sides.2)
