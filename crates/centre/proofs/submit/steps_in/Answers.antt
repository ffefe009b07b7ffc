-- The seat is a part of the room.
use Rattle.std.proofs.Common.{◌∙◌, ap, length}
use Rattle.layout.proofs.Rooms.{seat-length}
use Rattle.centre.proofs.submit.steps_in.Goals as goal

pub head-requires : goal.head-requires
head-requires c = ap length c.seat_in.ensures ∙ seat-length c.args.room.now c.args.seat c.requires.0 c.requires.1
