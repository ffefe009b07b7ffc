-- The length alone decides; a room of that length is all zeros then.
use Rattle.centre.proofs.Refusals.{lay-refused, lay_done}
use Rattle.centre.proofs.calls.lay_out.Goals as goal

pub returns-then-room-ne-ROOM_LONG : goal.returns-then-room-ne-ROOM_LONG
returns-then-room-ne-ROOM_LONG c =
    let e = lay-refused c.args.room.now c.if-room-ne-ROOM_LONG.true in
    record { result_value = e.0; room_after = e.1 }

pub returns : goal.returns
returns c =
    let e = lay_done c.args.room.now c.if-room-ne-ROOM_LONG.false c.clear.new.s c.clear.ensures in
    record { result_value = e.0; room_after = e.1 }
