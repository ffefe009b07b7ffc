-- What the call on a gathered directory says and leaves is what is to be said of the directory that was lent.
use Rattle.std.proofs.Common.{◌∙◌}
use Rattle.centre.proofs.LentDirectories.{open_by}
use Rattle.centre.proofs.lent.open_seat.Goals as goal

pub returns : goal.returns
returns c =
    let same = open_by c.args.seat c.args.sums.now c.args.room.now c.gather.result c.args.dir.now c.gather.ensures in
    record { result_value = c.open_among.ensures.result_value ∙ same.0; room_after = c.open_among.ensures.room_after ∙ same.1 }
