-- What is said and left of the records that are lent is what is to be said and left of the directory.
use Rattle.std.proofs.Common.{rules, ◌≡◌, ◌∙◌, length}
use Rattle.lender.proofs.Directories.{open_lent, open-lent-room}
use Rattle.lender.proofs.open_with.Goals as goal

pub returns-clause-result_value : goal.returns-clause-result_value
returns-clause-result_value c =
    let l : length c.args.g.records ≡ 16 = search rules in
    rw c.lent.ensures at c.open_seat.ensures.result_value ∙ open_lent c.args.g l c.args.seat c.args.sums.now c.args.room.now

pub returns-clause-room_after : goal.returns-clause-room_after
returns-clause-room_after c =
    let l : length c.args.g.records ≡ 16 = search rules in
    rw c.lent.ensures at c.open_seat.ensures.room_after ∙ open-lent-room c.args.g l c.args.seat c.args.sums.now c.args.room.now
