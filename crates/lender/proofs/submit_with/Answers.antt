-- What is said and left of the records that are lent is what is to be said and left of the directory.
use Rattle.std.proofs.Common.{rules, ◌≡◌, ◌∙◌, length}
use Rattle.lender.proofs.Directories.{submit-lent, submit-lent-room, submit-lent-slip}
use Rattle.lender.proofs.submit_with.Goals as goal

pub returns-clause-result_value : goal.returns-clause-result_value
returns-clause-result_value c =
    let l : length c.args.g.records ≡ 16 = search rules in
    rw c.lent.ensures at c.submit_sheet.ensures.result_value
    ∙ submit-lent c.args.g l c.args.ticket c.args.sender c.args.today c.args.sheet.now c.args.slip.now c.args.room.now

pub returns-clause-room_after : goal.returns-clause-room_after
returns-clause-room_after c =
    let l : length c.args.g.records ≡ 16 = search rules in
    rw c.lent.ensures at c.submit_sheet.ensures.room_after
    ∙ submit-lent-room c.args.g l c.args.ticket c.args.sender c.args.today c.args.sheet.now c.args.slip.now c.args.room.now

pub returns-clause-slip_after : goal.returns-clause-slip_after
returns-clause-slip_after c =
    let l : length c.args.g.records ≡ 16 = search rules in
    rw c.lent.ensures at c.submit_sheet.ensures.slip_after
    ∙ submit-lent-slip c.args.g l c.args.ticket c.args.sender c.args.today c.args.sheet.now c.args.slip.now c.args.room.now
