-- What is said and left of the records that are lent is what is to be said and left of the directory.
use Rattle.std.proofs.Common.{rules, ◌≡◌, ◌∙◌, length}
use Rattle.lender.proofs.Directories.{set-lent, set-lent-room}
use Rattle.lender.proofs.set_with.Goals as goal

pub returns-clause-result_value : goal.returns-clause-result_value
returns-clause-result_value c =
    let l : length c.args.g.records ≡ 16 = search rules in
    rw c.lent.ensures at c.set_account.ensures.result_value
    ∙ set-lent c.args.g l c.args.ticket c.args.owner c.args.number c.args.wish c.args.room.now

pub returns-clause-room_after : goal.returns-clause-room_after
returns-clause-room_after c =
    let l : length c.args.g.records ≡ 16 = search rules in
    rw c.lent.ensures at c.set_account.ensures.room_after
    ∙ set-lent-room c.args.g l c.args.ticket c.args.owner c.args.number c.args.wish c.args.room.now
