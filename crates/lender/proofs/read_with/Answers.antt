-- What is said of the records that are lent is what is to be said of the directory.
use Rattle.std.proofs.Common.{rules, ◌≡◌, ◌∙◌, length}
use Rattle.lender.proofs.Directories.{read-lent}
use Rattle.lender.proofs.read_with.Goals as goal

pub returns : goal.returns
returns c =
    let l : length c.args.g.records ≡ 16 = search rules in
    rw c.lent.ensures at c.read_account.ensures ∙ read-lent c.args.g l c.args.ticket c.args.owner c.args.number c.args.room.now
