-- What was gathered is fit where the directory is, and the place of what is found in a fit directory fits.
use Rattle.std.proofs.Common.{◌∙◌}
use Rattle.centre.proofs.LentFound.{fit-lent, place-lent, read-told-lent}
use Rattle.centre.proofs.lent.read_account.Goals as goal

pub read_found-requires : goal.read_found-requires
read_found-requires c =
    let fitted = fit-lent c.args.dir.now c.gather.result c.fits-fit.result c.gather.ensures c.fits-fit.ensures in
    place-lent c.args.dir.now c.args.owner c.fits-fit.result c.find.result fitted c.find.ensures

pub returns : goal.returns
returns c =
    let fitted = fit-lent c.args.dir.now c.gather.result c.fits-fit.result c.gather.ensures c.fits-fit.ensures in
    c.read_found.ensures
    ∙ read-told-lent c.args.ticket c.args.owner c.args.number c.args.room.now c.args.dir.now c.fits-fit.result c.find.result
    fitted c.find.ensures
