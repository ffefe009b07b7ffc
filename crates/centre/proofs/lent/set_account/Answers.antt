-- What was gathered is fit where the directory is, and the place of what is found in a fit directory fits.
use Rattle.std.proofs.Common.{◌∙◌}
use Rattle.centre.proofs.LentFound.{fit-lent, place-lent, set-told-lent, set-left-lent}
use Rattle.centre.proofs.lent.set_account.Goals as goal

pub set_found-requires : goal.set_found-requires
set_found-requires c =
    let fitted = fit-lent c.args.dir.now c.gather.result c.fits-fit.result c.gather.ensures c.fits-fit.ensures in
    place-lent c.args.dir.now c.args.owner c.fits-fit.result c.find.result fitted c.find.ensures

pub returns : goal.returns
returns c =
    let fitted = fit-lent c.args.dir.now c.gather.result c.fits-fit.result c.gather.ensures c.fits-fit.ensures in
    record {
      result_value = c.set_found.ensures.result_value
          ∙ set-told-lent c.args.ticket c.args.owner c.args.number c.args.wish c.args.room.now c.args.dir.now c.fits-fit.result c.find.result
          fitted c.find.ensures;
      room_after = c.set_found.ensures.room_after
          ∙ set-left-lent c.args.ticket c.args.owner c.args.number c.args.wish c.args.room.now c.args.dir.now c.fits-fit.result c.find.result
          fitted c.find.ensures;
    }
