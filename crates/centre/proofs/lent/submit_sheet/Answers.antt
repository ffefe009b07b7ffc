-- What is looked up in the lent directory serves as the directory itself.
use Rattle.std.proofs.Common.{ap, ◌∙◌}
use Rattle.judge.specs.Records.{looked_for}
use Rattle.judge.proofs.Lookups.{looked-in}
use Rattle.centre.proofs.LentFound.{fit-lent}
use Rattle.centre.proofs.SubmitSought.{submit-sought}
use Rattle.centre.proofs.lent.submit_sheet.Goals as goal

pub submit_found-requires : goal.submit_found-requires
submit_found-requires c = record {
  dir = c.args.dir.now;
  sheet = c.args.sheet.now;
  fitness = fit-lent c.args.dir.now c.gather.result c.fits-fit.result c.gather.ensures c.fits-fit.ensures;
  reading = c.received_in-received.ensures;
  finding = λ t m f.
      c.look_up-looked.ensures ∙ ap (looked_for c.args.dir.now c.args.sender) c.asked_in.ensures
      ∙ looked-in c.args.dir.now c.args.sender c.received_in-received.result m f;
}

pub returns : goal.returns
returns c =
    let same = submit-sought c.args.ticket c.args.sender c.args.today c.args.slip.now c.args.room.now c.args.dir.now c.look_up-looked.result
    c.received_in-received.result c.fits-fit.result c.args.sheet.now
    (fit-lent c.args.dir.now c.gather.result c.fits-fit.result c.gather.ensures c.fits-fit.ensures)
    c.received_in-received.ensures
    (λ t m f.
    c.look_up-looked.ensures ∙ ap (looked_for c.args.dir.now c.args.sender) c.asked_in.ensures
    ∙ looked-in c.args.dir.now c.args.sender c.received_in-received.result m f) in
    record {
      result_value = c.submit_found.ensures.result_value ∙ same.0;
      room_after = c.submit_found.ensures.room_after ∙ same.1.0;
      slip_after = c.submit_found.ensures.slip_after ∙ same.1.1;
    }
