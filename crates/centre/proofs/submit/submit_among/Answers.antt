-- What the test and the searches among the records give is what the directory that was gathered gives, where that matters.
use Rattle.std.proofs.Common.{arith}
use Rattle.centre.specs.Answers.{told}
use Rattle.centre.proofs.SubmitSought.{gathered-sought, gathered-submit}
use Rattle.centre.proofs.submit.submit_among.Goals as goal

pub submit_found-requires : goal.submit_found-requires
submit_found-requires c =
    gathered-sought c.args.g (omega arith) c.args.sheet.now c.args.sender c.fits.result c.look_among-looked.result
    c.received_in-received.result c.asked_in.result c.fits.ensures c.received_in-received.ensures c.asked_in.ensures
    c.look_among-looked.ensures

pub returns : goal.returns
returns c =
    let e = gathered-submit c.args.g (omega arith) c.args.sheet.now c.args.sender c.fits.result c.look_among-looked.result
    c.received_in-received.result c.asked_in.result c.fits.ensures c.received_in-received.ensures c.asked_in.ensures
    c.look_among-looked.ensures c.args.ticket c.args.today c.args.slip.now c.args.room.now (told c.submit_found.result)
    c.submit_found.new.room c.submit_found.new.slip
    (c.submit_found.ensures.result_value, (c.submit_found.ensures.room_after, c.submit_found.ensures.slip_after)) in
    record { result_value = e.0; room_after = e.1.0; slip_after = e.1.1 }
