-- A bad field is the answer by its number; where all are good, the parts of the sheet that the spots name make the message.
use Rattle.std.proofs.Common.{◌∙◌}
use Rattle.message.proofs.Judged.{judged-bad, judged-good}
use Rattle.message.proofs.receive_as.Goals as goal

pub returns-in-Some : goal.returns-in-Some
returns-in-Some c =
    let seen = c.args.seen in
    c.refused.ensures
    ∙ judged-bad seen.sheet.now seen.kind seen.counts.now seen.starts.now c.first_bad.result c.first_bad.ensures c.in-Some.number c.in-Some.is

pub returns : goal.returns
returns c =
    let seen = c.args.seen in
    judged-good seen.sheet.now seen.kind seen.counts.now seen.starts.now c.first_bad.result c.first_bad.ensures c.in_default.is
    c.spots-spots.result c.currency.result c.message_of.result c.spots-spots.ensures c.currency.ensures c.message_of.ensures
