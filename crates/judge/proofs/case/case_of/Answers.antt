-- What is looked up among the records is what the definition says of the message; a fit directory has no more records than a seat has places, so each
-- owner that is found has one.
use mathlib.Core.Path.{ap, ◌∙◌}
use Rattle.directory.specs.Gathering.{records_in}
use Rattle.judge.specs.declared.case.Looked.{Looked}
use Rattle.judge.specs.Case.{case_from, case_of}
use Rattle.judge.proofs.Lookups.{looked-with, looked-fit}
use Rattle.judge.proofs.Places.{records-few}
use Rattle.judge.proofs.case.case_of.Goals as goal

pub case_from-requires : goal.case_from-requires
case_from-requires c =
    let looked =
    looked-with (records_in c.args.g) c.args.sender c.args.m c.asked_by.result c.look_among-looked.result
    c.asked_by.ensures c.look_among-looked.ensures in
    looked-fit (records_in c.args.g) c.args.sender c.args.m c.look_among-looked.result looked (records-few c.args.g c.requires)

pub returns : goal.returns
unfolding case_of
returns c =
    let looked =
    looked-with (records_in c.args.g) c.args.sender c.args.m c.asked_by.result c.look_among-looked.result
    c.asked_by.ensures c.look_among-looked.ensures in
    c.case_from.ensures ∙ ap (λ (l : Looked). case_from l c.args.sender c.args.today c.args.m) looked
