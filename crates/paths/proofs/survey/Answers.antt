-- The refusal, or the walk along the elements: each is the survey of the reading.
use Rattle.std.proofs.Common.{ap, ◌∙◌, Ok}
use Rattle.std.proofs.lemmas.Result.{err_from_is_err_and}
use Rattle.sheet.proofs.Within.{within}
use Rattle.paths.proofs.Whole.{surveyed-refused, surveyed-accepted}
use Rattle.paths.proofs.survey.Goals as goal

pub returns-in_err-sheet : goal.returns-in_err-sheet
returns-in_err-sheet c =
    let p = err_from_is_err_and c.from_residual.result c.from_residual.ensures.1 in
    rw (p.1, p.2) (surveyed-refused c.args.s.now c.in_err-sheet.field-0.0 c.in_err-sheet.ensures.value)

pub walk-requires : goal.walk-requires
walk-requires c = (within c.args.s.now c.in_ok-sheet.sheet c.in_ok-sheet.ensures.answers).0

pub returns : goal.returns
returns c = ap Ok c.walk.ensures ∙ surveyed-accepted c.args.s.now c.in_ok-sheet.sheet c.in_ok-sheet.ensures.value
