-- The survey shows what the rows say, so each answer by it is the definition's.
use Rattle.std.proofs.Common.{sym, ◌∙◌}
use Rattle.message.proofs.Whole.{refused-received, unknown-received, known-received}
use Rattle.message.proofs.receive.Goals as goal

pub returns-in-Err : goal.returns-in-Err
returns-in-Err c = c.refused.ensures ∙ refused-received c.args.s.now c.in-Err.reason (sym c.in-Err.is ∙ c.survey.ensures)

pub returns-in_default : goal.returns-in_default
returns-in_default c =
    c.refused-in_default.ensures
    ∙ unknown-received c.args.s.now c.in-Ok.standing (sym c.in-Ok.is ∙ c.survey.ensures) (sym c.in_default.is ∙ c.kind_of.ensures)

pub returns : goal.returns
returns c =
    c.receive_as.ensures
    ∙ known-received c.args.s.now c.in-Ok.standing (sym c.in-Ok.is ∙ c.survey.ensures) c.in-Some.kind (sym c.in-Some.is ∙ c.kind_of.ensures)
