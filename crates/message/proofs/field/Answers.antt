-- The part that the array names is shown; of the sheet that was received so it is the field's text.
use Rattle.std.proofs.Common.{◌∙◌, arith}
use Rattle.message.proofs.FieldShown.{field-shown, shown-field}
use Rattle.message.proofs.field.Goals as goal

pub returns-clause-result_value : goal.returns-clause-result_value
returns-clause-result_value c = c.shown.ensures ∙ shown-field c.args.s.now c.args.received c.args.number (omega arith)

pub returns-clause-result_value_2 : goal.returns-clause-result_value_2
returns-clause-result_value_2 c = λ e. c.shown.ensures ∙ rw e (field-shown c.args.s.now c.args.number)
