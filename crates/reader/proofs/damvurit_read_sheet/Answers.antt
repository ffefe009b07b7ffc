-- A place is far below the largest number.
use Rattle.std.proofs.Common.{◌∙◌, sym, arith}
use Rattle.reader.proofs.Numbers.{at-start, at-depth, at_count, at-nothing, at-refusal, place-within}
use Rattle.reader.proofs.damvurit_read_sheet.Goals as goal

pub overflow_add-result : goal.overflow_add-result
overflow_add-result c = omega (arith, place-within c.in-Err-2.refused c.args.which c.args.s.now (rw c.in-Err-2.is at c.read.ensures.answers))

pub returns-in-Ok : goal.returns-in-Ok
returns-in-Ok c = at-start c.in-Ok.sheet c.args.which _ (sym c.in-Ok.is ∙ c.read.ensures.value) c.if-which-lt-ELEMENT_MOST.true

pub returns-in-Ok-2 : goal.returns-in-Ok-2
returns-in-Ok-2 c =
    at-depth c.in-Ok-2.sheet c.args.which _ (sym c.in-Ok-2.is ∙ c.read.ensures.value) c.if-which-lt-ELEMENT_MOST.false c.if-which.true

pub returns-in-Ok-3 : goal.returns-in-Ok-3
returns-in-Ok-3 c =
    at_count c.in-Ok-3.sheet c.args.which _ (sym c.in-Ok-3.is ∙ c.read.ensures.value) c.if-which-lt-ELEMENT_MOST.false c.if-which.false

pub returns-in-Err : goal.returns-in-Err
returns-in-Err c = at-nothing c.in-Err.field-0 c.args.which _ (sym c.in-Err.is ∙ c.read.ensures.value) c.if-which-2.true

pub returns-in-Err-2 : goal.returns-in-Err-2
returns-in-Err-2 c = at-refusal c.in-Err-2.refused c.args.which _ (sym c.in-Err-2.is ∙ c.read.ensures.value) c.if-which-2.false
