-- Each answer is the definition's, by the tests that led to it. A byte that is not 0 stands within the sheet, so a name may begin after
-- it.
use Rattle.std.proofs.Common.{arith, sym, ap, ◌∙◌}
use Rattle.sheet.specs.declared.reader.Ahead.TheVariants.{Element, Text}
use Rattle.sheet.proofs.Ends.{text-inside}
use Rattle.sheet.proofs.Aheads.{text-ahead, other-ahead, no-name-ahead, element-ahead}
use Rattle.sheet.proofs.reader.next_in.Goals as goal

pub text_bytes_end-requires : goal.text_bytes_end-requires
text_bytes_end-requires c =
    omega (arith, text-inside c.args.sheet.now c.args.place (rw c.peek-b.ensures at (sym c.is_text.ensures ∙ c.if-is_text.true)))

pub returns-then-is_text : goal.returns-then-is_text
returns-then-is_text c =
    ap Text c.text_bytes_end.ensures
    ∙ text-ahead c.args.sheet.now c.args.place (rw c.peek-b.ensures at (sym c.is_text.ensures ∙ c.if-is_text.true))

pub returns-then-b-ne60 : goal.returns-then-b-ne60
returns-then-b-ne60 c =
    other-ahead c.args.sheet.now c.args.place (rw c.peek-b.ensures at (sym c.is_text.ensures ∙ c.if-is_text.false))
    (λ e. c.if-b-ne60.true (c.peek-b.ensures ∙ e))

pub returns-then-not-is_letter : goal.returns-then-not-is_letter
returns-then-not-is_letter c =
    no-name-ahead c.args.sheet.now c.args.place (rw c.peek-b.ensures at (sym c.is_text.ensures ∙ c.if-is_text.false))
    (sym c.peek-b.ensures ∙ c.if-b-ne60.false) (rw c.peek.ensures at (sym c.is_letter.ensures ∙ c.if-not-is_letter.true))

pub returns : goal.returns
returns c =
    ap Element c.name_bytes_end.ensures
    ∙ element-ahead c.args.sheet.now c.args.place (rw c.peek-b.ensures at (sym c.is_text.ensures ∙ c.if-is_text.false))
    (sym c.peek-b.ensures ∙ c.if-b-ne60.false) (rw c.peek.ensures at (sym c.is_letter.ensures ∙ c.if-not-is_letter.false))
