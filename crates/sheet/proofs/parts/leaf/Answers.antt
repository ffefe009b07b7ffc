-- The text, then `</`, then the name and the tag's end.
use Rattle.std.proofs.Common.{sym, ◌∙◌}
use Rattle.sheet.proofs.Opened.{leaf-broken, leaf-open, leaf-ends}
use Rattle.sheet.proofs.parts.leaf.Goals as goal

pub returns-then-peek-ne60 : goal.returns-then-peek-ne60
returns-then-peek-ne60 c =
    leaf-broken c.args.s.now c.args.inside c.args.from c.args.to c.text_end-end.result c.requires.0 c.requires.3 c.text_end-end.ensures
    (λ e. c.if-peek-ne60.true (c.peek.ensures ∙ e))

pub returns-then-peek-ne47 : goal.returns-then-peek-ne47
returns-then-peek-ne47 c =
    leaf-open c.args.s.now c.args.inside c.args.from c.args.to c.text_end-end.result c.requires.0 c.requires.3 c.text_end-end.ensures
    (sym c.peek.ensures ∙ c.if-peek-ne60.false) (λ e. c.if-peek-ne47.true (c.peek-2.ensures ∙ e))

pub returns : goal.returns
returns c =
    leaf-ends c.args.s.now c.args.inside c.args.from c.args.to c.text_end-end.result c.requires.0 c.requires.3 c.text_end-end.ensures
    (sym c.peek.ensures ∙ c.if-peek-ne60.false) c.closing.result (sym c.peek-2.ensures ∙ c.if-peek-ne47.false) c.closing.ensures
