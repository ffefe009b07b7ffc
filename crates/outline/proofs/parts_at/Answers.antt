-- The places are gathered one after the other; a sheet that ends too soon has none.
use Rattle.std.proofs.Common.{arith, ◌+◌}
use Rattle.sheet.specs.Grammar.{is_name_byte}
use Rattle.sheet.proofs.While.{while-inside}
use Rattle.outline.proofs.Gathered.{past_the_end, cut_off, with-text, without-text, no-text}
use Rattle.outline.proofs.parts_at.Goals as goal

pub returns-then-s-start : goal.returns-then-s-start
returns-then-s-start c = past_the_end c.args.s.now c.args.start c.if-s-start.true

pub after_tag-inside-requires : goal.after_tag-inside-requires
after_tag-inside-requires c =
    omega (arith, c.name_bytes_end-to.ensures, while-inside is_name_byte c.args.s.now (c.args.start + 1) (omega arith), c.well_formed.0)

pub returns-then-s-inside : goal.returns-then-s-inside
returns-then-s-inside c =
    cut_off c.args.s.now c.args.start c.name_bytes_end-to.result c.peek-ccy.result c.after_tag-inside.result
    c.if-s-start.false c.name_bytes_end-to.ensures c.peek-ccy.ensures c.after_tag-inside.ensures c.if-s-inside.true

pub returns-in-Text : goal.returns-in-Text
returns-in-Text c =
    with-text c.args.s.now c.args.start c.name_bytes_end-to.result c.peek-ccy.result c.after_tag-inside.result
    c.if-s-start.false c.name_bytes_end-to.ensures c.peek-ccy.ensures c.after_tag-inside.ensures c.if-s-inside.false
    c.next_at.result c.next_at.ensures c.in-Text.end c.in-Text.is

pub returns-in-Element : goal.returns-in-Element
returns-in-Element c =
    without-text c.args.s.now c.args.start c.name_bytes_end-to.result c.peek-ccy.result c.after_tag-inside.result
    c.if-s-start.false c.name_bytes_end-to.ensures c.peek-ccy.ensures c.after_tag-inside.ensures c.if-s-inside.false
    c.next_at.result c.next_at.ensures (no-text c.next_at.result c.in-Element.is)
