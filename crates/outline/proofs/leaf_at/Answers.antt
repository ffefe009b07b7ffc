-- By the places of the element's parts, which stand in the sheet where it holds a text.
use Rattle.std.proofs.Common.{arith}
use Rattle.outline.proofs.Shown.{Shows, text-there, text-missing, parts-missing, leaf-missing, leaf-without-ccy, leaf-with-ccy}
use Rattle.outline.proofs.leaf_at.Goals.{In_ok-end}
use Rattle.outline.proofs.leaf_at.Goals as goal

there : (c : In_ok-end) → Shows c.args.s.now c.args.start c.in_ok-parts.parts c.in_ok-end.end
there c = text-there c.args.s.now c.args.start c.in_ok-parts.parts c.in_ok-end.end c.in_ok-parts.ensures c.in_ok-end.was

pub returns-in_err-parts : goal.returns-in_err-parts
returns-in_err-parts c =
    rw c.from_residual.ensures (leaf-missing c.args.s.now c.args.start (parts-missing c.args.s.now c.args.start c.in_err-parts.ensures))

pub returns-in_err-end : goal.returns-in_err-end
returns-in_err-end c =
    rw c.from_residual-in_err-end.ensures
    (leaf-missing c.args.s.now c.args.start
    (text-missing c.args.s.now c.args.start c.in_ok-parts.parts c.in_ok-parts.ensures c.in_err-end.was))

pub overflow_sub-end : goal.overflow_sub-end
overflow_sub-end c = (there c).forward

pub overflow_add-parts : goal.overflow_add-parts
overflow_add-parts c =
    let within = (text-there c.args.s.now c.args.start c.in_ok-parts.parts c.in_ok-end.end c.in_ok-parts.ensures c.in_ok-end.was).ccy-within c.if-parts.true in
    omega (arith, within, c.well_formed.0)

pub returns-then-parts : goal.returns-then-parts
returns-then-parts c =
    rw (c.shown_at.ensures, c.shown_at-text.ensures)
    (leaf-with-ccy (text-there c.args.s.now c.args.start c.in_ok-parts.parts c.in_ok-end.end c.in_ok-parts.ensures c.in_ok-end.was) c.if-parts.true)

pub returns : goal.returns
returns c =
    rw c.shown_at-text.ensures
    (leaf-without-ccy (text-there c.args.s.now c.args.start c.in_ok-parts.parts c.in_ok-end.end c.in_ok-parts.ensures c.in_ok-end.was) c.if-parts.false)
