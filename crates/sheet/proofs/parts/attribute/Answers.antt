use Rattle.std.proofs.Common.{arith, sym, ◌∙◌, refl}
use Rattle.sheet.proofs.Tags.{ccy-begins, ccy-turn, ccy-wrong, ccy-inside, ccy-done}
use Rattle.sheet.proofs.parts.attribute.Goals as goal

pub loop-k-init : goal.loop-k-init
loop-k-init c = (refl, omega arith, omega arith, ccy-begins c.args.s.now c.args.from)

pub returns-then-not-is_next : goal.returns-then-not-is_next
returns-then-not-is_next c =
    ccy-wrong c.args.s.now c.args.from c.loop-k.k c.loop-k.invariant.3 c.loop-k-test.true
    (rw c.peek.ensures at (sym c.is_next.ensures ∙ c.if-not-is_next.true))

pub loop-k-preserved : goal.loop-k-preserved
loop-k-preserved c =
    let fits = rw c.peek.ensures at (sym c.is_next.ensures ∙ c.if-not-is_next.false) in
    let inside = ccy-inside c.args.s.now c.args.from c.loop-k.k c.loop-k-test.true fits in
    (refl, omega arith, omega arith, ccy-turn c.args.s.now c.args.from c.loop-k.k c.loop-k.invariant.3 c.loop-k-test.true inside fits)

pub returns : goal.returns
returns c = ccy-done c.args.s.now c.args.from c.loop-k.k c.loop-k.invariant.3 (omega arith) c.loop-k.invariant.2
