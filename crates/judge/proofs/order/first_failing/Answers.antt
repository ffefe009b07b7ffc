-- Each turn looks at one check more.
use mathlib.Core.Path.{refl, sym, ap, ◌∙◌}
use Rattle.judge.specs.Verdict.{fails, first_failing, verdict}
use Rattle.judge.proofs.Orders.{hit, miss, none}
use Rattle.judge.proofs.order.first_failing.Goals as goal

pub loop-check-init : goal.loop-check-init
unfolding verdict
loop-check-init c = ap (first_failing (fails c.args.c c.args.s.now)) (sym c.order_of-check-items.ensures)

pub returns-then-fails : goal.returns-then-fails
returns-then-fails c =
    sym (c.loop-check.invariant
    ∙ hit (fails c.args.c c.args.s.now) c.order_of-check-items.result.now c.loop-check.check-index _ c.loop-check-test.true refl
    (sym c.fails.ensures ∙ c.if-fails.true))

pub loop-check-preserved : goal.loop-check-preserved
loop-check-preserved c =
    c.loop-check.invariant
    ∙ miss (fails c.args.c c.args.s.now) c.order_of-check-items.result.now c.loop-check.check-index _ c.loop-check-test.true refl
    (sym c.fails.ensures ∙ c.if-fails.false)

pub returns : goal.returns
returns c =
    sym (c.loop-check.invariant
    ∙ none (fails c.args.c c.args.s.now) c.order_of-check-items.result.now c.loop-check.check-index c.loop-check-test.false)
