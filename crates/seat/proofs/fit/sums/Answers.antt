-- Each turn reads one sum more.
use mathlib.Core.Path.{refl, ap, ◌∙◌}
use lib.ListN.{replicate, length-set}
use Rattle.layout.specs.declared.rows.Account.{Account}
use Rattle.layout.specs.Seat.{accounts}
use Rattle.seat.proofs.Opening.{reads_none, reads-turn, reads_all}
use Rattle.seat.proofs.fit.sums.Goals as goal

pub loop-i-init : goal.loop-i-init
loop-i-init c = (refl, reads_none c.args.s.now (replicate accounts 0))

pub loop-i-preserved : goal.loop-i-preserved
loop-i-preserved c = (
  length-set c.loop-i.out c.loop-i.i c.account.result.opening ∙ c.loop-i.invariant.0,
  reads-turn c.args.s.now c.loop-i.out c.loop-i.i c.account.result.opening c.loop-i-test.true c.loop-i.invariant.0
      (ap (λ (a : Account). a.opening) c.account.ensures) c.loop-i.invariant.1,
)

pub returns : goal.returns
returns c = reads_all c.args.s.now c.loop-i.out c.loop-i.i c.loop-i-test.false c.loop-i.invariant.0 c.loop-i.invariant.1
