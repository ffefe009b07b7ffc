-- Each turn opens one account more.
use mathlib.Core.Path.{ap, ◌∙◌}
use mathlib.Core.List.{List}
use Prim.Native.Nat.{ℕ}
use lib.ListN.{length}
use Rattle.layout.specs.Seat.{with_head}
use Rattle.seat.proofs.Opening.{opens-none, opens-turn}
use Rattle.seat.proofs.fit.open_with.Goals as goal

pub loop-i-init : goal.loop-i-init
loop-i-init c = (
  c.put_head.auto.s ∙ ap length c.requires.0,
  c.put_head.ensures
      ∙ ap (λ (s : List ℕ). with_head s (record { opening = c.args.opening; opened = 1; steps = 0 })) c.requires.0
      ∙ opens-none c.args.opening,
)

pub loop-i-preserved : goal.loop-i-preserved
loop-i-preserved c = (
  c.put_account.auto.s ∙ c.loop-i.invariant.0,
  opens-turn c.args.opening c.loop-i.i c.args.sums.now c.loop-i.s c.put_account.new.s c.opened.result c.loop-i-test.true c.requires.1
      c.loop-i.invariant.1 c.opened.ensures c.put_account.ensures,
)
