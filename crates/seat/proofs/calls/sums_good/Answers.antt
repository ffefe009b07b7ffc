-- Of another number of sums there are not two for each record; of the right number each turn takes one record and its two sums.
use mathlib.Core.Path.{sym, ◌∙◌}
use Rattle.std.proofs.Common.{⊎_elim}
use native.Mathlib.Omega.{arith}
use Rattle.seat.proofs.Pairs.{pairs-unlike, pairs-hit, pairs-miss, pairs-left, pairs_end}
use Rattle.seat.proofs.calls.sums_good.Goals as goal

pub returns-then-sums-dir : goal.returns-then-sums-dir
returns-then-sums-dir c = sym (pairs-unlike c.args.dir.now c.args.sums.now c.if-sums-dir.true)

pub returns-then-not-pair_fits : goal.returns-then-not-pair_fits
returns-then-not-pair_fits c =
    let two = c.in-Some.ensures.steps.1 in
    sym (c.loop-p.invariant.2
    ∙ pairs-miss _ _ c.in-Some.ensures.steps.0 two.1.0 (two.1.1 ∙ c.loop-p.invariant.0) (sym c.pair_fits.ensures ∙ c.if-not-pair_fits.true))

pub loop-p-preserved : goal.loop-p-preserved
loop-p-preserved c =
    let two = c.in-Some.ensures.steps.1 in
    let long = two.1.1 ∙ c.loop-p.invariant.0 in (
      two.0 ∙ c.loop-p.invariant.0,
      pairs-left _ _ c.in-Some.ensures.steps.0 two.1.0 long c.loop-p.invariant.1,
      c.loop-p.invariant.2
          ∙ pairs-hit _ _ c.in-Some.ensures.steps.0 two.1.0 long (sym c.pair_fits.ensures ∙ c.if-not-pair_fits.false),
    )

pub returns : goal.returns
returns c =
    sym (c.loop-p.invariant.2
    ∙ ⊎_elim (λ x. pairs_end _ _ (omega (arith, x.1.0)) (omega (arith, x.1.0, c.loop-p.invariant.1)))
    (λ x. pairs_end _ _ (omega (arith, x.1.1.0, c.loop-p.invariant.0, c.loop-p.invariant.1))
    (omega (arith, x.1.1.0, c.loop-p.invariant.0, c.loop-p.invariant.1))) c.in-None.ensures.steps)
