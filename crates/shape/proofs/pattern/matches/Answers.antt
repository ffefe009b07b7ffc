-- Both sides end together, since what is left of them is of one length.
use mathlib.Core.Path.{sym, ◌∙◌}
use Rattle.std.proofs.Common.{⊎_elim}
use native.Mathlib.Omega.{arith}
use Rattle.shape.proofs.Loops.{fits-hit, fits-miss, fits-end}
use Rattle.shape.proofs.pattern.matches.Goals as goal

pub returns-then-not-is_within : goal.returns-then-not-is_within
returns-then-not-is_within c =
    sym (c.loop-class.invariant.1 ∙ fits-miss c.in-Some.ensures.steps.0 c.in-Some.ensures.steps.1 (sym c.is_within.ensures ∙ c.if-not-is_within.true))

pub loop-class-preserved : goal.loop-class-preserved
loop-class-preserved c = (
  search (arith, c.in-Some.ensures.steps, c.loop-class.invariant),
  c.loop-class.invariant.1 ∙ fits-hit c.in-Some.ensures.steps.0 c.in-Some.ensures.steps.1 (sym c.is_within.ensures ∙ c.if-not-is_within.false),
)

pub returns : goal.returns
returns c =
    sym (c.loop-class.invariant.1 ∙ ⊎_elim (λ x. fits-end _ _ (omega (arith, x.1.0)) (omega (arith, x.1.0, c.loop-class.invariant.0)))
    (λ x. fits-end _ _ (omega (arith, x.1.0, c.loop-class.invariant.0)) (omega (arith, x.1.0))) c.in-None.ensures.steps)
