use Rattle.std.proofs.Common.{arith, refl, sym, ◌∙◌, ◌+◌}
use Rattle.paths.specs.Tree.{firsts}
use Rattle.paths.proofs.Table.{firsts-low}
use Rattle.paths.proofs.Named.{child-begins, child-here, child-further, child-nowhere}
use Rattle.paths.proofs.tree.child.Goals as goal

pub loop-below-init : goal.loop-below-init
unfolding firsts
loop-below-init c = (firsts-low (c.args.node + 1) (omega arith), child-begins _ _ _ _ refl refl)

pub returns-then-is_named-clause-value : goal.returns-then-is_named-clause-value
returns-then-is_named-clause-value c =
    sym (c.loop-below.invariant.1 ∙ child-here _ _ _ c.loop-below-test.true (sym c.is_named.ensures ∙ c.if-is_named.true))

pub loop-below-preserved : goal.loop-below-preserved
loop-below-preserved c = (
  c.loop-below.invariant.0,
  c.loop-below.invariant.1 ∙ child-further _ _ c.args.name.now c.loop-below-test.true (sym c.is_named.ensures ∙ c.if-is_named.false),
)

pub returns-clause-value : goal.returns-clause-value
returns-clause-value c = sym (c.loop-below.invariant.1 ∙ child-nowhere _ _ c.args.name.now c.loop-below-test.false)
