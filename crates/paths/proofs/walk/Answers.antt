use Rattle.std.proofs.Common.{arith, ap, ◌∙◌, ◌+◌, get_or, eqb}
use Rattle.paths.specs.Tree.{child_of}
use Rattle.paths.proofs.Walked.{begins, all_seen, around-below, one_body, turn}
use Rattle.paths.proofs.walk.Goals as goal

pub loop-k-init : goal.loop-k-init
loop-k-init c = begins _ _ _ _

pub child-node-requires : goal.child-node-requires
child-node-requires c = around-below c.loop-k.invariant c.names_around-level.ensures

pub loop-k-preserved : goal.loop-k-preserved
loop-k-preserved c =
    turn c.loop-k.invariant c.names_around-level.ensures
    (c.child-node.ensures.value ∙ ap (child_of (get_or c.loop-k.stack c.names_around-level.result 0)) c.name_at.ensures)
    (c.from-bodies.ensures ∙ one_body (eqb (c.names_around-level.result + 1) 2)) c.requires c.loop-k-test.true (omega arith) (omega arith)

pub returns : goal.returns
returns c = all_seen c.loop-k.invariant c.loop-k-test.false
