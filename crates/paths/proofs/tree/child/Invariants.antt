use Rattle.std.proofs.Common.{◌≡◌, ◌≤◌, ◌-◌}
use Rattle.paths.specs.Tree.{nodes, child_of, named_from}
use Rattle.paths.proofs.tree.child.Given as goal

-- each turn leaves the search as it was, one node further on
abbrev pub invariant-loop-below : goal.invariant-loop-below
invariant-loop-below l = (l.below-end ≤ nodes) × (child_of l.node l.name ≡ named_from l.below (l.below-end - l.below) l.name)
