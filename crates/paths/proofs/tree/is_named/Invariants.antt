use Rattle.std.proofs.Common.{◌≡◌, ◌<◌, length, drop}
use Rattle.outline.specs.Paths.{same_name}
use Rattle.paths.specs.Tree.{name_wide, name_of, before_blank}
use Rattle.paths.proofs.tree.is_named.Given as goal

-- each turn leaves the test as it was, one byte further on
abbrev pub invariant-loop-i : goal.invariant-loop-i
invariant-loop-i l = (length l.line ≡ name_wide) × (length l.name < name_wide)
    × (same_name (name_of l.node) l.name ≡ same_name (before_blank (drop l.i l.line)) (drop l.i l.name))
