use Rattle.std.proofs.Common.{◌≡◌, ◌≤◌, length, ◌+◌, ◌-◌}
use Rattle.sheet.specs.Parts.{part_of}
use Rattle.sheet.proofs.Tags.{EndTo}
use Rattle.sheet.proofs.parts.closing.Given as goal

-- the bytes so far are those of the name
abbrev pub invariant-loop-k : goal.invariant-loop-k
invariant-loop-k l =
    (l.b-items ≡ part_of l.s l.from l.to) × (l.k-end ≡ l.to - l.from) × (l.k ≤ l.k-end) × (l.at + l.k ≤ length l.s) × EndTo l.s l.at l.from l.to l.k
