use Rattle.std.proofs.Common.{◌≡◌, ◌≤◌, length, ◌+◌}
use Rattle.sheet.proofs.Tags.{ccy_pattern, CcyTo}
use Rattle.sheet.proofs.parts.attribute.Given as goal

-- the bytes so far are those of a Ccy
abbrev pub invariant-loop-k : goal.invariant-loop-k
invariant-loop-k l = (l.c-items ≡ ccy_pattern) × (l.k ≤ 10) × (l.from + l.k ≤ length l.s) × CcyTo l.s l.from l.k
