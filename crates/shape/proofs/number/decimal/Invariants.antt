-- The number so far and the digits left write the same number in every turn, and i bytes write at most 23 times the i-th power of ten.
use Rattle.std.proofs.Common.{◌≡◌, ◌+◌, ◌≤◌, ◌*◌, ◌^◌}
use lib.ListN.{drop}
use Rattle.shape.specs.Numbers.{decimal, decimal_from}
use Rattle.shape.proofs.number.decimal.Given as goal

abbrev pub invariant-loop-b : goal.invariant-loop-b
invariant-loop-b l =
    (decimal l.fn.s ≡ decimal_from l.n (drop l.b-index l.fn.s)) × (l.n + 23 ≤ 23 * 10 ^ l.b-index)
