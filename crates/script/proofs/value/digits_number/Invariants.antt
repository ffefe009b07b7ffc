-- The number so far and the digits left write the same number in every turn, and i digits stay below the i-th power of ten.
use Rattle.std.proofs.Common.{◌≡◌, ◌<◌, ◌^◌, drop}
use Rattle.shape.specs.Numbers.{decimal, decimal_from}
use Rattle.script.proofs.value.digits_number.Given as goal

abbrev pub invariant-loop-b : goal.invariant-loop-b
invariant-loop-b l = record {
  rest : decimal l.s ≡ decimal_from l.n (drop l.b-index l.s);
  below : l.n < 10 ^ l.b-index;
}
