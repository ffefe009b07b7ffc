-- A digit is 0 to 9, and eighteen of them before it leave room for it.
use Rattle.std.proofs.Common.{refl, ◌∙◌, arith, ◌-◌, slice_index_or}
use Rattle.shape.specs.Numbers.{decimal}
use Rattle.shape.proofs.Loops.{decimal-turn}
use Rattle.script.proofs.Digits.{digit-byte, digit-more, digits-below}
use Rattle.script.proofs.value.digits_number.Goals as goal

pub loop-b-init : goal.loop-b-init
unfolding decimal
loop-b-init c = record { rest = refl; below = omega arith }

pub overflow_mul-n : goal.overflow_mul-n
overflow_mul-n c = omega (arith, digits-below c.loop-b.b-index 18 c.loop-b.n (omega arith) c.loop-b.invariant.below)

pub overflow_sub-n : goal.overflow_sub-n
overflow_sub-n c = omega (arith, (digit-byte c.args.s.now c.requires.1 c.loop-b.b-index (omega arith)).0)

pub overflow_add-n : goal.overflow_add-n
overflow_add-n c =
    omega (
      arith,
      (digit-byte c.args.s.now c.requires.1 c.loop-b.b-index (omega arith)).1,
      digits-below c.loop-b.b-index 18 c.loop-b.n (omega arith) c.loop-b.invariant.below,
    )

pub loop-b-preserved : goal.loop-b-preserved
loop-b-preserved c = record {
  rest = c.loop-b.invariant.rest ∙ decimal-turn c.args.s.now c.loop-b.b-index c.loop-b.n (omega arith);
  below =
      digit-more c.loop-b.b-index c.loop-b.n (slice_index_or c.args.s.now c.loop-b.b-index 0 - 48) c.loop-b.invariant.below
      (omega (arith, (digit-byte c.args.s.now c.requires.1 c.loop-b.b-index (omega arith)).1));
}
