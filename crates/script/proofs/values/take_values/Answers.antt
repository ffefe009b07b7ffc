-- One value more.
use Rattle.std.proofs.Common.{◌∙◌, sym, arith, length-set}
use Rattle.script.specs.declared.values.Want.TheVariants.{Number}
use Rattle.script.proofs.Takes.{take_on, next-within}
use Rattle.script.proofs.values.take_values.Goals as goal

pub loop-count-preserved : goal.loop-count-preserved
loop-count-preserved c = record {
  within = rw (c.skip_blanks-rest.ensures, c.word_end-end.ensures) (next-within c.args.s.now c.loop-count.rest c.loop-count.invariant.within);
  room = simp length-set c.loop-count.invariant.room;
  left =
      c.loop-count.invariant.left
      ∙ take_on c.args.wants.now c.args.s.now c.loop-count.count Number c.loop-count.values c.loop-count.rest c.in-Some.n (omega arith)
      (sym (c.value_of.ensures ∙ rw c.word_end-end.ensures) ∙ c.in-Some.is)
      ∙ rw (c.skip_blanks-rest.ensures, c.word_end-end.ensures);
}
