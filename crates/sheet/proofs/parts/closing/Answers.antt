use Rattle.std.proofs.Common.{arith, sym, ◌∙◌, refl, ◌-◌}
use Rattle.sheet.proofs.Runs.{part-at, part_length}
use Rattle.sheet.proofs.Tags.{end-begins, end-turn, end-wrong, end-cut, end-done, end-open}
use Rattle.sheet.proofs.parts.closing.Goals as goal
use Rattle.sheet.proofs.parts.closing.Goals.{then-s-place-via-then-s-place, then-s-place-via-else-s-place+then-s-place-2}

pub loop-k-init : goal.loop-k-init
loop-k-init c =
    (refl, part_length c.args.s.now c.args.from c.args.to c.requires.2, omega arith, omega arith, end-begins c.args.s.now c.args.at c.args.from c.args.to c.requires.2)

pub returns-then-s-place : goal.returns-then-s-place
returns-then-s-place c =
    let name = c.loop-k.invariant.1 in
    elim c.then-s-place.branch [
      | then-s-place-via-then-s-place w ↦
          end-cut c.args.s.now c.args.at c.args.from c.args.to c.requires.2 c.loop-k.k c.loop-k.invariant.4 (omega arith) w.if-s-place.true
      | then-s-place-via-else-s-place+then-s-place-2 w ↦
          end-wrong c.args.s.now c.args.at c.args.from c.args.to c.requires.2 c.loop-k.k c.loop-k.invariant.4 (omega arith)
          (λ e. w.if-s-place-2.true (e ∙ sym (part-at c.args.s.now c.args.from c.args.to c.loop-k.k (omega arith))))
    ]

pub loop-k-preserved : goal.loop-k-preserved
loop-k-preserved c =
    let name = c.loop-k.invariant.1 in (
      refl,
      name,
      omega arith,
      omega arith,
      end-turn c.args.s.now c.args.at c.args.from c.args.to c.requires.2 c.loop-k.k c.loop-k.invariant.4 (omega arith) c.if-s-place.false
          (c.if-s-place-2.false ∙ part-at c.args.s.now c.args.from c.args.to c.loop-k.k (omega arith)),
    )

pub returns-then-peek-ne62 : goal.returns-then-peek-ne62
returns-then-peek-ne62 c =
    let name = c.loop-k.invariant.1 in
    end-open c.args.s.now c.args.at c.args.from c.args.to c.requires.2 (c.args.to - c.args.from) c.loop-k.k refl (omega arith) c.loop-k.invariant.4
    (λ e. c.if-peek-ne62.true (c.peek.ensures ∙ e))

pub returns : goal.returns
returns c =
    let name = c.loop-k.invariant.1 in
    end-done c.args.s.now c.args.at c.args.from c.args.to c.requires.2 (c.args.to - c.args.from) c.loop-k.k refl (omega arith) c.loop-k.invariant.4
    (sym c.peek.ensures ∙ c.if-peek-ne62.false)
