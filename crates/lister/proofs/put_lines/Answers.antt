use Rattle.std.proofs.Common.{arith, refl, ◌∙◌, ◌+◌, ◌-◌, get_or}
use lib.ListN.{set, length-set}
use Rattle.outline.specs.Rows.{text_at}
use Rattle.outline.proofs.Walk.{around-low}
use Rattle.lister.proofs.Written.{wrote_as, still-less, still-nothing}
use Rattle.lister.proofs.Lines.{lines-begin, fields-begin, lines_end, fields-end, turn, line-front, holds-one}
use Rattle.lister.proofs.put_lines.Goals as goal

pub loop-k-init : goal.loop-k-init
loop-k-init c = (refl, omega arith, omega arith, lines-begin _ _ _ _ _ _, fields-begin _ _ _ _ _)

pub loop-k-preserved : goal.loop-k-preserved
loop-k-preserved c =
    let low = around-low c.names_around-level.result (get_or c.args.sheet.now.depths c.loop-k.k 0 - 1) c.loop-k.level c.names_around-level.ensures in
    let one = holds-one (text_at c.args.s.now (get_or c.args.sheet.now.starts c.loop-k.k 0)) in
    let long = length-set c.loop-k.stack c.names_around-level.result (get_or c.args.sheet.now.starts c.loop-k.k 0) in
    let rest =
    turn c.args.s.now c.args.sheet.now.count c.args.sheet.now.starts c.args.sheet.now.depths c.loop-k.stack c.loop-k.level c.loop-k.k c.names_around-level.result
    (omega (arith, c.loop-k.invariant.0)) c.names_around-level.ensures c.loop-k-test.true (omega arith) (omega arith) in (
      long ∙ c.loop-k.invariant.0,
      omega arith,
      omega (arith, c.texts_at-fields.ensures),
      still-less c.loop-k.invariant.3 rest.0
          (wrote_as c.put_line-to.ensures
          (line-front c.args.s.now (set c.loop-k.stack c.names_around-level.result (get_or c.args.sheet.now.starts c.loop-k.k 0)) (c.names_around-level.result + 1)
          (get_or c.args.sheet.now.starts c.loop-k.k 0) (omega (arith, c.loop-k.invariant.0, long)))),
      omega (arith, c.loop-k.invariant.4, c.texts_at-fields.ensures, rest.1),
    )

pub returns-clause-wrote : goal.returns-clause-wrote
returns-clause-wrote c =
    still-nothing c.loop-k.invariant.3
    (lines_end c.args.s.now c.args.sheet.now.count c.args.sheet.now.starts c.args.sheet.now.depths c.loop-k.stack c.loop-k.level c.loop-k.k c.loop-k-test.false)

pub returns-clause-fields_value : goal.returns-clause-fields_value
returns-clause-fields_value c =
    omega (
      arith,
      c.loop-k.invariant.4,
      fields-end c.args.s.now c.args.sheet.now.count c.args.sheet.now.starts c.args.sheet.now.depths c.loop-k.stack c.loop-k.level c.loop-k.k c.loop-k-test.false,
    )
