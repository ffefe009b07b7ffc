-- Both tests together say whether the part fits, without a sum that could be too large.
use Rattle.std.proofs.Common.{arith}
use Rattle.sheet.proofs.Parted.{part-short, part-whole}
use Rattle.sheet.proofs.reader.part.Goals as goal
use Rattle.sheet.proofs.reader.part.Goals.{then-sheet-start-via-then-sheet-start, then-sheet-start-via-else-sheet-start+then-sheet-start-2}

pub returns-then-sheet-start : goal.returns-then-sheet-start
returns-then-sheet-start c =
    elim c.then-sheet-start.branch [
      | then-sheet-start-via-then-sheet-start w ↦
          let out = w.if-sheet-start.true in part-short c.args.sheet.now c.args.start c.args.length (omega arith)
      | then-sheet-start-via-else-sheet-start+then-sheet-start-2 w ↦
          let here = w.if-sheet-start.false in
          let out = w.if-sheet-start-2.true in
          part-short c.args.sheet.now c.args.start c.args.length (omega arith)
    ]

pub returns : goal.returns
returns c =
    let here = c.if-sheet-start.false in
    let all = c.if-sheet-start-2.false in
    part-whole c.args.sheet.now c.args.start c.args.length (omega arith)
