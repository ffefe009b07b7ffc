-- Path, Ccy, blank, text and the line's end; nothing where no text is shown.
use Rattle.std.proofs.Common.{length}
use Rattle.lister.proofs.Written.{wrote_nothing, wrote_then, wrote_as}
use Rattle.lister.specs.Writing.{names_of}
use Rattle.lister.proofs.Parts.{line-none, line-there}
use Rattle.lister.proofs.row.put_line.Goals as goal

pub returns-in_default : goal.returns-in_default
returns-in_default c =
    wrote_as (wrote_nothing _ _)
    (line-none c.args.s.now c.args.start (names_of c.args.s.now c.args.path.now (length c.args.path.now)) c.in_default.ensures)

pub returns : goal.returns
returns c =
    wrote_as
    (wrote_then c.put_path-named.ensures (wrote_then c.put_ccy-with_ccy.ensures (wrote_then c.put-blank.ensures (wrote_then c.put_all-written.ensures c.put.ensures))))
    (line-there c.args.s.now c.args.start (names_of c.args.s.now c.args.path.now (length c.args.path.now)) _ c.in-Some.ensures)
