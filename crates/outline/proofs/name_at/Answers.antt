-- The name's bytes are those from after the `<` to where they end.
use Rattle.std.proofs.Common.{arith, ◌+◌}
use Rattle.sheet.specs.Grammar.{is_name_byte}
use Rattle.sheet.proofs.While.{while-inside}
use Rattle.outline.proofs.Named.{name-part, no_name}
use Rattle.outline.proofs.name_at.Goals as goal

pub returns-then-s-start : goal.returns-then-s-start
returns-then-s-start c = no_name c.args.s.now c.args.start c.if-s-start.true

pub slice_bounds-result-end-2 : goal.slice_bounds-result-end-2
slice_bounds-result-end-2 c =
    omega (arith, c.name_bytes_end-to.ensures, while-inside is_name_byte c.args.s.now (c.args.start + 1) (omega arith))

pub returns : goal.returns
returns c = name-part c.args.s.now c.args.start c.name_bytes_end-to.result c.name_bytes_end-to.ensures
