use Rattle.std.proofs.Common.{ap, ◌∙◌, ◌+◌}
use Rattle.sheet.specs.Grammar.{is_name_byte}
use Rattle.sheet.proofs.While.{counted-from}
use Rattle.sheet.proofs.reader.name_bytes_end.Goals as goal

pub returns : goal.returns
returns c = ap (λ n. c.args.from + n) (c.name_run.ensures.value ∙ counted-from is_name_byte c.args.sheet.now c.args.from)
