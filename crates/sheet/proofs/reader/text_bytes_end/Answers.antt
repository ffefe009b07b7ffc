use Rattle.std.proofs.Common.{ap, ◌∙◌, ◌+◌}
use Rattle.shape.specs.Bytes.{is_text}
use Rattle.sheet.proofs.While.{counted-from}
use Rattle.sheet.proofs.reader.text_bytes_end.Goals as goal

pub returns : goal.returns
returns c = ap (λ n. c.args.from + n) (c.text_run.ensures.value ∙ counted-from is_text c.args.sheet.now c.args.from)
