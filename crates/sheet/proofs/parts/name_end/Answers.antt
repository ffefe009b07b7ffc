-- The bytes are looked at up to the sheet's end, or up to as many as a name may have.
use Rattle.std.proofs.Common.{arith}
use Rattle.sheet.proofs.Row.{name-counted}
use Rattle.sheet.proofs.parts.name_end.Goals as goal

pub returns : goal.returns
returns c =
    rw c.name_run.ensures.value
    (name-counted c.args.s.now c.args.from _ c.requires (omega arith) (omega arith) (omega arith) (λ h. omega arith))
