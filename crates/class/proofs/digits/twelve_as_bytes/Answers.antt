-- Each of the six bytes is what its two digits write.
use Rattle.std.proofs.Common.{arith}
use Rattle.class.proofs.Performed.{six-places}
use Rattle.class.proofs.digits.twelve_as_bytes.Goals as goal

pub returns : goal.returns
returns c =
    six-places c.bytes_in.new.buffer c.args.ink (omega (arith, c.bytes_in.ensures.long))
    (λ k h. c.bytes_in.ensures.bytes k (omega (arith, c.bytes_in.ensures.count)))
