-- The number so far and the bytes that are left make the same number in every turn, and i bytes have eight times as many bits.
use Rattle.std.proofs.Common.{◌≡◌, ◌<◌, ◌*◌, ◌^◌}
use lib.ListN.{drop}
use Rattle.shape.specs.Bits.{joined}
use Rattle.slip.specs.Image.{byte_wide, byte_fields, bytes_number}
use Rattle.slip.proofs.number_in.Given as goal

abbrev pub invariant-loop-b : goal.invariant-loop-b
invariant-loop-b l =
    (bytes_number l.fn.bytes ≡ joined l.n (byte_fields (drop l.b-index l.fn.bytes))) × (l.n < 2 ^ (byte_wide * l.b-index))
