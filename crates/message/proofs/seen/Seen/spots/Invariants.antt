-- The spots of the fields so far stand in the array, and after them those of no text.
use Rattle.std.proofs.Common.{◌≡◌, map}
use Rattle.message.specs.Message.{spot_in}
use Rattle.message.specs.Seen.{held_by}
use Rattle.message.proofs.Filled.{filled}
use Rattle.message.proofs.seen.Seen.spots.Given as goal

abbrev pub invariant-loop-k : goal.invariant-loop-k
invariant-loop-k l = l.spots ≡ filled (map spot_in (held_by l.self)) l.k
