-- Few records were gathered.
use mathlib.Core.Path.{sym, subst}
use mathlib.Core.List.{List}
use Prim.Native.Nat.{◌≤◌}
use lib.ListN.{length}
use Rattle.directory.specs.declared.Participant.{Participant}
use Rattle.directory.specs.Directory.{records_most}
use Rattle.seat.proofs.Pairs.{records-few}
use Rattle.seat.proofs.calls.open_answer.Goals as goal

pub sums_good-requires : goal.sums_good-requires
sums_good-requires c =
    subst (λ (dir : List Participant). length dir ≤ records_most) (sym c.as_slice.ensures) (records-few c.args.g c.requires.1)
