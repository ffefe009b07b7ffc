-- The cases of the two stages hold because every call, worked out, gives what stands beside it.
-- Assumes nothing.
use mathlib.Core.List.{List, [], ◌∷◌}
use mathlib.Core.Path.{◌≡◌, refl}
use Prim.Native.Nat.{ℕ}
use Rattle.cases.specs.Cases.{directory, started}
use Rattle.cases.proofs.Opened.{opened}
use Rattle.stages.specs.Stages.{
  settled,
  rejected,
  short,
  filled,
  branch,
  receiver_alone,
  paid,
  answered_elsewhere,
  read_again,
  elsewhere,
  calls_of,
  answers_of,
  room_after,
  played_in,
  Holds,
  none,
  also,
  Stages,
}

settled-holds : Holds started settled
unfolding opened
settled-holds = also _ _ _ refl (none _)

rejected-holds : Holds started rejected
unfolding opened
rejected-holds = also _ _ _ refl (none _)

short-holds : Holds started short
unfolding opened
short-holds = also _ _ _ refl (none _)

filled-holds : Holds started filled
unfolding opened
filled-holds = also _ _ _ refl (none _)

branch-holds : Holds started branch
unfolding opened
branch-holds = also _ _ _ refl (none _)

-- part by part, each from the room that the one before it left
abbrev room_paid : List ℕ
room_paid = room_after directory (calls_of paid) started

abbrev room_answered : List ℕ
room_answered = room_after receiver_alone (calls_of answered_elsewhere) room_paid

paid-so : played_in paid started ≡ answers_of paid
unfolding opened
paid-so = refl

answered-so : played_in answered_elsewhere room_paid ≡ answers_of answered_elsewhere
unfolding opened
answered-so = refl

read-so : played_in read_again room_answered ≡ answers_of read_again
unfolding opened
read-so = refl

elsewhere-holds : Holds started elsewhere
elsewhere-holds =
    also started paid (answered_elsewhere ∷ read_again ∷ []) paid-so
    (also room_paid answered_elsewhere (read_again ∷ []) answered-so
    (also room_answered read_again [] read-so (none (room_after directory (calls_of read_again) room_answered))))

pub stages : Stages
stages = record {
  settled-holds = settled-holds;
  rejected-holds = rejected-holds;
  short-holds = short-holds;
  filled-holds = filled-holds;
  branch-holds = branch-holds;
  elsewhere-holds = elsewhere-holds;
}
