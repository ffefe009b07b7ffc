-- The calls that the demands speak of are the calls that C makes: of each function of `damvurit` that makes one, whatever satisfies its contract
-- has a result that is `call_told` in C's form, leaves the room `call_room` and, where a slip buffer or an array was lent, the buffer `call_slip` or
-- what was told in C's form. It is stated over the contract's own reading (`F.Reads.Post`), as `demands` does of the functions in Rattle.
-- `damvurit_lay_out` is tied to the definitions that demand 1's `LaidOut` is about; `damvurit_room_size` makes no call.
-- Where a call takes no directory the demands may have any, and where it is lent no room they may have any room.
-- Assumes nothing.
use mathlib.Core.Path.{◌≡◌, refl}
use mathlib.Core.List.{List}
use Prim.Native.Nat.{ℕ}
use Rattle.directory.specs.declared.Participant.{Participant}
use Rattle.centre.specs.Answers.{Told}
use Rattle.centre.specs.Calls.{lay_told, lay_after}
use Rattle.demands.specs.Calls.{
  Call,
  opening,
  under,
  writing,
  reading,
  close,
  set,
  submit,
  take_back,
  read,
  act_told,
  call_told,
  act_room,
  call_room,
  act_slip,
  call_slip,
}
use Rattle.demands.proofs.CallsTied.{Tied}
use Rattle.damvurit.specs.Flat.{flat_directory}
use Rattle.damvurit.specs.Boundary.{result_number, open_result, seven, six, ticket_of, slip_of, wish_of}
use Rattle.damvurit.proofs.damvurit_lay_out.Kinds as lay-out-kinds
use Rattle.damvurit.proofs.damvurit_lay_out.Reads as lay-out-reads
use Rattle.damvurit.proofs.damvurit_open.Kinds as open-kinds
use Rattle.damvurit.proofs.damvurit_open.Reads as open-reads
use Rattle.damvurit.proofs.damvurit_close.Kinds as close-kinds
use Rattle.damvurit.proofs.damvurit_close.Reads as close-reads
use Rattle.damvurit.proofs.damvurit_set.Kinds as set-kinds
use Rattle.damvurit.proofs.damvurit_set.Reads as set-reads
use Rattle.damvurit.proofs.damvurit_submit.Kinds as submit-kinds
use Rattle.damvurit.proofs.damvurit_submit.Reads as submit-reads
use Rattle.damvurit.proofs.damvurit_take_back.Kinds as take-back-kinds
use Rattle.damvurit.proofs.damvurit_take_back.Reads as take-back-reads
use Rattle.damvurit.proofs.damvurit_read.Kinds as read-kinds
use Rattle.damvurit.proofs.damvurit_read.Reads as read-reads
use Rattle.damvurit.proofs.damvurit_write_slip.Kinds as write-slip-kinds
use Rattle.damvurit.proofs.damvurit_write_slip.Reads as write-slip-reads
use Rattle.damvurit.proofs.damvurit_read_slip.Kinds as read-slip-kinds
use Rattle.damvurit.proofs.damvurit_read_slip.Reads as read-slip-reads

-- in a room, a result and the room after it are a call's, where a result has some form
abbrev IsCall : (Told → ℕ) → List Participant → Call → List ℕ → ℕ → List ℕ → Type 0
IsCall form dir call room x left = (x ≡ form (call_told dir call room)) × (left ≡ call_room dir call room)

-- and the slip buffer after it
abbrev IsCallWithSlip : List Participant → Call → List ℕ → ℕ → List ℕ → List ℕ → Type 0
IsCallWithSlip dir call room x left slip = (x ≡ result_number (call_told dir call room)) × ((left ≡ call_room dir call room) × (slip ≡ call_slip dir call room))

-- and the array after it, where what is told has some form
abbrev IsCallWithArray : (Told → List ℕ) → List Participant → Call → List ℕ → ℕ → List ℕ → List ℕ → Type 0
IsCallWithArray form dir call room x left array =
    (x ≡ result_number (call_told dir call room)) × ((left ≡ call_room dir call room) × (array ≡ form (call_told dir call room)))

pub damvurit-lay-out : Tied _ lay-out-kinds.ps lay-out-kinds.r lay-out-reads.Post
    (λ κs a x e. (x ≡ result_number (lay_told a.0.now)) × (e.0.now ≡ lay_after a.0.now))
damvurit-lay-out κs a x e p = p

pub damvurit-open : Tied _ open-kinds.ps open-kinds.r open-reads.Post
    (λ κs a x e. IsCall open_result (flat_directory a.1.0.now) (opening a.1.1.0 a.1.1.1.0.now) a.0.now x e.0.now)
unfolding call_told call_room
damvurit-open κs a x e p = p

pub damvurit-close : (dir : List Participant) → Tied _ close-kinds.ps close-kinds.r close-reads.Post
    (λ κs a x e. IsCall result_number dir (under (ticket_of a.1.0 a.1.1.0) close) a.0.now x e.0.now)
unfolding call_told act_told call_room act_room
damvurit-close dir κs a x e p = p

pub damvurit-set : Tied _ set-kinds.ps set-kinds.r set-reads.Post
    (λ κs a x e. let settings = a.1.1.1.1.1.1 in
    IsCall result_number (flat_directory a.1.0.now)
    (under (ticket_of a.1.1.0 a.1.1.1.0) (set a.1.1.1.1.0 a.1.1.1.1.1.0
    (wish_of settings.0 settings.1.0 settings.1.1.0 settings.1.1.1.0)))
    a.0.now x e.0.now)
unfolding call_told act_told call_room act_room
damvurit-set κs a x e p = p

pub damvurit-submit : Tied _ submit-kinds.ps submit-kinds.r submit-reads.Post
    (λ κs a x e. IsCallWithSlip (flat_directory a.1.0.now)
    (under (ticket_of a.1.1.0 a.1.1.1.0) (submit a.1.1.1.1.0 a.1.1.1.1.1.0
    a.1.1.1.1.1.1.0.now a.1.1.1.1.1.1.1.0.now))
    a.0.now x e.0.now e.1.1.1.1.1.1.1.0.now)
unfolding call_told act_told call_room act_room call_slip act_slip
damvurit-submit κs a x e p = p

pub damvurit-take-back : (dir : List Participant) → Tied _ take-back-kinds.ps take-back-kinds.r take-back-reads.Post
    (λ κs a x e. IsCall result_number dir (under (ticket_of a.1.0 a.1.1.0) take_back) a.0.now x e.0.now)
unfolding call_told act_told call_room act_room
damvurit-take-back dir κs a x e p = p

-- what is read is lent shared: the room after the call is the room before it
pub damvurit-read : Tied _ read-kinds.ps read-kinds.r read-reads.Post
    (λ κs a x e. IsCallWithArray seven (flat_directory a.1.0.now)
    (under (ticket_of a.1.1.0 a.1.1.1.0) (read a.1.1.1.1.0 a.1.1.1.1.1.0))
    a.0.now x a.0.now e.1.1.1.1.1.1.0.now)
unfolding call_told act_told call_room act_room
damvurit-read κs a x e p = (p.0, (refl, p.1))

pub damvurit-write-slip : (dir : List Participant) (room : List ℕ) → Tied _ write-slip-kinds.ps write-slip-kinds.r write-slip-reads.Post
    (λ κs a x e. let slip = slip_of a.0 a.1.0 a.1.1.0 a.1.1.1.0 a.1.1.1.1.0 a.1.1.1.1.1.0 in
    IsCallWithSlip dir (writing slip a.1.1.1.1.1.1.0.now) room x room e.1.1.1.1.1.1.0.now)
unfolding call_told call_room call_slip
damvurit-write-slip dir room κs a x e p = (p.0, (refl, p.1))

pub damvurit-read-slip : (dir : List Participant) (room : List ℕ) → Tied _ read-slip-kinds.ps read-slip-kinds.r read-slip-reads.Post
    (λ κs a x e. IsCallWithArray six dir (reading a.0.now) room x room e.1.0.now)
unfolding call_told call_room
damvurit-read-slip dir room κs a x e p = (p.0, (refl, p.1))
