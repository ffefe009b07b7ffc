-- The calls that the demands speak of are the calls that the code makes. Of each function of `centre` or `lender` that is a call: whatever
-- satisfies its contract has the answer `call_told`, leaves the room `call_room` and, where a slip buffer was lent, the buffer `call_slip`.
-- That is stated over the contract's own reading (`F.Reads.Post`), so that a line of `specs/Calls.antt` which cites another definition than the
-- contract does is refused here. `lay_out` is tied to the definitions that demand 1's `LaidOut` is about.
-- Four calls of `centre` take the directory as a lent slice of records: `open_seat`, `set_account`, `submit_sheet` and `read_account`. `lender`'s
-- four functions make one of these calls each and promise the same of a directory by value.
-- Where a call takes no directory the demands may have any, and where it is lent no room they may have any room.
-- Assumes nothing.
use mathlib.Core.Path.{◌≡◌, refl}
use mathlib.Core.List.{List}
use Prim.Native.Nat.{ℕ}
use contract.Lifetimes.{Lfts}
use denote.Triple.Clauses.{AtExit}
use borrow.Fn.Kinds.{ParamKind, ResultKind, Dens, res_t, ended_of, Out}
use Rattle.directory.specs.declared.Participant.{Participant}
use Rattle.directory.specs.Gathering.{directory_in}
use Rattle.centre.specs.Answers.{Answer, told}
use Rattle.centre.specs.Calls.{lay_told, lay_after}
use Rattle.centre.proofs.lay_out.Kinds as lay-out-kinds
use Rattle.centre.proofs.lay_out.Reads as lay-out-reads
use Rattle.centre.proofs.open_among.Kinds as open-among-kinds
use Rattle.centre.proofs.open_among.Reads as open-among-reads
use Rattle.centre.proofs.close_seat.Kinds as close-seat-kinds
use Rattle.centre.proofs.close_seat.Reads as close-seat-reads
use Rattle.centre.proofs.set_among.Kinds as set-among-kinds
use Rattle.centre.proofs.set_among.Reads as set-among-reads
use Rattle.centre.proofs.submit_among.Kinds as submit-among-kinds
use Rattle.centre.proofs.submit_among.Reads as submit-among-reads
use Rattle.centre.proofs.take_back.Kinds as take-back-kinds
use Rattle.centre.proofs.take_back.Reads as take-back-reads
use Rattle.centre.proofs.read_among.Kinds as read-among-kinds
use Rattle.centre.proofs.read_among.Reads as read-among-reads
use Rattle.centre.proofs.write_slip.Kinds as write-slip-kinds
use Rattle.centre.proofs.write_slip.Reads as write-slip-reads
use Rattle.centre.proofs.read_slip.Kinds as read-slip-kinds
use Rattle.centre.proofs.read_slip.Reads as read-slip-reads
use Rattle.centre.proofs.open_seat.Kinds as open-seat-kinds
use Rattle.centre.proofs.open_seat.Reads as open-seat-reads
use Rattle.centre.proofs.set_account.Kinds as set-account-kinds
use Rattle.centre.proofs.set_account.Reads as set-account-reads
use Rattle.centre.proofs.submit_sheet.Kinds as submit-sheet-kinds
use Rattle.centre.proofs.submit_sheet.Reads as submit-sheet-reads
use Rattle.centre.proofs.read_account.Kinds as read-account-kinds
use Rattle.centre.proofs.read_account.Reads as read-account-reads
use Rattle.lender.proofs.open_with.Kinds as open-with-kinds
use Rattle.lender.proofs.open_with.Reads as open-with-reads
use Rattle.lender.proofs.set_with.Kinds as set-with-kinds
use Rattle.lender.proofs.set_with.Reads as set-with-reads
use Rattle.lender.proofs.submit_with.Kinds as submit-with-kinds
use Rattle.lender.proofs.submit_with.Reads as submit-with-reads
use Rattle.lender.proofs.read_with.Kinds as read-with-kinds
use Rattle.lender.proofs.read_with.Reads as read-with-reads
use Rattle.demands.specs.Calls.{
  Call,
  opening,
  under,
  writing,
  reading,
  close,
  set,
  submit,
  take_back,
  read,
  act_told,
  call_told,
  act_room,
  call_room,
  act_slip,
  call_slip,
}

-- whatever answer `x` and exit `e` satisfy a contract at arguments `a`, so much is true of them
abbrev pub Tied : (n : ℕ) (ps : List (ParamKind n)) (r : ResultKind n) → Out n ps r
    → ((κs : Lfts n) (a : Dens κs ps) (x : (res_t r κs).Denot) (e : AtExit (ended_of n ps r) κs) → Type 0) → Type 0
Tied n ps r Post So =
    (κs : Lfts n) (a : Dens κs ps) (x : (res_t r κs).Denot) (e : AtExit (ended_of n ps r) κs) → Post κs a x e → So κs a x e

-- in a room, an answer and the room after it are a call's
abbrev IsCall : List Participant → Call → List ℕ → Answer → List ℕ → Type 0
IsCall dir call room x left = (told x ≡ call_told dir call room) × (left ≡ call_room dir call room)

-- and the slip buffer after it
abbrev IsCallWithSlip : List Participant → Call → List ℕ → Answer → List ℕ → List ℕ → Type 0
IsCallWithSlip dir call room x left slip = (told x ≡ call_told dir call room) × ((left ≡ call_room dir call room) × (slip ≡ call_slip dir call room))

-- the calls of `centre`
pub lay-out : Tied _ lay-out-kinds.ps lay-out-kinds.r lay-out-reads.Post
    (λ κs a x e. (told x ≡ lay_told a.0.now) × (e.0.now ≡ lay_after a.0.now))
lay-out κs a x e p = p

pub open-among : Tied _ open-among-kinds.ps open-among-kinds.r open-among-reads.Post
    (λ κs a x e. IsCall (directory_in a.1.0) (opening a.1.1.0 a.1.1.1.0.now) a.0.now x e.0.now)
unfolding call_told call_room
open-among κs a x e p = p

pub close-seat : (dir : List Participant) → Tied _ close-seat-kinds.ps close-seat-kinds.r close-seat-reads.Post
    (λ κs a x e. IsCall dir (under a.1.0 close) a.0.now x e.0.now)
unfolding call_told act_told call_room act_room
close-seat dir κs a x e p = p

pub set-among : Tied _ set-among-kinds.ps set-among-kinds.r set-among-reads.Post
    (λ κs a x e. IsCall (directory_in a.1.0) (under a.1.1.0 (set a.1.1.1.0 a.1.1.1.1.0 a.1.1.1.1.1.0))
    a.0.now x e.0.now)
unfolding call_told act_told call_room act_room
set-among κs a x e p = p

pub submit-among : Tied _ submit-among-kinds.ps submit-among-kinds.r submit-among-reads.Post
    (λ κs a x e. IsCallWithSlip (directory_in a.1.0)
    (under a.1.1.0 (submit a.1.1.1.0 a.1.1.1.1.0 a.1.1.1.1.1.0.now a.1.1.1.1.1.1.0.now))
    a.0.now x e.0.now e.1.1.1.1.1.1.0.now)
unfolding call_told act_told call_room act_room call_slip act_slip
submit-among κs a x e p = p

pub take_back_lem : (dir : List Participant) → Tied _ take-back-kinds.ps take-back-kinds.r take-back-reads.Post
    (λ κs a x e. IsCall dir (under a.1.0 take_back) a.0.now x e.0.now)
unfolding call_told act_told call_room act_room
take_back_lem dir κs a x e p = p

-- what is read is lent shared: the room after the call is the room before it
pub read-among : Tied _ read-among-kinds.ps read-among-kinds.r read-among-reads.Post
    (λ κs a x e. IsCall (directory_in a.1.0) (under a.1.1.0 (read a.1.1.1.0 a.1.1.1.1.0)) a.0.now x a.0.now)
unfolding call_told act_told call_room act_room
read-among κs a x e p = (p, refl)

pub write-slip : (dir : List Participant) (room : List ℕ) → Tied _ write-slip-kinds.ps write-slip-kinds.r write-slip-reads.Post
    (λ κs a x e. IsCallWithSlip dir (writing a.0 a.1.0.now) room x room e.1.0.now)
unfolding call_told call_room call_slip
write-slip dir room κs a x e p = (p.0, (refl, p.1))

pub read-slip : (dir : List Participant) (room : List ℕ) → Tied _ read-slip-kinds.ps read-slip-kinds.r read-slip-reads.Post
    (λ κs a x e. IsCall dir (reading a.0.now) room x room)
unfolding call_told call_room
read-slip dir room κs a x e p = (p, refl)

-- the calls that are lent the directory
pub open-seat : Tied _ open-seat-kinds.ps open-seat-kinds.r open-seat-reads.Post
    (λ κs a x e. IsCall a.1.0.now (opening a.1.1.0 a.1.1.1.0.now) a.0.now x e.0.now)
unfolding call_told call_room
open-seat κs a x e p = p

pub set-account : Tied _ set-account-kinds.ps set-account-kinds.r set-account-reads.Post
    (λ κs a x e. IsCall a.1.0.now (under a.1.1.0 (set a.1.1.1.0 a.1.1.1.1.0 a.1.1.1.1.1.0)) a.0.now x e.0.now)
unfolding call_told act_told call_room act_room
set-account κs a x e p = p

pub submit-sheet : Tied _ submit-sheet-kinds.ps submit-sheet-kinds.r submit-sheet-reads.Post
    (λ κs a x e. IsCallWithSlip a.1.0.now
    (under a.1.1.0 (submit a.1.1.1.0 a.1.1.1.1.0 a.1.1.1.1.1.0.now a.1.1.1.1.1.1.0.now))
    a.0.now x e.0.now e.1.1.1.1.1.1.0.now)
unfolding call_told act_told call_room act_room call_slip act_slip
submit-sheet κs a x e p = p

pub read-account : Tied _ read-account-kinds.ps read-account-kinds.r read-account-reads.Post
    (λ κs a x e. IsCall a.1.0.now (under a.1.1.0 (read a.1.1.1.0 a.1.1.1.1.0)) a.0.now x a.0.now)
unfolding call_told act_told call_room act_room
read-account κs a x e p = (p, refl)

-- the calls of `lender`
pub open-with : Tied _ open-with-kinds.ps open-with-kinds.r open-with-reads.Post
    (λ κs a x e. IsCall (directory_in a.1.0) (opening a.1.1.0 a.1.1.1.0.now) a.0.now x e.0.now)
unfolding call_told call_room
open-with κs a x e p = p

pub set-with : Tied _ set-with-kinds.ps set-with-kinds.r set-with-reads.Post
    (λ κs a x e. IsCall (directory_in a.1.0) (under a.1.1.0 (set a.1.1.1.0 a.1.1.1.1.0 a.1.1.1.1.1.0))
    a.0.now x e.0.now)
unfolding call_told act_told call_room act_room
set-with κs a x e p = p

pub submit-with : Tied _ submit-with-kinds.ps submit-with-kinds.r submit-with-reads.Post
    (λ κs a x e. IsCallWithSlip (directory_in a.1.0)
    (under a.1.1.0 (submit a.1.1.1.0 a.1.1.1.1.0 a.1.1.1.1.1.0.now a.1.1.1.1.1.1.0.now))
    a.0.now x e.0.now e.1.1.1.1.1.1.0.now)
unfolding call_told act_told call_room act_room call_slip act_slip
submit-with κs a x e p = p

pub read-with : Tied _ read-with-kinds.ps read-with-kinds.r read-with-reads.Post
    (λ κs a x e. IsCall (directory_in a.1.0) (under a.1.1.0 (read a.1.1.1.0 a.1.1.1.1.0)) a.0.now x a.0.now)
unfolding call_told act_told call_room act_room
read-with κs a x e p = (p, refl)
