-- Of each public function: no second answer satisfies its contract, since what is told of an answer is told of no other; and no second room or
-- buffer after it.
-- Assumes nothing.
use mathlib.Core.Path.{◌≡◌}
use mathlib.Core.List.{List}
use Prim.Native.Nat.{ℕ}
use Rattle.shape.proofs.Single.{Settled, SettledWith, by-equation}
use Rattle.std.specs.Prelude.{Err}
use Rattle.centre.specs.Answers.{Answer, Told, told}
use Rattle.centre.specs.declared.answers.Refusal.{Refusal}
use Rattle.centre.proofs.Told.{told-one}
use Rattle.centre.proofs.calls.lay_out.Kinds as lay-out-kinds
use Rattle.centre.proofs.calls.lay_out.Reads as lay-out-reads
use Rattle.centre.proofs.calls.open_among.Kinds as open-among-kinds
use Rattle.centre.proofs.calls.open_among.Reads as open-among-reads
use Rattle.centre.proofs.calls.close_seat.Kinds as close-seat-kinds
use Rattle.centre.proofs.calls.close_seat.Reads as close-seat-reads
use Rattle.centre.proofs.calls.set_found.Kinds as set-found-kinds
use Rattle.centre.proofs.calls.set_found.Reads as set-found-reads
use Rattle.centre.proofs.calls.set_among.Kinds as set-among-kinds
use Rattle.centre.proofs.calls.set_among.Reads as set-among-reads
use Rattle.centre.proofs.calls.take_back.Kinds as take-back-kinds
use Rattle.centre.proofs.calls.take_back.Reads as take-back-reads
use Rattle.centre.proofs.calls.read_found.Kinds as read-found-kinds
use Rattle.centre.proofs.calls.read_found.Reads as read-found-reads
use Rattle.centre.proofs.calls.read_among.Kinds as read-among-kinds
use Rattle.centre.proofs.calls.read_among.Reads as read-among-reads
use Rattle.centre.proofs.submit.received_in.Kinds as received-in-kinds
use Rattle.centre.proofs.submit.received_in.Reads as received-in-reads
use Rattle.centre.proofs.submit.submit_found.Kinds as submit-found-kinds
use Rattle.centre.proofs.submit.submit_found.Reads as submit-found-reads
use Rattle.centre.proofs.submit.submit_among.Kinds as submit-among-kinds
use Rattle.centre.proofs.submit.submit_among.Reads as submit-among-reads
use Rattle.centre.proofs.slips.write_slip.Kinds as write-slip-kinds
use Rattle.centre.proofs.slips.write_slip.Reads as write-slip-reads
use Rattle.centre.proofs.slips.read_slip.Kinds as read-slip-kinds
use Rattle.centre.proofs.slips.read_slip.Reads as read-slip-reads
use Rattle.centre.proofs.lent.open_seat.Kinds as open-seat-kinds
use Rattle.centre.proofs.lent.open_seat.Reads as open-seat-reads
use Rattle.centre.proofs.lent.set_account.Kinds as set-account-kinds
use Rattle.centre.proofs.lent.set_account.Reads as set-account-reads
use Rattle.centre.proofs.lent.read_account.Kinds as read-account-kinds
use Rattle.centre.proofs.lent.read_account.Reads as read-account-reads
use Rattle.centre.proofs.lent.submit_sheet.Kinds as submit-sheet-kinds
use Rattle.centre.proofs.lent.submit_sheet.Reads as submit-sheet-reads
use Rattle.centre.proofs.answers.RefusalFromSeatRefusal.from.Kinds as from-seat-kinds
use Rattle.centre.proofs.answers.RefusalFromSeatRefusal.from.Reads as from-seat-reads
use Rattle.centre.proofs.answers.RefusalFromMessageRefusal.from.Kinds as from-message-kinds
use Rattle.centre.proofs.answers.RefusalFromMessageRefusal.from.Reads as from-message-reads
use Rattle.centre.proofs.answers.RefusalFromSlipNoSlip.from.Kinds as from-slip-kinds
use Rattle.centre.proofs.answers.RefusalFromSlipNoSlip.from.Reads as from-slip-reads
use Rattle.centre.proofs.answers.Refusal.number.Kinds as number-kinds
use Rattle.centre.proofs.answers.Refusal.number.Reads as number-reads
use Rattle.centre.proofs.answers.Refusal.detail.Kinds as detail-kinds
use Rattle.centre.proofs.answers.Refusal.detail.Reads as detail-reads

-- a contract that says what is told of the answer settles the answer
pub by-told : {t : Told} (x y : Answer) → told x ≡ t → told y ≡ t → x ≡ y
by-told x y p q = told-one x y (by-equation p q)

pub by-told-and-left : {t : Told} {B : Type 0} {u v w : B} (x y : Answer) → (told x ≡ t) × (u ≡ w) → (told y ≡ t) × (v ≡ w) → (x ≡ y) × (u ≡ v)
by-told-and-left x y p q = (by-told x y p.0 q.0, by-equation p.1 q.1)

pub lay-out : SettledWith _ lay-out-kinds.ps lay-out-kinds.r lay-out-reads.Post (List ℕ) (λ κs e. e.0.now)
lay-out κs a x y e f = by-told-and-left x y

pub open-among : SettledWith _ open-among-kinds.ps open-among-kinds.r open-among-reads.Post (List ℕ) (λ κs e. e.0.now)
open-among κs a x y e f = by-told-and-left x y

pub close-seat : SettledWith _ close-seat-kinds.ps close-seat-kinds.r close-seat-reads.Post (List ℕ) (λ κs e. e.0.now)
close-seat κs a x y e f = by-told-and-left x y

pub set_found : SettledWith _ set-found-kinds.ps set-found-kinds.r set-found-reads.Post (List ℕ) (λ κs e. e.0.now)
set_found κs a x y e f = by-told-and-left x y

pub set-among : SettledWith _ set-among-kinds.ps set-among-kinds.r set-among-reads.Post (List ℕ) (λ κs e. e.0.now)
set-among κs a x y e f = by-told-and-left x y

pub take_back : SettledWith _ take-back-kinds.ps take-back-kinds.r take-back-reads.Post (List ℕ) (λ κs e. e.0.now)
take_back κs a x y e f = by-told-and-left x y

pub read_found : Settled _ read-found-kinds.ps read-found-kinds.r read-found-reads.Post
read_found κs a x y e f = by-told x y

pub read-among : Settled _ read-among-kinds.ps read-among-kinds.r read-among-reads.Post
read-among κs a x y e f = by-told x y

-- the room and the buffer at exit are both settled
two : {A B : Type 0} {u v : A} {w z : B} → u ≡ v → w ≡ z → ◌≡◌ {A = A × B} (u, w) (v, z)
two e f = rw (e, f)

pub received-in : Settled _ received-in-kinds.ps received-in-kinds.r received-in-reads.Post
received-in κs a x y e f = by-equation

pub submit-found : SettledWith _ submit-found-kinds.ps submit-found-kinds.r submit-found-reads.Post (List ℕ × List ℕ)
    (λ κs e. (e.0.now, e.1.1.1.1.1.1.1.0.now))
submit-found κs a x y e f p q =
    (by-told x y p.0 q.0, two (by-equation p.1.0 q.1.0) (by-equation p.1.1 q.1.1))

pub submit-among : SettledWith _ submit-among-kinds.ps submit-among-kinds.r submit-among-reads.Post (List ℕ × List ℕ)
    (λ κs e. (e.0.now, e.1.1.1.1.1.1.0.now))
submit-among κs a x y e f p q =
    (by-told x y p.0 q.0, two (by-equation p.1.0 q.1.0) (by-equation p.1.1 q.1.1))

-- the buffer at exit is settled too
pub write-slip : SettledWith _ write-slip-kinds.ps write-slip-kinds.r write-slip-reads.Post (List ℕ) (λ κs e. e.1.0.now)
write-slip κs a x y e f = by-told-and-left x y

pub read-slip : Settled _ read-slip-kinds.ps read-slip-kinds.r read-slip-reads.Post
read-slip κs a x y e f = by-told x y

-- of the calls over a lent slice of records
pub open-seat : SettledWith _ open-seat-kinds.ps open-seat-kinds.r open-seat-reads.Post (List ℕ) (λ κs e. e.0.now)
open-seat κs a x y e f = by-told-and-left x y

pub set-account : SettledWith _ set-account-kinds.ps set-account-kinds.r set-account-reads.Post (List ℕ) (λ κs e. e.0.now)
set-account κs a x y e f = by-told-and-left x y

pub read-account : Settled _ read-account-kinds.ps read-account-kinds.r read-account-reads.Post
read-account κs a x y e f = by-told x y

-- and of this one the buffer at exit too
pub submit-sheet : SettledWith _ submit-sheet-kinds.ps submit-sheet-kinds.r submit-sheet-reads.Post (List ℕ × List ℕ)
    (λ κs e. (e.0.now, e.1.1.1.1.1.1.0.now))
submit-sheet κs a x y e f p q =
    (by-told x y p.0 q.0, two (by-equation p.1.0 q.1.0) (by-equation p.1.1 q.1.1))

-- of the two numbers that a refusal is told by
pub number-of-refusal : Settled _ number-kinds.ps number-kinds.r number-reads.Post
number-of-refusal κs a x y e f = by-equation

pub detail-of-refusal : Settled _ detail-kinds.ps detail-kinds.r detail-reads.Post
detail-of-refusal κs a x y e f = by-equation

-- what is told of a refusal settles the refusal
one-refusal : (x y : Refusal) → told (Err x) ≡ told (Err y) → x ≡ y
one-refusal x y e =
    let same : Err x ≡ Err y = told-one (Err x) (Err y) e in
    cc

pub from-seat : Settled _ from-seat-kinds.ps from-seat-kinds.r from-seat-reads.Post
from-seat κs a x y e f p q = one-refusal x y (by-equation p q)

pub from-message : Settled _ from-message-kinds.ps from-message-kinds.r from-message-reads.Post
from-message κs a x y e f p q = one-refusal x y (by-equation p q)

pub from-slip : Settled _ from-slip-kinds.ps from-slip-kinds.r from-slip-reads.Post
from-slip κs a x y e f = by-equation
