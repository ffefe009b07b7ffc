-- Of each public function: no second result satisfies its contract, and no second room, slip buffer or array behind it.
-- Assumes nothing.
use mathlib.Core.Path.{◌≡◌}
use mathlib.Core.List.{List}
use Prim.Native.Nat.{ℕ}
use Rattle.shape.proofs.Single.{Settled, SettledWith, by-equation, by-equations}
use Rattle.damvurit.proofs.damvurit_room_size.Kinds as room-size-kinds
use Rattle.damvurit.proofs.damvurit_room_size.Reads as room-size-reads
use Rattle.damvurit.proofs.damvurit_lay_out.Kinds as lay-out-kinds
use Rattle.damvurit.proofs.damvurit_lay_out.Reads as lay-out-reads
use Rattle.damvurit.proofs.damvurit_open.Kinds as open-kinds
use Rattle.damvurit.proofs.damvurit_open.Reads as open-reads
use Rattle.damvurit.proofs.damvurit_close.Kinds as close-kinds
use Rattle.damvurit.proofs.damvurit_close.Reads as close-reads
use Rattle.damvurit.proofs.damvurit_set.Kinds as set-kinds
use Rattle.damvurit.proofs.damvurit_set.Reads as set-reads
use Rattle.damvurit.proofs.damvurit_submit.Kinds as submit-kinds
use Rattle.damvurit.proofs.damvurit_submit.Reads as submit-reads
use Rattle.damvurit.proofs.damvurit_take_back.Kinds as take-back-kinds
use Rattle.damvurit.proofs.damvurit_take_back.Reads as take-back-reads
use Rattle.damvurit.proofs.damvurit_read.Kinds as read-kinds
use Rattle.damvurit.proofs.damvurit_read.Reads as read-reads
use Rattle.damvurit.proofs.damvurit_write_slip.Kinds as write-slip-kinds
use Rattle.damvurit.proofs.damvurit_write_slip.Reads as write-slip-reads
use Rattle.damvurit.proofs.damvurit_read_slip.Kinds as read-slip-kinds
use Rattle.damvurit.proofs.damvurit_read_slip.Reads as read-slip-reads

pub room-size : Settled _ room-size-kinds.ps room-size-kinds.r room-size-reads.Post
room-size κs a x y e f = by-equation

pub lay-out : SettledWith _ lay-out-kinds.ps lay-out-kinds.r lay-out-reads.Post (List ℕ) (λ κs e. e.0.now)
lay-out κs a x y e f = by-equations

pub opening : SettledWith _ open-kinds.ps open-kinds.r open-reads.Post (List ℕ) (λ κs e. e.0.now)
opening κs a x y e f = by-equations

pub close : SettledWith _ close-kinds.ps close-kinds.r close-reads.Post (List ℕ) (λ κs e. e.0.now)
close κs a x y e f = by-equations

pub set : SettledWith _ set-kinds.ps set-kinds.r set-reads.Post (List ℕ) (λ κs e. e.0.now)
set κs a x y e f = by-equations

pub take_back : SettledWith _ take-back-kinds.ps take-back-kinds.r take-back-reads.Post (List ℕ) (λ κs e. e.0.now)
take_back κs a x y e f = by-equations

-- the room and the slip buffer at exit are both settled
two : {A B : Type 0} {u v : A} {w z : B} → u ≡ v → w ≡ z → ◌≡◌ {A = A × B} (u, w) (v, z)
two e f = rw (e, f)

pub submit : SettledWith _ submit-kinds.ps submit-kinds.r submit-reads.Post (List ℕ × List ℕ)
    (λ κs e. (e.0.now, e.1.1.1.1.1.1.1.0.now))
submit κs a x y e f p q =
    (by-equation p.0 q.0, two (by-equation p.1.0 q.1.0) (by-equation p.1.1 q.1.1))

-- the array at exit is settled too
pub read : SettledWith _ read-kinds.ps read-kinds.r read-reads.Post (List ℕ) (λ κs e. e.1.1.1.1.1.1.0.now)
read κs a x y e f = by-equations

pub write-slip : SettledWith _ write-slip-kinds.ps write-slip-kinds.r write-slip-reads.Post (List ℕ) (λ κs e. e.1.1.1.1.1.1.0.now)
write-slip κs a x y e f = by-equations

pub read-slip : SettledWith _ read-slip-kinds.ps read-slip-kinds.r read-slip-reads.Post (List ℕ) (λ κs e. e.1.0.now)
read-slip κs a x y e f = by-equations
