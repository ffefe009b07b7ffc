-- Of each public function: no second answer satisfies its contract, since what is told of an answer is told of no other; and no second
-- room or slip behind it.
-- Assumes nothing.
use mathlib.Core.Path.{◌≡◌}
use mathlib.Core.List.{List}
use Prim.Native.Nat.{ℕ}
use Rattle.shape.proofs.Single.{Settled, SettledWith, by-equation}
use Rattle.centre.proofs.Settled.{by-told, by-told-and-left}
use Rattle.lender.proofs.open_with.Kinds as open-with-kinds
use Rattle.lender.proofs.open_with.Reads as open-with-reads
use Rattle.lender.proofs.set_with.Kinds as set-with-kinds
use Rattle.lender.proofs.set_with.Reads as set-with-reads
use Rattle.lender.proofs.submit_with.Kinds as submit-with-kinds
use Rattle.lender.proofs.submit_with.Reads as submit-with-reads
use Rattle.lender.proofs.read_with.Kinds as read-with-kinds
use Rattle.lender.proofs.read_with.Reads as read-with-reads

pub open-with : SettledWith _ open-with-kinds.ps open-with-kinds.r open-with-reads.Post (List ℕ) (λ κs e. e.0.now)
open-with κs a x y e f = by-told-and-left x y

pub set-with : SettledWith _ set-with-kinds.ps set-with-kinds.r set-with-reads.Post (List ℕ) (λ κs e. e.0.now)
set-with κs a x y e f = by-told-and-left x y

pub read-with : Settled _ read-with-kinds.ps read-with-kinds.r read-with-reads.Post
read-with κs a x y e f = by-told x y

-- the room and the slip at exit are both settled
two : {A B : Type 0} {u v : A} {w z : B} → u ≡ v → w ≡ z → ◌≡◌ {A = A × B} (u, w) (v, z)
two e f = rw (e, f)

pub submit-with : SettledWith _ submit-with-kinds.ps submit-with-kinds.r submit-with-reads.Post (List ℕ × List ℕ)
    (λ κs e. (e.0.now, e.1.1.1.1.1.1.0.now))
submit-with κs a x y e f p q =
    (by-told x y p.0 q.0, two (by-equation p.1.0 q.1.0) (by-equation p.1.1 q.1.1))
