-- Of each public function: no second answer satisfies its contract.
-- Assumes nothing.
use mathlib.Core.List.{List}
use Prim.Native.Nat.{ℕ}
use Rattle.shape.proofs.Single.{Settled, SettledWith, by-equation, by-equations}
use Rattle.slip.proofs.kind_number.Kinds as kind-number-kinds
use Rattle.slip.proofs.kind_number.Reads as kind-number-reads
use Rattle.slip.proofs.status_number.Kinds as status-number-kinds
use Rattle.slip.proofs.status_number.Reads as status-number-reads
use Rattle.slip.proofs.can_say.Kinds as can-say-kinds
use Rattle.slip.proofs.can_say.Reads as can-say-reads
use Rattle.slip.proofs.is_slip.Kinds as is-slip-kinds
use Rattle.slip.proofs.is_slip.Reads as is-slip-reads
use Rattle.slip.proofs.write.Kinds as write-kinds
use Rattle.slip.proofs.write.Reads as write-reads
use Rattle.slip.proofs.read.Kinds as read-kinds
use Rattle.slip.proofs.read.Reads as read-reads

pub kind-number : Settled _ kind-number-kinds.ps kind-number-kinds.r kind-number-reads.Post
kind-number κs a x y e f = by-equation

pub status-number : Settled _ status-number-kinds.ps status-number-kinds.r status-number-reads.Post
status-number κs a x y e f = by-equation

pub can-say : Settled _ can-say-kinds.ps can-say-kinds.r can-say-reads.Post
can-say κs a x y e f = by-equation

pub is-slip : Settled _ is-slip-kinds.ps is-slip-kinds.r is-slip-reads.Post
is-slip κs a x y e f = by-equation

-- the buffer at exit is settled too
pub write : SettledWith _ write-kinds.ps write-kinds.r write-reads.Post (List ℕ) (λ κs e. e.1.0.now)
write κs a x y e f = by-equations

pub read : Settled _ read-kinds.ps read-kinds.r read-reads.Post
read κs a x y e f = by-equation
