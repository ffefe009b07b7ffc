-- The contract of each public function settles its answer: no second one satisfies it.
-- Assumes nothing.
use mathlib.Core.List.{List}
use Prim.Native.Nat.{ℕ}
use Rattle.shape.proofs.Single.{Settled, SettledShown, by-equation}
use Rattle.table.proofs.sep_code.Reads as sep-code-reads
use Rattle.table.proofs.sep_code.Kinds as sep-code-kinds
use Rattle.table.proofs.iso_code.Reads as iso-code-reads
use Rattle.table.proofs.iso_code.Kinds as iso-code-kinds
use Rattle.table.proofs.order_of.Reads as order-of-reads
use Rattle.table.proofs.order_of.Kinds as order-of-kinds
use Rattle.table.proofs.in_order.Reads as in-order-reads
use Rattle.table.proofs.in_order.Kinds as in-order-kinds
use Rattle.table.proofs.is_rejecting.Reads as is-rejecting-reads
use Rattle.table.proofs.is_rejecting.Kinds as is-rejecting-kinds

pub sep-code : Settled 0 sep-code-kinds.ps sep-code-kinds.r sep-code-reads.Post
sep-code κs a x y e f = by-equation

pub iso-code : Settled 0 iso-code-kinds.ps iso-code-kinds.r iso-code-reads.Post
iso-code κs a x y e f = by-equation

pub order-of : SettledShown 1 order-of-kinds.ps order-of-kinds.r order-of-reads.Post (List ℕ) (λ κs x. x.now)
order-of κs a x y e f = by-equation

pub in_order : Settled 0 in-order-kinds.ps in-order-kinds.r in-order-reads.Post
in_order κs a x y e f = by-equation

pub is-rejecting : Settled 0 is-rejecting-kinds.ps is-rejecting-kinds.r is-rejecting-reads.Post
is-rejecting κs a x y e f = by-equation
