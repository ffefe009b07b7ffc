-- Of each public function: no second answer satisfies its contract.
-- Assumes nothing.
use Rattle.shape.proofs.Single.{Settled, by-equation}
use Rattle.remainder.proofs.Carried.start.Kinds as start-kinds
use Rattle.remainder.proofs.Carried.start.Reads as start-reads
use Rattle.remainder.proofs.Carried.next.Kinds as next-kinds
use Rattle.remainder.proofs.Carried.next.Reads as next-reads
use Rattle.remainder.proofs.remainder.Kinds as remainder-kinds
use Rattle.remainder.proofs.remainder.Reads as remainder-reads

pub start : Settled _ start-kinds.ps start-kinds.r start-reads.Post
start κs a x y e f = by-equation

pub next : Settled _ next-kinds.ps next-kinds.r next-reads.Post
next κs a x y e f = by-equation

pub remainder : Settled _ remainder-kinds.ps remainder-kinds.r remainder-reads.Post
remainder κs a x y e f = by-equation
