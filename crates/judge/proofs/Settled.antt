-- Of each public function: no second answer satisfies its contract.
-- Assumes nothing.
use Rattle.shape.proofs.Single.{Settled, by-equation}
use Rattle.judge.proofs.case.case_from.Kinds as case-from-kinds
use Rattle.judge.proofs.case.case_from.Reads as case-from-reads
use Rattle.judge.proofs.case.case_of.Kinds as case-of-kinds
use Rattle.judge.proofs.case.case_of.Reads as case-of-reads
use Rattle.judge.proofs.case.movement_of.Kinds as movement-of-kinds
use Rattle.judge.proofs.case.movement_of.Reads as movement-of-reads
use Rattle.judge.proofs.order.fails.Kinds as fails-kinds
use Rattle.judge.proofs.order.fails.Reads as fails-reads
use Rattle.judge.proofs.outcome.step_by.Kinds as step-by-kinds
use Rattle.judge.proofs.outcome.step_by.Reads as step-by-reads
use Rattle.judge.proofs.order.first_failing.Kinds as first-failing-kinds
use Rattle.judge.proofs.order.first_failing.Reads as first-failing-reads
use Rattle.judge.proofs.records.asked_by.Kinds as asked-by-kinds
use Rattle.judge.proofs.records.asked_by.Reads as asked-by-reads
use Rattle.judge.proofs.records.asked_in.Kinds as asked-in-kinds
use Rattle.judge.proofs.records.asked_in.Reads as asked-in-reads
use Rattle.judge.proofs.records.look_among.Kinds as look-among-kinds
use Rattle.judge.proofs.records.look_among.Reads as look-among-reads
use Rattle.judge.proofs.records.look_up.Kinds as look-up-kinds
use Rattle.judge.proofs.records.look_up.Reads as look-up-reads

pub case-from : Settled _ case-from-kinds.ps case-from-kinds.r case-from-reads.Post
case-from κs a x y e f = by-equation

pub case-of : Settled _ case-of-kinds.ps case-of-kinds.r case-of-reads.Post
case-of κs a x y e f = by-equation

pub movement-of : Settled _ movement-of-kinds.ps movement-of-kinds.r movement-of-reads.Post
movement-of κs a x y e f = by-equation

pub fails : Settled _ fails-kinds.ps fails-kinds.r fails-reads.Post
fails κs a x y e f = by-equation

pub first-failing : Settled _ first-failing-kinds.ps first-failing-kinds.r first-failing-reads.Post
first-failing κs a x y e f = by-equation

pub asked_by : Settled _ asked-by-kinds.ps asked-by-kinds.r asked-by-reads.Post
asked_by κs a x y e f = by-equation

pub asked_in : Settled _ asked-in-kinds.ps asked-in-kinds.r asked-in-reads.Post
asked_in κs a x y e f = by-equation

pub look-among : Settled _ look-among-kinds.ps look-among-kinds.r look-among-reads.Post
look-among κs a x y e f = by-equation

pub look_up : Settled _ look-up-kinds.ps look-up-kinds.r look-up-reads.Post
look_up κs a x y e f = by-equation

pub step_by : Settled _ step-by-kinds.ps step-by-kinds.r step-by-reads.Post
step_by κs a x y e f = by-equation
