-- Of each public function: no second answer satisfies its contract.
-- Assumes nothing.
use mathlib.Core.Path.{refl}
use mathlib.Core.List.{List}
use Prim.Native.Nat.{ℕ}
use Rattle.shape.proofs.Single.{Settled, SettledWith, SettledShown, by-equation}
use Rattle.layout.proofs.rows.read_head.Kinds as read-head-kinds
use Rattle.layout.proofs.rows.read_head.Reads as read-head-reads
use Rattle.layout.proofs.rows.Head.is_open.Kinds as is-open-kinds
use Rattle.layout.proofs.rows.Head.is_open.Reads as is-open-reads
use Rattle.layout.proofs.rows.write_head.Kinds as write-head-kinds
use Rattle.layout.proofs.rows.write_head.Reads as write-head-reads
use Rattle.layout.proofs.rows.read_account.Kinds as read-account-kinds
use Rattle.layout.proofs.rows.read_account.Reads as read-account-reads
use Rattle.layout.proofs.rows.write_account.Kinds as write-account-kinds
use Rattle.layout.proofs.rows.write_account.Reads as write-account-reads
use Rattle.layout.proofs.rows.read_step.Kinds as read-step-kinds
use Rattle.layout.proofs.rows.read_step.Reads as read-step-reads
use Rattle.layout.proofs.rows.write_step.Kinds as write-step-kinds
use Rattle.layout.proofs.rows.write_step.Reads as write-step-reads
use Rattle.layout.proofs.head.Kinds as head-kinds
use Rattle.layout.proofs.head.Reads as head-reads
use Rattle.layout.proofs.put_head.Kinds as put-head-kinds
use Rattle.layout.proofs.put_head.Reads as put-head-reads
use Rattle.layout.proofs.account.Kinds as account-kinds
use Rattle.layout.proofs.account.Reads as account-reads
use Rattle.layout.proofs.put_account.Kinds as put-account-kinds
use Rattle.layout.proofs.put_account.Reads as put-account-reads
use Rattle.layout.proofs.step.Kinds as step-kinds
use Rattle.layout.proofs.step.Reads as step-reads
use Rattle.layout.proofs.step_answered.Kinds as step-answered-kinds
use Rattle.layout.proofs.step_answered.Reads as step-answered-reads
use Rattle.layout.proofs.put_step.Kinds as put-step-kinds
use Rattle.layout.proofs.put_step.Reads as put-step-reads
use Rattle.layout.proofs.seat_from.Kinds as seat-from-kinds
use Rattle.layout.proofs.seat_from.Reads as seat-from-reads
use Rattle.layout.proofs.seat_in.Kinds as seat-in-kinds
use Rattle.layout.proofs.seat_in.Reads as seat-in-reads

-- a function that answers nothing is settled by what it leaves of what it was lent
pub read_head : Settled _ read-head-kinds.ps read-head-kinds.r read-head-reads.Post
read_head κs a x y e f = by-equation

pub is-open : Settled _ is-open-kinds.ps is-open-kinds.r is-open-reads.Post
is-open κs a x y e f = by-equation

pub write-head : SettledWith _ write-head-kinds.ps write-head-kinds.r write-head-reads.Post (List ℕ) (λ κs e. e.0.now)
write-head κs a x y e f p q = (refl, by-equation p q)

pub read-account : Settled _ read-account-kinds.ps read-account-kinds.r read-account-reads.Post
read-account κs a x y e f = by-equation

pub write-account : SettledWith _ write-account-kinds.ps write-account-kinds.r write-account-reads.Post (List ℕ) (λ κs e. e.0.now)
write-account κs a x y e f p q = (refl, by-equation p q)

pub read_step : Settled _ read-step-kinds.ps read-step-kinds.r read-step-reads.Post
read_step κs a x y e f = by-equation

pub write_step : SettledWith _ write-step-kinds.ps write-step-kinds.r write-step-reads.Post (List ℕ) (λ κs e. e.0.now)
write_step κs a x y e f p q = (refl, by-equation p q)

pub head : Settled _ head-kinds.ps head-kinds.r head-reads.Post
head κs a x y e f = by-equation

pub put-head : SettledWith _ put-head-kinds.ps put-head-kinds.r put-head-reads.Post (List ℕ) (λ κs e. e.0.now)
put-head κs a x y e f p q = (refl, by-equation p q)

pub account : Settled _ account-kinds.ps account-kinds.r account-reads.Post
account κs a x y e f = by-equation

pub put-account : SettledWith _ put-account-kinds.ps put-account-kinds.r put-account-reads.Post (List ℕ) (λ κs e. e.0.now)
put-account κs a x y e f p q = (refl, by-equation p q)

pub step : Settled _ step-kinds.ps step-kinds.r step-reads.Post
step κs a x y e f = by-equation

pub step-answered : Settled _ step-answered-kinds.ps step-answered-kinds.r step-answered-reads.Post
step-answered κs a x y e f = by-equation

pub put_step : SettledWith _ put-step-kinds.ps put-step-kinds.r put-step-reads.Post (List ℕ) (λ κs e. e.0.now)
put_step κs a x y e f p q = (refl, by-equation p q)

pub seat-from : Settled _ seat-from-kinds.ps seat-from-kinds.r seat-from-reads.Post
seat-from κs a x y e f = by-equation

-- of a part that is handed back, its numbers are settled
pub seat-in : SettledShown _ seat-in-kinds.ps seat-in-kinds.r seat-in-reads.Post (List ℕ) (λ κs x. x.now)
seat-in κs a x y e f = by-equation
