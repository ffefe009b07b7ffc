-- Of each public function: no second answer satisfies its contract, and no second seat behind it.
-- Assumes nothing.
use mathlib.Core.Path.{refl}
use mathlib.Core.List.{List}
use Prim.Native.Nat.{ℕ}
use Rattle.shape.proofs.Single.{Settled, SettledWith, by-equation}
use Rattle.journal.proofs.steps.no_settings.Kinds as no-settings-kinds
use Rattle.journal.proofs.steps.no_settings.Reads as no-settings-reads
use Rattle.journal.proofs.steps.no_step.Kinds as no-step-kinds
use Rattle.journal.proofs.steps.no_step.Reads as no-step-reads
use Rattle.journal.proofs.steps.no_identifier.Kinds as no-identifier-kinds
use Rattle.journal.proofs.steps.no_identifier.Reads as no-identifier-reads
use Rattle.journal.proofs.steps.settings_fit.Kinds as settings-fit-kinds
use Rattle.journal.proofs.steps.settings_fit.Reads as settings-fit-reads
use Rattle.journal.proofs.steps.step_fits.Kinds as step-fits-kinds
use Rattle.journal.proofs.steps.step_fits.Reads as step-fits-reads
use Rattle.journal.proofs.working.is_possible.Kinds as is-possible-kinds
use Rattle.journal.proofs.working.is_possible.Reads as is-possible-reads
use Rattle.journal.proofs.working.append.Kinds as append-kinds
use Rattle.journal.proofs.working.append.Reads as append-reads
use Rattle.journal.proofs.working.drop_last.Kinds as drop-last-kinds
use Rattle.journal.proofs.working.drop_last.Reads as drop-last-reads
use Rattle.journal.proofs.limits.available_below.Kinds as available-below-kinds
use Rattle.journal.proofs.limits.available_below.Reads as available-below-reads
use Rattle.journal.proofs.limits.blocked_out.Kinds as blocked-out-kinds
use Rattle.journal.proofs.limits.blocked_out.Reads as blocked-out-reads
use Rattle.journal.proofs.limits.blocked_into.Kinds as blocked-into-kinds
use Rattle.journal.proofs.limits.blocked_into.Reads as blocked-into-reads
use Rattle.journal.proofs.limits.turnover_above.Kinds as turnover-above-kinds
use Rattle.journal.proofs.limits.turnover_above.Reads as turnover-above-reads
use Rattle.journal.proofs.limits.turnover_shut.Kinds as turnover-shut-kinds
use Rattle.journal.proofs.limits.turnover_shut.Reads as turnover-shut-reads
use Rattle.journal.proofs.traces.earliest.Kinds as earliest-kinds
use Rattle.journal.proofs.traces.earliest.Reads as earliest-reads
use Rattle.journal.proofs.traces.is_there.Kinds as is-there-kinds
use Rattle.journal.proofs.traces.is_there.Reads as is-there-reads
use Rattle.journal.proofs.traces.is_known.Kinds as is-known-kinds
use Rattle.journal.proofs.traces.is_known.Reads as is-known-reads
use Rattle.journal.proofs.answers.result_now.Kinds as result-now-kinds
use Rattle.journal.proofs.answers.result_now.Reads as result-now-reads

pub no-settings : Settled _ no-settings-kinds.ps no-settings-kinds.r no-settings-reads.Post
no-settings κs a x y e f = by-equation

pub no-step : Settled _ no-step-kinds.ps no-step-kinds.r no-step-reads.Post
no-step κs a x y e f = by-equation

pub no-identifier : Settled _ no-identifier-kinds.ps no-identifier-kinds.r no-identifier-reads.Post
no-identifier κs a x y e f = by-equation

pub settings-fit : Settled _ settings-fit-kinds.ps settings-fit-kinds.r settings-fit-reads.Post
settings-fit κs a x y e f = by-equation

pub step_fits : Settled _ step-fits-kinds.ps step-fits-kinds.r step-fits-reads.Post
step_fits κs a x y e f = by-equation

pub is-possible : Settled _ is-possible-kinds.ps is-possible-kinds.r is-possible-reads.Post
is-possible κs a x y e f = by-equation

pub append : SettledWith _ append-kinds.ps append-kinds.r append-reads.Post (List ℕ) (λ κs e. e.0.now)
append κs a x y e f p q = (refl, by-equation p q)

pub drop-last : SettledWith _ drop-last-kinds.ps drop-last-kinds.r drop-last-reads.Post (List ℕ) (λ κs e. e.0.now)
drop-last κs a x y e f p q = (refl, by-equation p q)

pub available-below : Settled _ available-below-kinds.ps available-below-kinds.r available-below-reads.Post
available-below κs a x y e f = by-equation

pub blocked-out : Settled _ blocked-out-kinds.ps blocked-out-kinds.r blocked-out-reads.Post
blocked-out κs a x y e f = by-equation

pub blocked-into : Settled _ blocked-into-kinds.ps blocked-into-kinds.r blocked-into-reads.Post
blocked-into κs a x y e f = by-equation

pub turnover-above : Settled _ turnover-above-kinds.ps turnover-above-kinds.r turnover-above-reads.Post
turnover-above κs a x y e f = by-equation

pub turnover-shut : Settled _ turnover-shut-kinds.ps turnover-shut-kinds.r turnover-shut-reads.Post
turnover-shut κs a x y e f = by-equation

pub earliest : Settled _ earliest-kinds.ps earliest-kinds.r earliest-reads.Post
earliest κs a x y e f = by-equation

pub is-there : Settled _ is-there-kinds.ps is-there-kinds.r is-there-reads.Post
is-there κs a x y e f = by-equation

pub is_known : Settled _ is-known-kinds.ps is-known-kinds.r is-known-reads.Post
is_known κs a x y e f = by-equation

pub result-now : Settled _ result-now-kinds.ps result-now-kinds.r result-now-reads.Post
result-now κs a x y e f = by-equation
