-- Of each public function: no second answer satisfies its contract, and no second seat behind it.
-- Assumes nothing.
use mathlib.Core.Path.{refl}
use mathlib.Core.List.{List}
use Prim.Native.Nat.{ℕ}
use Rattle.shape.proofs.Single.{Settled, SettledWith, by-equation, by-equations}
use Rattle.seat.proofs.fit.seat_fits.Kinds as seat-fits-kinds
use Rattle.seat.proofs.fit.seat_fits.Reads as seat-fits-reads
use Rattle.seat.proofs.fit.room_fits.Kinds as room-fits-kinds
use Rattle.seat.proofs.fit.room_fits.Reads as room-fits-reads
use Rattle.seat.proofs.calls.open_seat.Kinds as open-seat-kinds
use Rattle.seat.proofs.calls.open_seat.Reads as open-seat-reads
use Rattle.seat.proofs.calls.close_seat.Kinds as close-seat-kinds
use Rattle.seat.proofs.calls.close_seat.Reads as close-seat-reads
use Rattle.seat.proofs.calls.set_account.Kinds as set-account-kinds
use Rattle.seat.proofs.calls.set_account.Reads as set-account-reads
use Rattle.seat.proofs.calls.take_back.Kinds as take-back-kinds
use Rattle.seat.proofs.calls.take_back.Reads as take-back-reads
use Rattle.seat.proofs.settings.settings_of.Kinds as settings-of-kinds
use Rattle.seat.proofs.settings.settings_of.Reads as settings-of-reads
use Rattle.seat.proofs.calls.read_account.Kinds as read-account-kinds
use Rattle.seat.proofs.calls.read_account.Reads as read-account-reads
use Rattle.seat.proofs.calls.no_ticket.Kinds as no-ticket-kinds
use Rattle.seat.proofs.calls.no_ticket.Reads as no-ticket-reads
use Rattle.seat.proofs.calls.clear.Kinds as clear-kinds
use Rattle.seat.proofs.calls.clear.Reads as clear_reads
use Rattle.seat.proofs.calls.account_found.Kinds as account-found-kinds
use Rattle.seat.proofs.calls.account_found.Reads as account-found-reads

pub seat-fits : Settled _ seat-fits-kinds.ps seat-fits-kinds.r seat-fits-reads.Post
seat-fits κs a x y e f = by-equation

pub room_fits : Settled _ room-fits-kinds.ps room-fits-kinds.r room-fits-reads.Post
room_fits κs a x y e f = by-equation

pub open-seat : SettledWith _ open-seat-kinds.ps open-seat-kinds.r open-seat-reads.Post (List ℕ) (λ κs e. e.0.now)
open-seat κs a x y e f = by-equations

pub close-seat : SettledWith _ close-seat-kinds.ps close-seat-kinds.r close-seat-reads.Post (List ℕ) (λ κs e. e.0.now)
close-seat κs a x y e f = by-equations

pub set-account : SettledWith _ set-account-kinds.ps set-account-kinds.r set-account-reads.Post (List ℕ) (λ κs e. e.0.now)
set-account κs a x y e f = by-equations

pub take_back : SettledWith _ take-back-kinds.ps take-back-kinds.r take-back-reads.Post (List ℕ) (λ κs e. e.0.now)
take_back κs a x y e f = by-equations

pub read-account : Settled _ read-account-kinds.ps read-account-kinds.r read-account-reads.Post
read-account κs a x y e f = by-equation

pub settings-of : Settled _ settings-of-kinds.ps settings-of-kinds.r settings-of-reads.Post
settings-of κs a x y e f = by-equation

pub no-ticket : Settled _ no-ticket-kinds.ps no-ticket-kinds.r no-ticket-reads.Post
no-ticket κs a x y e f = by-equation

pub clear : SettledWith _ clear-kinds.ps clear-kinds.r clear_reads.Post (List ℕ) (λ κs e. e.0.now)
clear κs a x y e f p q = (refl, by-equation p q)

pub account-found : Settled _ account-found-kinds.ps account-found-kinds.r account-found-reads.Post
account-found κs a x y e f = by-equation
