-- Of each public function: no second answer satisfies its contract.
-- Assumes nothing.
use mathlib.Core.List.{List}
use Rattle.directory.specs.declared.Participant.{Participant}
use Rattle.directory.specs.declared.Gathered.{Gathered}
use mathlib.Core.Path.{refl}
use Rattle.shape.proofs.Single.{Settled, SettledWith, SettledShown, by-equation}
use Rattle.directory.proofs.fits.Kinds as fits-kinds
use Rattle.directory.proofs.fits.Reads as fits-reads
use Rattle.directory.proofs.is_owner.Kinds as is-owner-kinds
use Rattle.directory.proofs.is_owner.Reads as is-owner-reads
use Rattle.directory.proofs.in_sep.Kinds as in-sep-kinds
use Rattle.directory.proofs.in_sep.Reads as in-sep-reads
use Rattle.directory.proofs.account_code.Kinds as account-code-kinds
use Rattle.directory.proofs.account_code.Reads as account-code-reads
use Rattle.directory.proofs.under_sep.Kinds as under-sep-kinds
use Rattle.directory.proofs.under_sep.Reads as under-sep-reads
use Rattle.directory.proofs.under_asp.Kinds as under-asp-kinds
use Rattle.directory.proofs.under_asp.Reads as under-asp-reads
use Rattle.directory.proofs.place_in.Kinds as place-in-kinds
use Rattle.directory.proofs.place_in.Reads as place-in-reads
use Rattle.directory.proofs.account_in.Kinds as account-in-kinds
use Rattle.directory.proofs.account_in.Reads as account-in-reads
use Rattle.directory.proofs.find_in.Kinds as find-in-kinds
use Rattle.directory.proofs.find_in.Reads as find-in-reads
use Rattle.directory.proofs.find_as.Kinds as find-as-kinds
use Rattle.directory.proofs.find_as.Reads as find-as-reads
use Rattle.directory.proofs.is_owner_found.Kinds as is-owner-found-kinds
use Rattle.directory.proofs.is_owner_found.Reads as is-owner-found-reads
use Rattle.directory.proofs.is_listed.Kinds as is-listed-kinds
use Rattle.directory.proofs.is_listed.Reads as is-listed-reads
use Rattle.directory.proofs.is_instant.Kinds as is-instant-kinds
use Rattle.directory.proofs.is_instant.Reads as is-instant-reads
use Rattle.directory.proofs.head_in.Kinds as head-in-kinds
use Rattle.directory.proofs.head_in.Reads as head-in-reads
use Rattle.directory.proofs.bank_in.Kinds as bank-in-kinds
use Rattle.directory.proofs.bank_in.Reads as bank-in-reads
use Rattle.directory.proofs.is_bank_found.Kinds as is-bank-found-kinds
use Rattle.directory.proofs.is_bank_found.Reads as is-bank-found-reads
use Rattle.directory.proofs.gather.Kinds as gather-kinds
use Rattle.directory.proofs.gather.Reads as gather-reads
use Rattle.directory.proofs.find.Kinds as find-kinds
use Rattle.directory.proofs.find.Reads as find-reads
use Rattle.directory.proofs.find_given.Kinds as find-given-kinds
use Rattle.directory.proofs.find_given.Reads as find-given-reads
use Rattle.directory.proofs.no_records.Kinds as no-records-kinds
use Rattle.directory.proofs.no_records.Reads as no-records-reads
use Rattle.directory.proofs.Gathered.add.Kinds as add-kinds
use Rattle.directory.proofs.Gathered.add.Reads as add-reads
use Rattle.directory.proofs.Gathered.with.Kinds as with-kinds
use Rattle.directory.proofs.Gathered.with.Reads as with-reads
use Rattle.directory.proofs.Gathered.as_slice.Kinds as as-slice-kinds
use Rattle.directory.proofs.Gathered.as_slice.Reads as as-slice-reads

pub under-sep : Settled _ under-sep-kinds.ps under-sep-kinds.r under-sep-reads.Post
under-sep κs a x y e f = by-equation

pub under-asp : Settled _ under-asp-kinds.ps under-asp-kinds.r under-asp-reads.Post
under-asp κs a x y e f = by-equation

pub place_in : Settled _ place-in-kinds.ps place-in-kinds.r place-in-reads.Post
place_in κs a x y e f = by-equation

pub account-in : Settled _ account-in-kinds.ps account-in-kinds.r account-in-reads.Post
account-in κs a x y e f = by-equation

pub fits : Settled _ fits-kinds.ps fits-kinds.r fits-reads.Post
fits κs a x y e f = by-equation

pub is-owner : Settled _ is-owner-kinds.ps is-owner-kinds.r is-owner-reads.Post
is-owner κs a x y e f = by-equation

pub in-sep : Settled _ in-sep-kinds.ps in-sep-kinds.r in-sep-reads.Post
in-sep κs a x y e f = by-equation

pub account-code : Settled _ account-code-kinds.ps account-code-kinds.r account-code-reads.Post
account-code κs a x y e f = by-equation

pub find-in : Settled _ find-in-kinds.ps find-in-kinds.r find-in-reads.Post
find-in κs a x y e f = by-equation

pub find-as : Settled _ find-as-kinds.ps find-as-kinds.r find-as-reads.Post
find-as κs a x y e f = by-equation

pub is-owner-found : Settled _ is-owner-found-kinds.ps is-owner-found-kinds.r is-owner-found-reads.Post
is-owner-found κs a x y e f = by-equation

pub is-listed : Settled _ is-listed-kinds.ps is-listed-kinds.r is-listed-reads.Post
is-listed κs a x y e f = by-equation

pub is-instant : Settled _ is-instant-kinds.ps is-instant-kinds.r is-instant-reads.Post
is-instant κs a x y e f = by-equation

pub head_in : Settled _ head-in-kinds.ps head-in-kinds.r head-in-reads.Post
head_in κs a x y e f = by-equation

pub bank-in : Settled _ bank-in-kinds.ps bank-in-kinds.r bank-in-reads.Post
bank-in κs a x y e f = by-equation

pub is-bank-found : Settled _ is-bank-found-kinds.ps is-bank-found-kinds.r is-bank-found-reads.Post
is-bank-found κs a x y e f = by-equation

pub gather : Settled _ gather-kinds.ps gather-kinds.r gather-reads.Post
gather κs a x y e f = by-equation

pub find : Settled _ find-kinds.ps find-kinds.r find-reads.Post
find κs a x y e f = by-equation

pub find-given : Settled _ find-given-kinds.ps find-given-kinds.r find-given-reads.Post
find-given κs a x y e f = by-equation

pub no-records : Settled _ no-records-kinds.ps no-records-kinds.r no-records-reads.Post
no-records κs a x y e f = by-equation

pub add-one-more : SettledWith _ add-kinds.ps add-kinds.r add-reads.Post Gathered (λ κs e. e.0.now)
add-one-more κs a x y e f p q = (refl, by-equation p q)

pub with-one-more : Settled _ with-kinds.ps with-kinds.r with-reads.Post
with-one-more κs a x y e f = by-equation

pub as-slice : SettledShown _ as-slice-kinds.ps as-slice-kinds.r as-slice-reads.Post (List Participant) (λ κs x. x.now)
as-slice κs a x y e f = by-equation
