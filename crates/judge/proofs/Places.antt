-- A directory of at most 16 records has each of them at a place that a seat has, so whatever is found in it fits; and what was gathered of a
-- fit directory is at most 16 records, since no more were counted.
-- Assumes nothing.
use Rattle.std.specs.Prelude.{ℕ, Option, Some, None}
use mathlib.Core.Path.{◌≡◌, refl}
use mathlib.Core.Bool.{true}
use mathlib.Core.List.{List}
use Prim.Native.Nat.{ℕ, ◌≤◌, ◌<◌}
use native.Mathlib.Omega.{arith}
use lib.ListN.{length, length-take}
use borrow.Author.Tests.{lt-ltb}
use Rattle.table.specs.declared.Kind.{Kind}
use Rattle.table.specs.declared.Kind.TheVariants.{Pacs008, Camt050, Pacs028, Pacs002}
use Rattle.directory.specs.declared.Participant.{Participant}
use Rattle.directory.specs.declared.Gathered.{Gathered}
use Rattle.directory.specs.declared.Listed.{Listed}
use Rattle.directory.specs.Directory.{found, found_as, account_in, owner_used}
use Rattle.directory.specs.Gathering.{records_in, fit_gathered}
use Rattle.directory.proofs.Finds.{found-code}
use Rattle.directory.proofs.Gathers.{few-gathered}
use Rattle.message.specs.declared.Message.{Message}
use Rattle.seat.specs.Calls.{place_fits}
use Rattle.judge.specs.Case.{debit_owner, credit_owner}

pub found-fits : (dir : List Participant) (code : ℕ) → length dir ≤ 16 → place_fits (found dir code) ≡ true
found-fits dir code few = by_place (found dir code) refl
  where
    by_place : (f : Option Listed) → found dir code ≡ f → place_fits f ≡ true
    by_place (Some l) e = let within : l.place < length dir = (found-code dir code l.place l.participant e).1 in lt-ltb l.place 16 (omega arith)
    by_place None e = refl

pub found-as-fits : (dir : List Participant) (code : Option ℕ) → length dir ≤ 16 → place_fits (found_as dir code) ≡ true
found-as-fits dir (Some code) few = found-fits dir code few
found-as-fits dir None few = refl

pub owner-fits : (dir : List Participant) (code : Option ℕ) → length dir ≤ 16 → place_fits (owner_used dir code) ≡ true
unfolding owner_used
owner-fits dir code few = found-as-fits dir (account_in (found_as dir code)) few

pub debit-owner-fits : (dir : List Participant) (m : Message) (kind : Kind) → length dir ≤ 16 → place_fits (debit_owner dir m kind) ≡ true
unfolding debit_owner
debit-owner-fits dir m Pacs008 few = owner-fits dir m.instructing few
debit-owner-fits dir m Camt050 few = found-fits dir m.debit.code few
debit-owner-fits dir m Pacs028 few = refl
debit-owner-fits dir m Pacs002 few = refl

pub credit-owner-fits : (dir : List Participant) (m : Message) (kind : Kind) → length dir ≤ 16 → place_fits (credit_owner dir m kind) ≡ true
unfolding credit_owner
credit-owner-fits dir m Pacs008 few = owner-fits dir m.instructed few
credit-owner-fits dir m Camt050 few = found-fits dir m.credit.code few
credit-owner-fits dir m Pacs028 few = refl
credit-owner-fits dir m Pacs002 few = refl

-- of what was gathered no more is there than was counted
pub records-few : (g : Gathered) → fit_gathered g ≡ true → length (records_in g) ≤ 16
records-few g fit = rw (length-take g.count g.records) (omega (arith, few-gathered g fit))
