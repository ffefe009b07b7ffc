-- A fit directory as it was gathered: it is the list of its records, and what is found in it stands at a place that a seat has.
-- Assumes nothing.
use Rattle.std.specs.Prelude.{Option}
use mathlib.Core.Path.{◌≡◌, sym, ap, ◌∙◌}
use mathlib.Core.Bool.{Bool, true, false}
use mathlib.Core.List.{List}
use Prim.Native.Nat.{ℕ}
use lib.ListN.{length}
use Rattle.directory.specs.declared.Participant.{Participant}
use Rattle.directory.specs.declared.Gathered.{Gathered}
use Rattle.directory.specs.declared.Listed.{Listed}
use Rattle.directory.specs.Directory.{records_most, found, is_fit}
use Rattle.directory.specs.Gathering.{records_in, directory_in, fit_gathered}
use Rattle.directory.proofs.Finds.{fit-few}
use Rattle.directory.proofs.Gathers.{directory-fit, directory-records}
use Rattle.seat.specs.Calls.{place_fits}
use Rattle.judge.proofs.Places.{found-fits}

module _ (g : Gathered) (full : length g.records ≡ records_most) where
  pub listed-unfit : fit_gathered g ≡ false → is_fit (directory_in g) ≡ false
  listed-unfit e = sym (directory-fit g full) ∙ e

  module _ (fit : fit_gathered g ≡ true) where
    pub directory-is-fit : is_fit (directory_in g) ≡ true
    directory-is-fit = sym (directory-fit g full) ∙ fit

    pub records-fit : is_fit (records_in g) ≡ true
    records-fit = ap is_fit (sym (directory-records g fit)) ∙ directory-is-fit

    pub owner-fits : (code : ℕ) (f : Option Listed) → f ≡ found (records_in g) code → place_fits f ≡ true
    owner-fits code f e = ap place_fits e ∙ found-fits (records_in g) code (fit-few (records_in g) records-fit)

-- with the result of the test for fitness: where it is fit, the owner found among the records is the one found in the directory
module _ (g : Gathered) (code : ℕ) (fit : Bool) (f : Option Listed) (tested : fit ≡ fit_gathered g) (e : f ≡ found (records_in g) code) where
  pub gathered-owner : fit ≡ true → f ≡ found (directory_in g) code
  gathered-owner h = e ∙ ap (λ (dir : List Participant). found dir code) (sym (directory-records g (sym tested ∙ h)))

  pub gathered-place : length g.records ≡ records_most → fit ≡ true → place_fits f ≡ true
  gathered-place full h = owner-fits g full (sym tested ∙ h) code f e
