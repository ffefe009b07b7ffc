-- What a call says of the records that are lent is what it says of the directory that was gathered. Where there are no more records than
-- places the two are one list. Where there are more none is lent, and both are unfit: a call with an unfit directory is refused for the
-- room or else for the directory, whatever else the list holds, and leaves what came.
-- Assumes nothing.
use mathlib.Core.Path.{◌≡◌, refl, sym, ap, ◌∙◌}
use mathlib.Core.Bool.{Bool, true, false}
use mathlib.Core.List.{List, [], append-nil}
use Prim.Native.Nat.{ℕ, ◌≤◌, ◌<◌, ◌-◌}
use native.Mathlib.Omega.{arith}
use lib.Dec.{ltb}
use lib.ListN.{length, length-take}
use borrow.Author.Tests.{ltb-true, ltb-false}
use Rattle.directory.specs.declared.Participant.{Participant}
use Rattle.directory.specs.declared.Gathered.{Gathered}
use Rattle.directory.specs.Directory.{is_fit}
use Rattle.directory.specs.Gathering.{records_in, directory_in, fit_gathered}
use Rattle.directory.proofs.Gathers.{directory-fit, few-gathered}
use Rattle.seat.specs.declared.settings.Wish.{Wish}
use Rattle.centre.specs.declared.Ticket.{Ticket}
use Rattle.centre.specs.Calls.{open_told, open_after, set_told, set_after, read_told}
use Rattle.centre.specs.Submit.{submit_told, submit_after, submit_slip}
use Rattle.centre.proofs.LentDirectories.{unfit_told, open-unfit, open-unfit-room, set-unfit, set-unfit-room, read-unfit, submit-unfit, submit-unfit-room, submit-unfit-slip}
use Rattle.lender.specs.Lending.{lent_count, lent_in}

-- no more records than places: nothing stands behind them
directory-few : (g : Gathered) → g.count ≤ 16 → directory_in g ≡ records_in g
unfolding directory_in
directory-few g few =
    let none : g.count - 16 ≡ 0 = omega arith in
    rw none (append-nil (records_in g))

unfit-none : is_fit [] ≡ false
unfolding is_fit
unfit-none = refl

-- with more records than places the directory is unfit
unfit-many : (g : Gathered) → length g.records ≡ 16 → 16 < g.count → is_fit (directory_in g) ≡ false
unfit-many g sixteen many = sym (directory-fit g sixteen) ∙ by-fit (fit_gathered g) refl
  where
    by-fit : (fit : Bool) → fit_gathered g ≡ fit → fit ≡ false
    by-fit true e = let few = few-gathered g e in absurd (omega arith)
    by-fit false e = refl

-- as many are lent as are counted, or none
pub lent-count : (g : Gathered) → length g.records ≡ 16 → lent_count g ≡ length (lent_in g)
lent-count g sixteen = by_count (ltb 16 g.count) refl
  where
    by_count : (many : Bool) → ltb 16 g.count ≡ many → lent_count g ≡ length (lent_in g)
    by_count true e = rw e
    by_count false e = let few = ltb-false 16 g.count e in rw e (omega (arith, length-take g.count g.records))

-- what is the same of all unfit directories is the same of the records that are lent and of the directory
pub by-lent : {X : Type 0} (says : List Participant → X) (unfit : X) → ((dir : List Participant) → is_fit dir ≡ false → says dir ≡ unfit)
    → (g : Gathered) → length g.records ≡ 16 → says (lent_in g) ≡ says (directory_in g)
by-lent says unfit same g sixteen = by_count (ltb 16 g.count) refl
  where
    by_count : (many : Bool) → ltb 16 g.count ≡ many → says (lent_in g) ≡ says (directory_in g)
    by_count true e = rw e (same [] unfit-none ∙ sym (same (directory_in g) (unfit-many g sixteen (ltb-true 16 g.count e))))
    by_count false e = rw e (ap says (sym (directory-few g (ltb-false 16 g.count e))))

module _ (g : Gathered) (sixteen : length g.records ≡ 16) where
  -- open
  module _ (seat : ℕ) (sums room : List ℕ) where
    pub open_lent : open_told (lent_in g) seat sums room ≡ open_told (directory_in g) seat sums room
    open_lent = by-lent (λ (dir : List Participant). open_told dir seat sums room) (unfit_told room) (open-unfit seat sums room) g sixteen

    pub open-lent-room : open_after (lent_in g) seat sums room ≡ open_after (directory_in g) seat sums room
    open-lent-room = by-lent (λ (dir : List Participant). open_after dir seat sums room) room (open-unfit-room seat sums room) g sixteen

  -- set
  module _ (ticket : Ticket) (owner number : ℕ) (wish : Wish) (room : List ℕ) where
    pub set-lent : set_told (lent_in g) ticket owner number wish room ≡ set_told (directory_in g) ticket owner number wish room
    set-lent = by-lent (λ (dir : List Participant). set_told dir ticket owner number wish room) (unfit_told room) (set-unfit ticket owner number wish room) g sixteen

    pub set-lent-room : set_after (lent_in g) ticket owner number wish room ≡ set_after (directory_in g) ticket owner number wish room
    set-lent-room = by-lent (λ (dir : List Participant). set_after dir ticket owner number wish room) room (set-unfit-room ticket owner number wish room) g sixteen

  -- read
  module _ (ticket : Ticket) (owner number : ℕ) (room : List ℕ) where
    pub read-lent : read_told (lent_in g) ticket owner number room ≡ read_told (directory_in g) ticket owner number room
    read-lent = by-lent (λ (dir : List Participant). read_told dir ticket owner number room) (unfit_told room) (read-unfit ticket owner number room) g sixteen

  -- submit
  module _ (ticket : Ticket) (sender today : ℕ) (sheet slip room : List ℕ) where
    pub submit-lent : submit_told (lent_in g) ticket sender today sheet slip room ≡ submit_told (directory_in g) ticket sender today sheet slip room
    submit-lent = by-lent (λ (dir : List Participant). submit_told dir ticket sender today sheet slip room) (unfit_told room) (submit-unfit ticket sender today sheet slip room) g sixteen

    pub submit-lent-room : submit_after (lent_in g) ticket sender today sheet slip room ≡ submit_after (directory_in g) ticket sender today sheet slip room
    submit-lent-room = by-lent (λ (dir : List Participant). submit_after dir ticket sender today sheet slip room) room (submit-unfit-room ticket sender today sheet slip room) g sixteen

    pub submit-lent-slip : submit_slip (lent_in g) ticket sender today sheet slip room ≡ submit_slip (directory_in g) ticket sender today sheet slip room
    submit-lent-slip = by-lent (λ (dir : List Participant). submit_slip dir ticket sender today sheet slip room) slip (submit-unfit-slip ticket sender today sheet slip room) g sixteen
