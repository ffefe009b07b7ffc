-- A call that goes by whether the lent directory is fit and by what is found in it says and leaves what its definition says of that directory: the
-- definition asks the same two. What is found in a fit directory has a place that fits, since a fit directory has few records.
-- Assumes nothing.
use Rattle.std.specs.Prelude.{Option}
use mathlib.Core.Path.{◌≡◌, sym, ap, ◌∙◌}
use mathlib.Core.Bool.{Bool, true}
use mathlib.Core.List.{List}
use Prim.Native.Nat.{ℕ}
use Rattle.directory.specs.declared.Participant.{Participant}
use Rattle.directory.specs.declared.Gathered.{Gathered}
use Rattle.directory.specs.declared.Listed.{Listed}
use Rattle.directory.specs.Directory.{is_fit, found}
use Rattle.directory.specs.Gathering.{gathered, fit_gathered}
use Rattle.directory.proofs.Finds.{fit-few}
use Rattle.directory.proofs.Gathers.{fits-is-fit}
use Rattle.judge.proofs.Places.{found-fits}
use Rattle.seat.specs.Calls.{place_fits}
use Rattle.seat.specs.declared.settings.Wish.{Wish}
use Rattle.centre.specs.declared.Ticket.{Ticket}
use Rattle.centre.specs.Calls.{read_by, read_told, set_by, set_left, set_told, set_after}

-- what was gathered is fit where the directory is
pub fit-lent : (dir : List Participant) (g : Gathered) (fit : Bool) → g ≡ gathered dir → fit ≡ fit_gathered g → fit ≡ is_fit dir
fit-lent dir g fit e f = f ∙ ap fit_gathered e ∙ fits-is-fit dir

-- the place of what is found in a fit directory fits
pub place-lent : (dir : List Participant) (code : ℕ) (fit : Bool) (f : Option Listed) → fit ≡ is_fit dir → f ≡ found dir code → fit ≡ true → place_fits f ≡ true
place-lent dir code fit f e s t = ap place_fits s ∙ found-fits dir code (fit-few dir (sym e ∙ t))

-- read
pub read-told-lent : (ticket : Ticket) (owner number : ℕ) (room : List ℕ) (dir : List Participant) (fit : Bool) (f : Option Listed) → fit ≡ is_fit dir → f ≡ found dir owner
    → read_by fit f ticket number room ≡ read_told dir ticket owner number room
unfolding read_told
read-told-lent ticket owner number room dir fit f e s =
    ap (λ (b : Bool). read_by b f ticket number room) e ∙ ap (λ (h : Option Listed). read_by (is_fit dir) h ticket number room) s

-- set
module _ (ticket : Ticket) (owner number : ℕ) (wish : Wish) (room : List ℕ) (dir : List Participant) (fit : Bool) (f : Option Listed) where
  pub set-told-lent : fit ≡ is_fit dir → f ≡ found dir owner → set_by fit f ticket number wish room ≡ set_told dir ticket owner number wish room
  unfolding set_told
  set-told-lent e s =
      ap (λ (b : Bool). set_by b f ticket number wish room) e ∙ ap (λ (h : Option Listed). set_by (is_fit dir) h ticket number wish room) s

  pub set-left-lent : fit ≡ is_fit dir → f ≡ found dir owner → set_left fit f ticket number wish room ≡ set_after dir ticket owner number wish room
  unfolding set_after
  set-left-lent e s =
      ap (λ (b : Bool). set_left b f ticket number wish room) e ∙ ap (λ (h : Option Listed). set_left (is_fit dir) h ticket number wish room) s
