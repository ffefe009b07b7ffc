-- A call that gathers its directory says and leaves what its definition says of the directory that was lent. Where the directory is fit, what was
-- gathered stands for the very same list. Where it is not, what was gathered stands for an unfit one too, and a call with an unfit directory is
-- refused for the room or else for the directory, whatever else the list holds, and leaves what came.
-- Assumes nothing.
use mathlib.Core.Path.{◌≡◌, refl, sym, ap, ◌∙◌}
use mathlib.Core.Bool.{Bool, true, false, not, cond}
use mathlib.Core.List.{List}
use Prim.Native.Nat.{ℕ}
use Rattle.directory.specs.declared.Participant.{Participant}
use Rattle.directory.specs.declared.Gathered.{Gathered}
use Rattle.directory.specs.Directory.{is_fit}
use Rattle.directory.specs.Gathering.{gathered, directory_in}
use Rattle.directory.proofs.Gathers.{directory-gathered, directory-fit-gathered}
use Rattle.seat.specs.declared.settings.Wish.{Wish}
use Rattle.seat.specs.Fit.{room_fits}
use Rattle.centre.specs.declared.Ticket.{Ticket}
use Rattle.centre.specs.Answers.{Told, refused, is_done, behind}
use Rattle.centre.specs.Submit.{submit_told, submit_after, submit_slip}
use Rattle.centre.specs.Calls.{open_told, open_after, set_told, set_after, read_told}
use Rattle.centre.proofs.First.{behind-refused}

-- what is the same of all unfit directories is the same of a directory and of what was gathered of it
pub by-gathered : {X : Type 0} (says : List Participant → X) (unfit : X) → ((dir : List Participant) → is_fit dir ≡ false → says dir ≡ unfit)
    → (g : Gathered) (dir : List Participant) → g ≡ gathered dir → says (directory_in g) ≡ says dir
by-gathered {X} says unfit same g dir e = ap (λ (h : Gathered). says (directory_in h)) e ∙ by-fit (is_fit dir) refl
  where
    by-fit : (fit : Bool) → is_fit dir ≡ fit → says (directory_in (gathered dir)) ≡ says dir
    by-fit true f = ap says (directory-gathered dir f)
    by-fit false f = same (directory_in (gathered dir)) (directory-fit-gathered dir ∙ f) ∙ sym (same dir f)

-- what a call with an unfit directory says: refusal 1 for the room, else refusal 2
abbrev pub unfit_told : List ℕ → Told
unfit_told room = cond (not (room_fits room)) (refused 1) (refused 2)

unfit-refused : (room : List ℕ) → is_done (unfit_told room) ≡ false
unfolding is_done
unfit-refused room = either (not (room_fits room))
  where
    either : (t : Bool) → is_done (cond t (refused 1) (refused 2)) ≡ false
    either true = refl
    either false = refl

-- so what it leaves is what came
pub unfit-behind : {A : Type 0} (room : List ℕ) (t : Told) (made came : A) → t ≡ unfit_told room → behind t made came ≡ came
unfit-behind room t made came e = behind-refused t made came (ap is_done e ∙ unfit-refused room)

-- open
module _ (seat : ℕ) (sums room : List ℕ) where
  pub open-unfit : (dir : List Participant) → is_fit dir ≡ false → open_told dir seat sums room ≡ unfit_told room
  unfolding open_told
  open-unfit dir e = rw e

  pub open-unfit-room : (dir : List Participant) → is_fit dir ≡ false → open_after dir seat sums room ≡ room
  unfolding open_after
  open-unfit-room dir e = unfit-behind room (open_told dir seat sums room) _ room (open-unfit dir e)

  pub open_by : (g : Gathered) (dir : List Participant) → g ≡ gathered dir
      → (open_told (directory_in g) seat sums room ≡ open_told dir seat sums room) × (open_after (directory_in g) seat sums room ≡ open_after dir seat sums room)
  open_by g dir e = (
    by-gathered (λ (d : List Participant). open_told d seat sums room) (unfit_told room) open-unfit g dir e,
    by-gathered (λ (d : List Participant). open_after d seat sums room) room open-unfit-room g dir e,
  )

-- set
module _ (ticket : Ticket) (owner number : ℕ) (wish : Wish) (room : List ℕ) where
  pub set-unfit : (dir : List Participant) → is_fit dir ≡ false → set_told dir ticket owner number wish room ≡ unfit_told room
  unfolding set_told
  set-unfit dir e = rw e

  pub set-unfit-room : (dir : List Participant) → is_fit dir ≡ false → set_after dir ticket owner number wish room ≡ room
  unfolding set_told set_after
  set-unfit-room dir e = unfit-behind room (set_told dir ticket owner number wish room) _ room (set-unfit dir e)

  pub set-by : (g : Gathered) (dir : List Participant) → g ≡ gathered dir
      → (set_told (directory_in g) ticket owner number wish room ≡ set_told dir ticket owner number wish room)
      × (set_after (directory_in g) ticket owner number wish room ≡ set_after dir ticket owner number wish room)
  set-by g dir e = (
    by-gathered (λ (d : List Participant). set_told d ticket owner number wish room) (unfit_told room) set-unfit g dir e,
    by-gathered (λ (d : List Participant). set_after d ticket owner number wish room) room set-unfit-room g dir e,
  )

-- read
module _ (ticket : Ticket) (owner number : ℕ) (room : List ℕ) where
  pub read-unfit : (dir : List Participant) → is_fit dir ≡ false → read_told dir ticket owner number room ≡ unfit_told room
  unfolding read_told
  read-unfit dir e = rw e

  pub read_by : (g : Gathered) (dir : List Participant) → g ≡ gathered dir
      → read_told (directory_in g) ticket owner number room ≡ read_told dir ticket owner number room
  read_by g dir e = by-gathered (λ (d : List Participant). read_told d ticket owner number room) (unfit_told room) read-unfit g dir e

-- submit
module _ (ticket : Ticket) (sender today : ℕ) (sheet slip room : List ℕ) where
  pub submit-unfit : (dir : List Participant) → is_fit dir ≡ false → submit_told dir ticket sender today sheet slip room ≡ unfit_told room
  unfolding submit_told
  submit-unfit dir e = rw e

  pub submit-unfit-room : (dir : List Participant) → is_fit dir ≡ false → submit_after dir ticket sender today sheet slip room ≡ room
  unfolding submit_after submit_told
  submit-unfit-room dir e = unfit-behind room (submit_told dir ticket sender today sheet slip room) _ room (submit-unfit dir e)

  pub submit-unfit-slip : (dir : List Participant) → is_fit dir ≡ false → submit_slip dir ticket sender today sheet slip room ≡ slip
  unfolding submit_slip submit_told
  submit-unfit-slip dir e = unfit-behind room (submit_told dir ticket sender today sheet slip room) _ slip (submit-unfit dir e)

  pub submit-by : (g : Gathered) (dir : List Participant) → g ≡ gathered dir
      → (submit_told (directory_in g) ticket sender today sheet slip room ≡ submit_told dir ticket sender today sheet slip room)
      × (submit_after (directory_in g) ticket sender today sheet slip room ≡ submit_after dir ticket sender today sheet slip room)
      × (submit_slip (directory_in g) ticket sender today sheet slip room ≡ submit_slip dir ticket sender today sheet slip room)
  submit-by g dir e = (
    by-gathered (λ (d : List Participant). submit_told d ticket sender today sheet slip room) (unfit_told room) submit-unfit g dir e,
    by-gathered (λ (d : List Participant). submit_after d ticket sender today sheet slip room) room submit-unfit-room g dir e,
    by-gathered (λ (d : List Participant). submit_slip d ticket sender today sheet slip room) slip submit-unfit-slip g dir e,
  )
