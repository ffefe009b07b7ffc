-- Every call keeps a seat fit, whether it is refused or done: a call that is done opens, closes, works one step or takes one back, and each of
-- these leaves a fit seat. What is laid out first, zeros only, is fit.
-- Assumes nothing.
use Rattle.std.specs.Prelude.{Option, Ok}
use mathlib.Core.Path.{◌≡◌, refl, ap, ◌∙◌}
use mathlib.Core.Bool.{Bool, true, false, ◌&&◌, ◌||◌, cond, false≢true}
use mathlib.Core.List.{List, [], ◌∷◌}
use Prim.Native.Nat.{ℕ, suc, ◌*◌, ◌≤◌, ◌<◌}
use native.Mathlib.Omega.{arith}
use lib.Dec.{leb, eqb}
use lib.ListN.{length, replicate}
use borrow.Author.Tests.{leb-true, eqb-true, eq-eqb}
use Rattle.shape.specs.Bytes.{every}
use Rattle.shape.proofs.Tests.{and_left, and_right}
use Rattle.slip.specs.Meaning.{openings, steps}
use Rattle.directory.specs.declared.Participant.{Participant}
use Rattle.directory.specs.declared.Listed.{Listed}
use Rattle.directory.specs.Directory.{records_most, is_owner}
use Rattle.layout.specs.declared.rows.Head.{Head}
use Rattle.layout.specs.declared.rows.Settings.{Settings}
use Rattle.layout.specs.declared.rows.Step.{Step}
use Rattle.layout.specs.Parts.{part}
use Rattle.layout.specs.Rows.{head_row, head_in}
use Rattle.layout.specs.Seat.{accounts, seat_long, room_long, head_of, account_of, seat_of}
use Rattle.journal.specs.Steps.{sum_most, settings_fit}
use Rattle.journal.specs.Answers.{answerable}
use Rattle.journal.specs.Working.{stepped, backed, covered, possible, journal_of}
use Rattle.journal.proofs.StepLaws.{settings-same}
use Rattle.journal.proofs.WorkedLaws.{journal-long}
use Rattle.seat.specs.Fit.{same, closed_seat, open_seat, sums_of, open_fits, closed_fits, seat_fits, room_fits}
use Rattle.seat.specs.Calls.{
  pair_good,
  sums_good,
  open_answer,
  open_after,
  close_answer,
  close_after,
  account_number,
  place_fits,
  set_step,
  set_answer,
  set_after,
  back_answer,
  back_after,
}
use Rattle.seat.proofs.Opened.{opened-head}
use Rattle.seat.proofs.Forward.{open-fits, made, fit-more, fit-back, fit_opened, fit-closed}
use Rattle.seat.proofs.Reached.{fit-settings}
use Rattle.seat.proofs.Named.{account-low, set-step-fits}
use Rattle.seat.proofs.Answered.{behind-keeps, ticket-good, open_done, set-done, back_done}

-- what was opened and worked is as long as a seat, and open
module _ (s : List ℕ) (e : open_fits s ≡ true) where
  few : length (journal_of s) ≤ steps
  few =
      let most : (head_of s).steps ≤ steps = (open-fits s e).count in
      let long : length (journal_of s) ≡ (head_of s).steps = journal-long s in
      omega arith

  pub open-long : length s ≡ seat_long
  open-long = (made (head_of s).opening (sums_of s) (journal_of s) s few (open-fits s e).comes).long

  pub open-opened : (head_of s).opened ≡ 1
  open-opened =
      ap (λ (h : Head). h.opened) (made (head_of s).opening (sums_of s) (journal_of s) s few (open-fits s e).comes).head
      ∙ ap (λ (h : Head). h.opened) (opened-head (head_of s).opening (sums_of s))

  pub open-seat-fits : seat_fits s ≡ true
  unfolding seat_fits
  open-seat-fits = rw (eq-eqb (length s) seat_long open-long, open-opened) e

-- what a fit seat is
module _ (s : List ℕ) (e : seat_fits s ≡ true) where
  pub fit-long : length s ≡ seat_long
  unfolding seat_fits
  fit-long =
      eqb-true (length s) seat_long
      (and_left (eqb (length s) seat_long) (cond (eqb (head_of s).opened 0) (closed_fits s) (open_fits s)) e)

  by_state : cond (eqb (head_of s).opened 0) (closed_fits s) (open_fits s) ≡ true
  unfolding seat_fits
  by_state = and_right (eqb (length s) seat_long) (cond (eqb (head_of s).opened 0) (closed_fits s) (open_fits s)) e

  pub fit-open : (head_of s).opened ≡ 1 → open_fits s ≡ true
  fit-open h = rw h at by_state

  pub fit-number : (head_of s).opening ≤ openings
  unfolding closed_fits
  fit-number = go (eqb (head_of s).opened 0) by_state
    where
      go : (t : Bool) → cond t (closed_fits s) (open_fits s) ≡ true → (head_of s).opening ≤ openings
      go true h =
          leb-true (head_of s).opening openings (and_left (leb (head_of s).opening openings) (same s (closed_seat (head_of s).opening)) h)
      go false h = (open-fits s h).most

-- the sums of an opening
pair-most : (p : Participant) (a b : ℕ) → pair_good p a b ≡ true → (leb a sum_most ≡ true) × (leb b sum_most ≡ true)
unfolding pair_good
pair-most p a b e =
    let both = and_left (leb a sum_most && leb b sum_most) (is_owner p.kind || (eqb a 0 && eqb b 0)) e in
    (and_left (leb a sum_most) (leb b sum_most) both, and_right (leb a sum_most) (leb b sum_most) both)

good-sums : (dir : List Participant) (sums : List ℕ) → sums_good dir sums ≡ true
    → (length sums ≡ 2 * length dir) × (every (λ (sum : ℕ). leb sum sum_most) sums ≡ true)
unfolding sums_good
good-sums [] [] e = (refl, refl)
good-sums [] (a ∷ sums) e = absurd (false≢true e)
good-sums (p ∷ dir) [] e = absurd (false≢true e)
good-sums (p ∷ dir) (a ∷ []) e = absurd (false≢true e)
good-sums (p ∷ dir) (a ∷ b ∷ sums) e =
    let here = pair-most p a b (and_left (pair_good p a b) (sums_good dir sums) e) in
    let rest = good-sums dir sums (and_right (pair_good p a b) (sums_good dir sums) e) in
    let long : length sums ≡ 2 * length dir = rest.0 in
    (omega arith, rw (here.0, here.1) rest.1)

-- open
pub open-keeps : (dir : List Participant) (sums s : List ℕ) → length dir ≤ records_most → seat_fits s ≡ true → seat_fits (open_after dir sums s) ≡ true
unfolding open_after
open-keeps dir sums s l e =
    behind-keeps (λ (t : List ℕ). seat_fits t ≡ true) (open_answer dir sums s) (open_seat (suc (head_of s).opening) sums) s
    (λ (d : open_answer dir sums s ≡ Ok tt).
    let facts = open_done dir sums s d in
    let left : (head_of s).opening ≡ openings → ⊥ = facts.1 in
    let good = good-sums dir sums facts.2 in
    let long : length sums ≡ 2 * length dir = good.0 in
    let most : (head_of s).opening ≤ openings = fit-number s e in
    open-seat-fits (open_seat (suc (head_of s).opening) sums)
    (fit_opened (suc (head_of s).opening) sums (omega arith) (omega arith) (omega arith) good.1))
    e

-- close
closed-length : (opening : ℕ) → length (closed_seat opening) ≡ seat_long
unfolding closed_seat head_row
closed-length opening = refl

pub closed-head : (opening : ℕ) → head_of (closed_seat opening) ≡ record { opening = opening; opened = 0; steps = 0 }
unfolding head_of closed_seat head_in head_row part
closed-head opening = refl

closed-seat-fits : (opening : ℕ) → opening ≤ openings → seat_fits (closed_seat opening) ≡ true
unfolding seat_fits
closed-seat-fits opening h =
    rw (eq-eqb (length (closed_seat opening)) seat_long (closed-length opening), closed-head opening) (fit-closed opening h)

pub close-keeps : (opening : ℕ) (s : List ℕ) → seat_fits s ≡ true → seat_fits (close_after opening s) ≡ true
unfolding close_after
close-keeps opening s e =
    behind-keeps (λ (t : List ℕ). seat_fits t ≡ true) (close_answer opening s) (closed_seat (head_of s).opening) s
    (λ (d : close_answer opening s ≡ Ok tt). closed-seat-fits (head_of s).opening (fit-number s e))
    e

-- one step more
pub record-keeps : (x : Step) (s : List ℕ) → seat_fits s ≡ true → (head_of s).opened ≡ 1 → (head_of s).steps < steps → possible x s ≡ true
    → seat_fits (stepped x s) ≡ true
record-keeps x s e o b p = open-seat-fits (stepped x s) (fit-more x s (fit-long s e) (fit-open s e o) b p)

-- a set of an account's settings of the moment is possible
set-covered : (i : ℕ) (given : Settings) (s : List ℕ) → covered (set_step i (account_of s i).settings given) s ≡ true
unfolding covered
set-covered i given s = settings-same (account_of s i).settings

set-possible : (i : ℕ) (given : Settings) (s : List ℕ) → length s ≡ seat_long → open_fits s ≡ true → i < accounts → settings_fit given ≡ true
    → possible (set_step i (account_of s i).settings given) s ≡ true
unfolding possible answerable
set-possible i given s l e b f =
    rw (set-step-fits i (account_of s i).settings given b (fit-settings s l e i b) f, set-covered i given s)

-- a set that was done was a possible step of an open seat with a free place
module _ (opening : ℕ) (owner : Option Listed) (number : ℕ) (given : Settings) (s : List ℕ) (p : place_fits owner ≡ true) (e : seat_fits s ≡ true)
    (d : set_answer opening owner number given s ≡ Ok tt) where
  pub set-open : (head_of s).opened ≡ 1
  set-open = (ticket-good opening s (set-done opening owner number given s d).0).0

  pub set_room : (head_of s).steps < steps
  set_room =
      let most : (head_of s).steps ≤ steps = (open-fits s (fit-open s e set-open)).count in
      let left : (head_of s).steps ≡ steps → ⊥ = (set-done opening owner number given s d).3 in
      omega arith

  pub set-can : possible (set_step (account_number owner number) (account_of s (account_number owner number)).settings given) s ≡ true
  set-can =
      set-possible (account_number owner number) given s (fit-long s e) (fit-open s e set-open)
      (account-low owner number (set-done opening owner number given s d).1 p)
      (set-done opening owner number given s d).2

-- set
pub set_keeps : (opening : ℕ) (owner : Option Listed) (number : ℕ) (given : Settings) (s : List ℕ) → place_fits owner ≡ true → seat_fits s ≡ true
    → seat_fits (set_after opening owner number given s) ≡ true
unfolding set_after
set_keeps opening owner number given s p e =
    let x : Step = set_step (account_number owner number) (account_of s (account_number owner number)).settings given in
    behind-keeps (λ (t : List ℕ). seat_fits t ≡ true) (set_answer opening owner number given s) (stepped x s) s
    (λ (d : set_answer opening owner number given s ≡ Ok tt).
    record-keeps x s e (set-open opening owner number given s p e d) (set_room opening owner number given s p e d)
    (set-can opening owner number given s p e d))
    e

-- take back
pub back-keeps : (opening : ℕ) (s : List ℕ) → seat_fits s ≡ true → seat_fits (back_after opening s) ≡ true
unfolding back_after
back-keeps opening s e =
    behind-keeps (λ (t : List ℕ). seat_fits t ≡ true) (back_answer opening s) (backed s) s
    (λ (d : back_answer opening s ≡ Ok tt).
    let facts = back_done opening s d in
    let some-step : (head_of s).steps ≡ 0 → ⊥ = facts.1 in
    let fits : open_fits s ≡ true = fit-open s e (ticket-good opening s facts.0).0 in
    open-seat-fits (backed s) (fit-back s (fit-long s e) fits (omega arith)))
    e

-- zeros only are a closed seat that was never opened
pub new-fits : seat_fits (replicate seat_long 0) ≡ true
unfolding seat_fits closed_fits closed_seat same head_of head_in head_row part
new-fits = refl

-- and a room of them is laid out
pub room_fits_lem : room_fits (replicate room_long 0) ≡ true
unfolding room_fits seat_of part seat_fits closed_fits closed_seat same head_of head_in head_row
room_fits_lem = refl
