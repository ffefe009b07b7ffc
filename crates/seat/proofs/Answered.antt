-- What a call that was done says: none of the refusals in front of it held. And what holds of the seat that was done and of the seat that came
-- holds of the seat behind the call.
-- Assumes nothing.
use Rattle.std.specs.Prelude.{Option, Ok, Err}
use mathlib.Core.Path.{◌≡◌, refl, ap}
use mathlib.Core.Bool.{Bool, true, false, not, ◌&&◌, cond, false≢true}
use mathlib.Core.List.{List}
use Prim.Native.Nat.{ℕ}
use lib.Dec.{eqb}
use borrow.Author.Tests.{eqb-true, eqb-false, eq-eqb, ne_eqb, not-false}
use Rattle.shape.proofs.Tests.{and_left, and_right}
use Rattle.slip.specs.Meaning.{openings, steps}
use Rattle.directory.specs.declared.Participant.{Participant}
use Rattle.directory.specs.declared.Listed.{Listed}
use Rattle.layout.specs.declared.rows.Settings.{Settings}
use Rattle.layout.specs.Seat.{head_of}
use Rattle.journal.specs.Steps.{settings_fit}
use Rattle.seat.specs.declared.calls.Refusal.{Refusal}
use Rattle.seat.specs.declared.calls.Refusal.TheVariants.{NoTicket, AlreadyOpen, NoOpeningLeft, BadNumber, JournalFull, NothingToTakeBack}
use Rattle.seat.specs.Calls.{
  Answer,
  is_done,
  behind,
  no_ticket,
  sums_good,
  open_answer,
  close_answer,
  account_named,
  set_answer,
  back_answer,
}

-- a seat behind a call is the one that was done, or the one that came
pub behind-keeps : (P : List ℕ → Type 0) (a : Answer) (done s : List ℕ) → (a ≡ Ok tt → P done) → P s → P (behind a done s)
behind-keeps P (Ok u) done s f p = f refl
behind-keeps P (Err refusal) done s f p = p

-- where a call is done, its seat is the one that was done
pub behind-done : (a : Answer) (done s : List ℕ) → a ≡ Ok tt → behind a done s ≡ done
behind-done a done s e = rw e

-- one refusal whose test does not hold
passed : (t : Bool) (a : Refusal) (rest : Answer) → cond t (Err a) rest ≡ Ok tt → (t ≡ false) × (rest ≡ Ok tt)
passed true a rest e = absurd (false≢true (ap is_done e))
passed false a rest e = (refl, e)

-- a good ticket
pub ticket-good : (opening : ℕ) (s : List ℕ) → no_ticket opening s ≡ false → ((head_of s).opened ≡ 1) × ((head_of s).opening ≡ opening)
unfolding no_ticket
ticket-good opening s e =
    let both = not-false (eqb (head_of s).opened 1 && eqb (head_of s).opening opening) e in (
      eqb-true (head_of s).opened 1 (and_left (eqb (head_of s).opened 1) (eqb (head_of s).opening opening) both),
      eqb-true (head_of s).opening opening (and_right (eqb (head_of s).opened 1) (eqb (head_of s).opening opening) both),
    )

pub good-ticket : (opening : ℕ) (s : List ℕ) → (head_of s).opened ≡ 1 → (head_of s).opening ≡ opening → no_ticket opening s ≡ false
unfolding no_ticket
good-ticket opening s a b = rw (a, eq-eqb (head_of s).opening opening b)

-- each call that was done
pub open_done : (dir : List Participant) (sums s : List ℕ) → open_answer dir sums s ≡ Ok tt
    → ((head_of s).opened ≡ 1 → ⊥) × ((head_of s).opening ≡ openings → ⊥) × (sums_good dir sums ≡ true)
unfolding open_answer
open_done dir sums s e =
    let last : Answer = cond (not (sums_good dir sums)) (Err BadNumber) (Ok tt) in
    let one = passed (eqb (head_of s).opened 1) AlreadyOpen (cond (eqb (head_of s).opening openings) (Err NoOpeningLeft) last) e in
    let two = passed (eqb (head_of s).opening openings) NoOpeningLeft last one.1 in
    let three = passed (not (sums_good dir sums)) BadNumber (Ok tt) two.1 in
    (eqb-false (head_of s).opened 1 one.0, eqb-false (head_of s).opening openings two.0, not-false (sums_good dir sums) three.0)

pub close-done : (opening : ℕ) (s : List ℕ) → close_answer opening s ≡ Ok tt → no_ticket opening s ≡ false
unfolding close_answer
close-done opening s e = (passed (no_ticket opening s) NoTicket (Ok tt) e).0

pub set-done : (opening : ℕ) (owner : Option Listed) (number : ℕ) (given : Settings) (s : List ℕ) → set_answer opening owner number given s ≡ Ok tt
    → (no_ticket opening s ≡ false) × (account_named owner number ≡ true) × (settings_fit given ≡ true) × ((head_of s).steps ≡ steps → ⊥)
unfolding set_answer
set-done opening owner number given s e =
    let good : Bool = account_named owner number && settings_fit given in
    let last : Answer = cond (eqb (head_of s).steps steps) (Err JournalFull) (Ok tt) in
    let one = passed (no_ticket opening s) NoTicket (cond (not good) (Err BadNumber) last) e in
    let two = passed (not good) BadNumber last one.1 in
    let three = passed (eqb (head_of s).steps steps) JournalFull (Ok tt) two.1 in
    let both = not-false good two.0 in (
      one.0,
      and_left (account_named owner number) (settings_fit given) both,
      and_right (account_named owner number) (settings_fit given) both,
      eqb-false (head_of s).steps steps three.0,
    )

pub back_done : (opening : ℕ) (s : List ℕ) → back_answer opening s ≡ Ok tt → (no_ticket opening s ≡ false) × ((head_of s).steps ≡ 0 → ⊥)
unfolding back_answer
back_done opening s e =
    let last : Answer = cond (eqb (head_of s).steps 0) (Err NothingToTakeBack) (Ok tt) in
    let one = passed (no_ticket opening s) NoTicket last e in
    let two = passed (eqb (head_of s).steps 0) NothingToTakeBack (Ok tt) one.1 in
    (one.0, eqb-false (head_of s).steps 0 two.0)

-- a good ticket and a step are all that a take-back asks for
pub done-back : (opening : ℕ) (s : List ℕ) → no_ticket opening s ≡ false → ((head_of s).steps ≡ 0 → ⊥) → back_answer opening s ≡ Ok tt
unfolding back_answer
done-back opening s t n = rw (t, ne_eqb (head_of s).steps 0 n)
