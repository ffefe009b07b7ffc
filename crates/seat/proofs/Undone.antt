-- No trace: a step that was just recorded can be taken back, and the seat is then what it was before. A close leaves zeros, an opening number is
-- given once, and right after an open or a close there is nothing to take back.
-- Assumes nothing.
use Rattle.std.specs.Prelude.{Option, Ok}
use mathlib.Core.Path.{◌≡◌, sym, ap, subst, ◌∙◌}
use mathlib.Core.Bool.{true, false}
use mathlib.Core.List.{List}
use Prim.Native.Nat.{ℕ, suc, ◌<◌}
use native.Mathlib.Omega.{arith}
use lib.ListN.{length}
use Rattle.slip.specs.Meaning.{openings, steps}
use Rattle.directory.specs.declared.Participant.{Participant}
use Rattle.directory.specs.declared.Listed.{Listed}
use Rattle.layout.specs.declared.rows.Head.{Head}
use Rattle.layout.specs.declared.rows.Settings.{Settings}
use Rattle.layout.specs.declared.rows.Step.{Step}
use Rattle.layout.specs.Seat.{seat_long, head_of, account_of}
use Rattle.journal.specs.Working.{counting, stepped, backed, possible}
use Rattle.journal.proofs.Changed.{stepped-head}
use Rattle.journal.proofs.Backed.{possible-fits, back-restores}
use Rattle.seat.specs.Fit.{closed_seat, open_seat, open_fits, seat_fits}
use Rattle.seat.specs.Calls.{
  no_ticket,
  open_answer,
  open_after,
  close_answer,
  close_after,
  account_number,
  place_fits,
  set_step,
  set_answer,
  set_after,
  back_answer,
  back_after,
}
use Rattle.seat.proofs.Opened.{opened-head}
use Rattle.seat.proofs.Reached.{fit_free}
use Rattle.seat.proofs.Answered.{behind-done, ticket-good, good-ticket, open_done, set-done, back_done, done-back}
use Rattle.seat.proofs.Kept.{fit-long, fit-open, closed-head, set_room, set-can}

-- a recorded step
pub record-undone : (opening : ℕ) (x : Step) (s : List ℕ) → seat_fits s ≡ true → no_ticket opening s ≡ false → (head_of s).steps < steps
    → possible x s ≡ true → (back_answer opening (stepped x s) ≡ Ok tt) × (back_after opening (stepped x s) ≡ s)
unfolding back_after
record-undone opening x s e t b p =
    let ticket = ticket-good opening s t in
    let l : length s ≡ seat_long = fit-long s e in
    let fits : open_fits s ≡ true = fit-open s e ticket.0 in
    let head : head_of (stepped x s) ≡ counting (suc (head_of s).steps) (head_of s) = stepped-head x s l (possible-fits x s p) b in
    let count : (head_of (stepped x s)).steps ≡ suc (head_of s).steps = ap (λ (h : Head). h.steps) head in
    let done : back_answer opening (stepped x s) ≡ Ok tt =
    done-back opening (stepped x s)
    (good-ticket opening (stepped x s) (ap (λ (h : Head). h.opened) head ∙ ticket.0) (ap (λ (h : Head). h.opening) head ∙ ticket.1))
    (λ (z : (head_of (stepped x s)).steps ≡ 0). omega arith) in (
      done,
      behind-done (back_answer opening (stepped x s)) (backed (stepped x s)) (stepped x s) done ∙ back-restores x s l b (fit_free s l fits b) p,
    )

-- a set
pub set-undone : (opening : ℕ) (owner : Option Listed) (number : ℕ) (given : Settings) (s : List ℕ) → place_fits owner ≡ true → seat_fits s ≡ true
    → set_answer opening owner number given s ≡ Ok tt
    → (back_answer opening (set_after opening owner number given s) ≡ Ok tt) × (back_after opening (set_after opening owner number given s) ≡ s)
unfolding set_after
set-undone opening owner number given s p e d =
    let x : Step = set_step (account_number owner number) (account_of s (account_number owner number)).settings given in
    subst (λ (t : List ℕ). (back_answer opening t ≡ Ok tt) × (back_after opening t ≡ s))
    (sym (behind-done (set_answer opening owner number given s) (stepped x s) s d))
    (record-undone opening x s e (set-done opening owner number given s d).0 (set_room opening owner number given s p e d)
    (set-can opening owner number given s p e d))

-- a close
pub close-zeros : (opening : ℕ) (s : List ℕ) → close_answer opening s ≡ Ok tt → close_after opening s ≡ closed_seat (head_of s).opening
unfolding close_after
close-zeros opening s d = behind-done (close_answer opening s) (closed_seat (head_of s).opening) s d

-- an open
pub open_is : (dir : List Participant) (sums s : List ℕ) → open_answer dir sums s ≡ Ok tt
    → open_after dir sums s ≡ open_seat (suc (head_of s).opening) sums
unfolding open_after
open_is dir sums s d = behind-done (open_answer dir sums s) (open_seat (suc (head_of s).opening) sums) s d

open-head : (dir : List Participant) (sums s : List ℕ) → open_answer dir sums s ≡ Ok tt
    → head_of (open_after dir sums s) ≡ record { opening = suc (head_of s).opening; opened = 1; steps = 0 }
open-head dir sums s d = ap head_of (open_is dir sums s d) ∙ opened-head (suc (head_of s).opening) sums

-- an opening number is given once, and none behind the last
pub opening-grows : (dir : List Participant) (sums s : List ℕ) → open_answer dir sums s ≡ Ok tt
    → (head_of (open_after dir sums s)).opening ≡ suc (head_of s).opening
opening-grows dir sums s d = ap (λ (h : Head). h.opening) (open-head dir sums s d)

pub opening-ends : (dir : List Participant) (sums s : List ℕ) → (head_of s).opening ≡ openings → open_answer dir sums s ≡ Ok tt → ⊥
opening-ends dir sums s h d = (open_done dir sums s d).1 h

-- right after an open or a close nothing can be taken back
pub none-taken-back-at-first : (dir : List Participant) (sums s : List ℕ) → open_answer dir sums s ≡ Ok tt
    → (opening : ℕ) → back_answer opening (open_after dir sums s) ≡ Ok tt → ⊥
none-taken-back-at-first dir sums s d opening b =
    (back_done opening (open_after dir sums s) b).1 (ap (λ (h : Head). h.steps) (open-head dir sums s d))

pub none-taken-back-at-last : (ticket : ℕ) (s : List ℕ) → close_answer ticket s ≡ Ok tt
    → (opening : ℕ) → back_answer opening (close_after ticket s) ≡ Ok tt → ⊥
none-taken-back-at-last ticket s d opening b =
    (back_done opening (close_after ticket s) b).1
    (ap (λ (t : List ℕ). (head_of t).steps) (close-zeros ticket s d) ∙ ap (λ (h : Head). h.steps) (closed-head (head_of s).opening))
