-- Each call leaves a fit seat fit: one that is refused leaves it as it came, and what one that is done makes of it is what the seat's own call
-- makes, or one step more. A step that was put into a fit seat is taken back without a trace.
-- Assumes nothing.
use Rattle.std.specs.Prelude.{Ok}
use mathlib.Core.Path.{◌≡◌, refl, sym, ap, ◌∙◌}
use mathlib.Core.Bool.{Bool, true, false}
use mathlib.Core.List.{List}
use Prim.Native.Nat.{ℕ}
use Rattle.directory.specs.declared.Participant.{Participant}
use Rattle.directory.proofs.Finds.{fit-few}
use Rattle.layout.specs.Seat.{head_of}
use Rattle.journal.specs.Working.{stepped, backed}
use Rattle.seat.specs.Fit.{seat_fits}
use Rattle.seat.specs.Calls.{back_answer, back_after}
use Rattle.seat.proofs.Answered.{behind-done as seat-done, good-ticket}
use Rattle.seat.proofs.Kept.{open-keeps, close-keeps, record-keeps, back-keeps}
use Rattle.seat.proofs.Undone.{open_is, close-zeros, record-undone}
use Rattle.centre.specs.declared.Ticket.{Ticket}
use Rattle.centre.specs.Answers.{is_done, behind}
use Rattle.centre.proofs.First.{behind-done, behind-refused}
use Rattle.demands.specs.Calls.{Act, close, set, submit, take_back, read, Call, opening, under, writing, reading}
use Rattle.demands.proofs.InSeat.{act_tells, act_makes, tells, makes, leaves}
use Rattle.demands.proofs.DoneCalls.{OneStep, open-is-done, close-is-done, back-is-done, set-steps, submit-steps}

-- what the seat's own calls leave where they are done
backed-is : (ticket : ℕ) (s : List ℕ) → back_answer ticket s ≡ Ok tt → back_after ticket s ≡ backed s
unfolding back_after
backed-is ticket s d = seat-done (back_answer ticket s) (backed s) s d

-- one step more keeps a seat fit, and is taken back without a trace
module _ (made s : List ℕ) (fit : seat_fits s ≡ true) (on : OneStep made s) where
  step_keeps : seat_fits made ≡ true
  step_keeps = ap seat_fits on.is ∙ record-keeps on.one s fit on.opened on.few on.can

  pub step-undone : backed made ≡ s
  step-undone =
      let undone = record-undone (head_of s).opening on.one s fit (good-ticket (head_of s).opening s on.opened refl) on.few on.can in
      ap backed on.is ∙ sym (backed-is (head_of s).opening (stepped on.one s) undone.0) ∙ undone.1

module _ (dir : List Participant) (s : List ℕ) (fit : seat_fits s ≡ true) where
  act-keeps : (ticket : Ticket) (act : Act) → is_done (act_tells dir ticket act s) ≡ true → seat_fits (act_makes dir act s) ≡ true
  unfolding act_makes
  act-keeps ticket close e =
      ap seat_fits (sym (close-zeros ticket.opening s (close-is-done dir s ticket e))) ∙ close-keeps ticket.opening s fit
  act-keeps ticket (set owner number wish) e =
      step_keeps (act_makes dir (set owner number wish) s) s fit (set-steps dir s ticket owner number wish fit e)
  act-keeps ticket (submit sender today sheet slip) e =
      step_keeps (act_makes dir (submit sender today sheet slip) s) s fit (submit-steps dir s ticket sender today sheet slip fit e)
  act-keeps ticket take_back e =
      ap seat_fits (sym (backed-is ticket.opening s (back-is-done dir s ticket e))) ∙ back-keeps ticket.opening s fit
  act-keeps ticket (read owner number) e = fit

  done-keeps : (call : Call) → is_done (tells dir call s) ≡ true → seat_fits (makes dir call s) ≡ true
  unfolding tells makes
  done-keeps (opening seat sums) e =
      let is = open-is-done dir s seat sums e in
      ap seat_fits (sym (open_is dir sums s is.1)) ∙ open-keeps dir sums s (fit-few dir is.0) fit
  done-keeps (under ticket act) e = act-keeps ticket act e
  done-keeps (writing slip buffer) e = fit
  done-keeps (reading bytes) e = fit

  pub leaves-fit : (call : Call) → seat_fits (leaves dir call s) ≡ true
  unfolding leaves
  leaves-fit call = go (is_done (tells dir call s)) refl
    where
      go : (b : Bool) → is_done (tells dir call s) ≡ b → seat_fits (behind (tells dir call s) (makes dir call s) s) ≡ true
      go true e = ap seat_fits (behind-done (tells dir call s) (makes dir call s) s e) ∙ done-keeps call e
      go false e = ap seat_fits (behind-refused (tells dir call s) (makes dir call s) s e) ∙ fit
