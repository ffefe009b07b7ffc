-- What a call did, by its answer: a quiet one left its seat as it was; a step put one step into it, which a take-back that is done takes back; and
-- right after it was opened or closed, or in a new room, no step stands in it, so that none can be taken back.
-- Assumes nothing.
use mathlib.Core.Path.{◌≡◌, refl, ap, ◌∙◌}
use mathlib.Core.Bool.{Bool, true, false, cond}
use mathlib.Core.List.{List}
use Prim.Native.Nat.{ℕ, suc, ◌<◌}
use native.Mathlib.Omega.{arith}
use lib.Dec.{eqb}
use borrow.Author.Tests.{eqb-false}
use Rattle.slip.specs.Meaning.{seats}
use Rattle.directory.specs.declared.Participant.{Participant}
use Rattle.layout.specs.declared.rows.Head.{Head}
use Rattle.layout.specs.Parts.{part}
use Rattle.layout.specs.Rows.{head_in}
use Rattle.layout.specs.Seat.{seat_long, room_long, seat_from, head_of, seat_of}
use Rattle.journal.specs.Working.{backed}
use Rattle.seat.specs.Fit.{seat_fits}
use Rattle.seat.proofs.Answered.{back_done}
use Rattle.seat.proofs.Opened.{opened-head, zeros_within}
use Rattle.seat.proofs.Kept.{closed-head}
use Rattle.strike.specs.Machine.{Deed, quiet, step, back, fresh}
use Rattle.centre.specs.Answers.{is_done}
use Rattle.centre.proofs.First.{behind-done, behind-refused}
use Rattle.demands.specs.Calls.{close, set, submit, take_back, read, Call, opening, under, writing, reading, new_room}
use Rattle.demands.specs.Seats.{Answer, call_deed, deed_of}
use Rattle.demands.proofs.InSeat.{act_makes, tells, makes, leaves}
use Rattle.demands.proofs.DoneCalls.{OneStep, back-is-done, set-steps, submit-steps}
use Rattle.demands.proofs.SeatKept.{step-undone}

-- the four deeds differ
abbrev deed_number : Deed → ℕ
deed_number quiet = 0
deed_number step = 1
deed_number back = 2
deed_number fresh = 3

differ : (d e : Deed) → eqb (deed_number d) (deed_number e) ≡ false → d ≡ e → ⊥
differ d e apart same = eqb-false (deed_number d) (deed_number e) apart (ap deed_number same)

-- a deed that is not quiet was done
deed-done : (call : Call) (a : Answer) (d : Deed) → (quiet ≡ d → ⊥) → deed_of call a ≡ d → (is_done a.0 ≡ true) × (call_deed call ≡ d)
unfolding deed_of
deed-done call a d loud e = go (is_done a.0) refl e
  where
    go : (b : Bool) → is_done a.0 ≡ b → cond b (call_deed call) quiet ≡ d → (is_done a.0 ≡ true) × (call_deed call ≡ d)
    go true f g = (f, g)
    go false f g = absurd (loud g)

module _ (dir : List Participant) (s : List ℕ) where
  -- what is left by a call that is done
  left-done : (call : Call) → is_done (tells dir call s) ≡ true → leaves dir call s ≡ makes dir call s
  unfolding leaves
  left-done call e = behind-done (tells dir call s) (makes dir call s) s e

  -- reading an account and slip calls are quiet where they are done
  quiet_same : (call : Call) → call_deed call ≡ quiet → makes dir call s ≡ s
  unfolding makes act_makes
  quiet_same (opening seat sums) e = cc
  quiet_same (under ticket close) e = cc
  quiet_same (under ticket (set owner number wish)) e = cc
  quiet_same (under ticket (submit sender today sheet slip)) e = cc
  quiet_same (under ticket take_back) e = cc
  quiet_same (under ticket (read owner number)) e = refl
  quiet_same (writing slip buffer) e = refl
  quiet_same (reading bytes) e = refl

  pub quiet-left : (call : Call) (slip : List ℕ) → deed_of call (tells dir call s, slip) ≡ quiet → leaves dir call s ≡ s
  unfolding deed_of leaves
  quiet-left call slip e = go (is_done (tells dir call s)) refl e
    where
      go : (b : Bool) → is_done (tells dir call s) ≡ b → cond b (call_deed call) quiet ≡ quiet → leaves dir call s ≡ s
      go true f g = behind-done (tells dir call s) (makes dir call s) s f ∙ quiet_same call g
      go false f g = behind-refused (tells dir call s) (makes dir call s) s f

  -- a set and a message are steps
  step-made : (call : Call) → seat_fits s ≡ true → is_done (tells dir call s) ≡ true → call_deed call ≡ step → OneStep (makes dir call s) s
  unfolding tells makes
  step-made (opening seat sums) fit f e = absurd (differ fresh step refl e)
  step-made (under ticket close) fit f e = absurd (differ fresh step refl e)
  step-made (under ticket (set owner number wish)) fit f e = set-steps dir s ticket owner number wish fit f
  step-made (under ticket (submit sender today sheet slip)) fit f e = submit-steps dir s ticket sender today sheet slip fit f
  step-made (under ticket take_back) fit f e = absurd (differ back step refl e)
  step-made (under ticket (read owner number)) fit f e = absurd (differ quiet step refl e)
  step-made (writing slip buffer) fit f e = absurd (differ quiet step refl e)
  step-made (reading bytes) fit f e = absurd (differ quiet step refl e)

  -- a take-back takes the last step back, and there is one
  back-made : (call : Call) → is_done (tells dir call s) ≡ true → call_deed call ≡ back → (makes dir call s ≡ backed s) × ((head_of s).steps ≡ 0 → ⊥)
  unfolding tells makes act_makes
  back-made (opening seat sums) f e = absurd (differ fresh back refl e)
  back-made (under ticket close) f e = absurd (differ fresh back refl e)
  back-made (under ticket (set owner number wish)) f e = absurd (differ step back refl e)
  back-made (under ticket (submit sender today sheet slip)) f e = absurd (differ step back refl e)
  back-made (under ticket take_back) f e = (refl, (back_done ticket.opening s (back-is-done dir s ticket f)).1)
  back-made (under ticket (read owner number)) f e = absurd (differ quiet back refl e)
  back-made (writing slip buffer) f e = absurd (differ quiet back refl e)
  back-made (reading bytes) f e = absurd (differ quiet back refl e)

  pub back-left : (call : Call) (slip : List ℕ) → deed_of call (tells dir call s, slip) ≡ back
      → (leaves dir call s ≡ backed s) × ((head_of s).steps ≡ 0 → ⊥)
  back-left call slip e =
      let was = deed-done call (tells dir call s, slip) back (differ quiet back refl) e in
      let made = back-made call was.0 was.1 in
      (left-done call was.0 ∙ made.0, made.1)

  pub step_left : (call : Call) (slip : List ℕ) → seat_fits s ≡ true → deed_of call (tells dir call s, slip) ≡ step → backed (leaves dir call s) ≡ s
  step_left call slip fit e =
      let was = deed-done call (tells dir call s, slip) step (differ quiet step refl) e in
      ap backed (left-done call was.0) ∙ step-undone (makes dir call s) s fit (step-made call fit was.0 was.1)

  -- a seat that was just opened or closed has no step
  fresh-made : (call : Call) → call_deed call ≡ fresh → (head_of (makes dir call s)).steps ≡ 0
  unfolding makes act_makes
  fresh-made (opening seat sums) e = ap (λ (h : Head). h.steps) (opened-head (suc (head_of s).opening) sums)
  fresh-made (under ticket close) e = ap (λ (h : Head). h.steps) (closed-head (head_of s).opening)
  fresh-made (under ticket (set owner number wish)) e = absurd (differ step fresh refl e)
  fresh-made (under ticket (submit sender today sheet slip)) e = absurd (differ step fresh refl e)
  fresh-made (under ticket take_back) e = absurd (differ back fresh refl e)
  fresh-made (under ticket (read owner number)) e = absurd (differ quiet fresh refl e)
  fresh-made (writing slip buffer) e = absurd (differ quiet fresh refl e)
  fresh-made (reading bytes) e = absurd (differ quiet fresh refl e)

  pub fresh-left : (call : Call) (slip : List ℕ) → deed_of call (tells dir call s, slip) ≡ fresh → (head_of (leaves dir call s)).steps ≡ 0
  fresh-left call slip e =
      let was = deed-done call (tells dir call s, slip) fresh (differ quiet fresh refl) e in
      ap (λ (t : List ℕ). (head_of t).steps) (left-done call was.0) ∙ fresh-made call was.1

-- nor has a seat of a new room
pub new-steps : (k : ℕ) → k < seats → (head_of (seat_of new_room k)).steps ≡ 0
unfolding head_of head_in seat_of part
new-steps k h = ap (λ (s : List ℕ). (head_of s).steps) (zeros_within room_long (seat_from k) seat_long (omega arith))
