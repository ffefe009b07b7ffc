-- A message judged in its seat. The check that it fails by decides: 1 and 2 refuse it and leave the seat and the buffer as they came; any other, or
-- none, makes it one step, which the seat can take, and a slip, which can be written because the seat fits and the ticket is its own.
-- Assumes nothing.
use mathlib.Core.Path.{◌≡◌, refl, sym, ap, subst, ◌∙◌}
use mathlib.Core.Bool.{true, false, false≢true}
use mathlib.Core.List.{List, ◌++◌}
use Prim.Native.Nat.{ℕ, suc, ◌+◌, ◌-◌, ◌≤◌, ◌<◌}
use native.Mathlib.Omega.{arith}
use native.Mathlib.Numerals.{add-one}
use lib.Dec.{eqb}
use lib.ListN.{length, drop}
use borrow.Author.Tests.{le-leb, le-ltb, eq-eqb}
use Rattle.std.specs.Prelude.{Ok, Err}
use Rattle.shape.proofs.Tests.{or_left, or_right}
use Rattle.slip.specs.declared.Slip.{Slip}
use Rattle.slip.specs.Meaning.{seats, openings, steps, slip_long, says, is_slip}
use Rattle.slip.specs.Image.{image}
use Rattle.slip.specs.Answers.{can_write, write_after}
use Rattle.layout.specs.declared.rows.Head.{Head}
use Rattle.layout.specs.declared.rows.Step.{Step}
use Rattle.layout.specs.Seat.{seat_long, head_of}
use Rattle.journal.specs.Low.{Low}
use Rattle.journal.specs.Steps.{step_fits}
use Rattle.journal.specs.Working.{possible, stepped}
use Rattle.journal.proofs.Backed.{possible-fits}
use Rattle.seat.specs.Fit.{open_fits, seat_fits}
use Rattle.seat.specs.Calls.{no_ticket}
use Rattle.seat.proofs.Forward.{open-fits, fit_low}
use Rattle.seat.proofs.Kept.{fit-long, fit-open}
use Rattle.seat.proofs.Answered.{ticket-good}
use Rattle.judge.specs.declared.case.Case.{Case}
use Rattle.judge.specs.Case.{Arises}
use Rattle.judge.specs.Verdict.{verdict, step_by, judged_step}
use Rattle.judge.proofs.Possible.{judged-says, judged-possible}
use Rattle.centre.specs.declared.Ticket.{Ticket}
use Rattle.centre.specs.declared.answers.Done.TheVariants.{Plain}
use Rattle.centre.specs.declared.answers.Refusal.TheVariants.{NotTaken}
use Rattle.centre.specs.Answers.{Told, told, refused_with, is_done, behind}
use Rattle.centre.specs.Submit.{not_taken, slip_of, judged_told, judged_after, judged_slip}

-- what is left in the buffer where the slip can be written
pub slip-written : (x : Slip) (slip : List ℕ) → can_write x slip ≡ true → write_after x slip ≡ image x ++ drop slip_long slip
unfolding write_after
slip-written x slip e = rw e

-- what is left behind a call that is done, and behind one that is refused
behind-made : {A : Type 0} (t : Told) (made came : A) → is_done t ≡ true → made ≡ behind t made came
unfolding behind
behind-made t made came e = rw e

behind-came : {A : Type 0} (t : Told) (made came : A) → is_done t ≡ false → came ≡ behind t made came
unfolding behind
behind-came t made came e = rw e

-- the answer, by the check
told-refused : (c : Case) (s : List ℕ) → not_taken (verdict c s) ≡ true → judged_told c s ≡ refused_with 12 (verdict c s)
unfolding judged_told
told-refused c s e = rw e

told-done : (c : Case) (s : List ℕ) → not_taken (verdict c s) ≡ false → judged_told c s ≡ told (Ok Plain)
unfolding judged_told told
told-done c s e = rw e

pub done_refused : (check : ℕ) → is_done (refused_with 12 check) ≡ false
unfolding is_done
done_refused check = refl

done-done : is_done (told (Ok Plain)) ≡ true
unfolding is_done told
done-done = refl

told-not : (check : ℕ) → told (Err (NotTaken check)) ≡ refused_with 12 check
unfolding told
told-not check = refl

-- a check that is none of the two
pub not-one : (check : ℕ) → not_taken check ≡ false → check ≡ 1 → ⊥
unfolding not_taken
not-one check e o = false≢true (sym e ∙ or_left (eqb check 1) (eqb check 2) (eq-eqb check 1 o))

pub not-two : (check : ℕ) → not_taken check ≡ false → check ≡ 2 → ⊥
unfolding not_taken
not-two check e o = false≢true (sym e ∙ or_right (eqb check 1) (eqb check 2) (eq-eqb check 2 o))

-- what the seat and the ticket say before anything is done
module _ (ticket : Ticket) (s : List ℕ) (f : seat_fits s ≡ true) (t : no_ticket ticket.opening s ≡ false) where
  seat-open : open_fits s ≡ true
  seat-open = fit-open s f (ticket-good ticket.opening s t).0

  pub seat-asks : (length s ≡ seat_long) × ((head_of s).steps ≤ steps)
  seat-asks = (fit-long s f, (open-fits s seat-open).count)

  opening-least : 1 ≤ ticket.opening
  opening-least = subst (λ (n : ℕ). 1 ≤ n) (ticket-good ticket.opening s t).1 (open-fits s seat-open).least

  opening-most : ticket.opening ≤ openings
  opening-most = subst (λ (n : ℕ). n ≤ openings) (ticket-good ticket.opening s t).1 (open-fits s seat-open).most

-- refused
pub not_taken_lem : (ticket : Ticket) (c : Case) (s slip : List ℕ) (check : ℕ) → check ≡ verdict c s → not_taken check ≡ true
    → (told (Err (NotTaken check)) ≡ judged_told c s) × ((s ≡ judged_after c s) × (slip ≡ judged_slip ticket c s slip))
unfolding judged_after judged_slip
not_taken_lem ticket c s slip check v e =
    let held : not_taken (verdict c s) ≡ true = subst (λ (n : ℕ). not_taken n ≡ true) v e in
    let refused : judged_told c s ≡ refused_with 12 (verdict c s) = told-refused c s held in
    let over : is_done (judged_told c s) ≡ false = ap is_done refused ∙ done_refused (verdict c s) in (
      told-not check ∙ ap (λ (n : ℕ). refused_with 12 n) v ∙ sym refused,
      (
        behind-came (judged_told c s) (stepped (judged_step c s) s) s over,
        behind-came (judged_told c s) (image (slip_of ticket (suc (head_of s).steps) (judged_step c s)) ++ drop slip_long slip) slip over,
      ),
    )

-- the six values are those of a slip, and the buffer has room
slip-good : (x : Slip) (slip : List ℕ) → slip_long ≤ length slip → says x.kind x.status x.check ≡ true → x.seat ≤ seats - 1
    → 1 ≤ x.opening → x.opening ≤ openings → 1 ≤ x.step → x.step ≤ steps → can_write x slip ≡ true
unfolding can_write is_slip
slip-good x slip room saying seat least most first last =
    rw (
      le-ltb (length slip) slip_long room,
      saying,
      le-leb x.seat (seats - 1) seat,
      le-leb 1 x.opening least,
      le-leb x.opening openings most,
      le-leb 1 x.step first,
      le-leb x.step steps last,
    )

-- the slip of a step
step-slip : (ticket : Ticket) (number : ℕ) (x : Step) (slip : List ℕ) → slip_long ≤ length slip → says x.kind x.status x.check ≡ true
    → ticket.seat ≤ seats - 1 → 1 ≤ ticket.opening → ticket.opening ≤ openings → 1 ≤ number → number ≤ steps
    → can_write (slip_of ticket number x) slip ≡ true
unfolding slip_of
step-slip ticket number x slip room saying seat least most first last =
    slip-good (slip_of ticket number x) slip room saying seat least most first last

-- taken: the step is the one of the check
module _ (ticket : Ticket) (c : Case) (s slip : List ℕ) (check : ℕ) (v : check ≡ verdict c s) (n : not_taken check ≡ false)
    (x : Step) (makes : x ≡ step_by c s check) (h : Head) (heads : h ≡ head_of s) where
  passes : not_taken (verdict c s) ≡ false
  passes = subst (λ (k : ℕ). not_taken k ≡ false) v n

  making : x ≡ judged_step c s
  unfolding judged_step
  making = makes ∙ ap (step_by c s) v

  counting : h.steps + 1 ≡ suc (head_of s).steps
  counting = add-one h.steps ∙ ap (λ (k : Head). suc k.steps) heads

  pub taken : (after written : List ℕ) → after ≡ stepped x s → written ≡ image (slip_of ticket (h.steps + 1) x) ++ drop slip_long slip
      → (told (Ok Plain) ≡ judged_told c s) × ((after ≡ judged_after c s) × (written ≡ judged_slip ticket c s slip))
  unfolding judged_after judged_slip
  taken after written steps_on writes =
      let finished : judged_told c s ≡ told (Ok Plain) = told-done c s passes in
      let over : is_done (judged_told c s) ≡ true = ap is_done finished ∙ done-done in (
        sym finished,
        (
          steps_on ∙ ap (λ (y : Step). stepped y s) making ∙ behind-made (judged_told c s) (stepped (judged_step c s) s) s over,
          writes ∙ ap (λ (y : Step). image (slip_of ticket (h.steps + 1) y) ++ drop slip_long slip) making
              ∙ ap (λ (k : ℕ). image (slip_of ticket k (judged_step c s)) ++ drop slip_long slip) counting
              ∙ behind-made (judged_told c s) (image (slip_of ticket (suc (head_of s).steps) (judged_step c s)) ++ drop slip_long slip) slip over,
        ),
      )

  -- what the step and the slip ask of the functions that make them
  module _ (f : seat_fits s ≡ true) (t : no_ticket ticket.opening s ≡ false) (few : (head_of s).steps < steps) (a : Arises c) where
    pub append-asks : Low s × (step_fits x ≡ true) × ((head_of s).steps < steps)
    append-asks =
        let fit : open_fits s ≡ true = seat-open ticket s f t in
        let can : possible (judged_step c s) s ≡ true =
        judged-possible c s a (fit-long s f) fit (not-one (verdict c s) passes) (not-two (verdict c s) passes) in (
          fit_low s (fit-long s f) fit,
          subst (λ (y : Step). step_fits y ≡ true) (sym making) (possible-fits (judged_step c s) s can),
          few,
        )

    pub count_low : h.steps < steps
    count_low = subst (λ (k : Head). k.steps < steps) (sym heads) few

    pub slip-asks : ticket.seat < seats → slip_long ≤ length slip → can_write (slip_of ticket (h.steps + 1) x) slip ≡ true
    slip-asks seat room =
        let low : h.steps < steps = count_low in
        let saying =
        judged-says c s a (seat-open ticket s f t) (not-one (verdict c s) passes) (not-two (verdict c s) passes) in
        step-slip ticket (h.steps + 1) x slip room
        (subst (λ (y : Step). says y.kind y.status y.check ≡ true) (sym making) saying)
        (omega (arith, seat)) (opening-least ticket s f t) (opening-most ticket s f t) (omega arith) (omega (arith, low))
