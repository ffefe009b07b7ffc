-- What a call that is done says of its seat: none of the refusals in front of it held, so the seat's own call is done; and a set or a message that
-- is done was one possible step of an open seat with a free place.
-- Assumes nothing.
use Rattle.std.specs.Prelude.{Ok, Err}
use mathlib.Core.Path.{◌≡◌, refl, sym, ◌∙◌}
use mathlib.Core.Bool.{Bool, true, false, not, ◌&&◌, cond, false≢true}
use mathlib.Core.List.{List, [], ◌∷◌}
use Prim.Native.Nat.{ℕ, suc, ◌≤◌, ◌<◌}
use native.Mathlib.Omega.{arith}
use lib.Dec.{leb, ltb, eqb}
use lib.ListN.{length}
use borrow.Author.Tests.{leb-true, eqb-false, eq-eqb, not-false}
use Rattle.shape.specs.Dates.{is_date}
use Rattle.shape.proofs.Tests.{and_left, or_left, or_right}
use Rattle.slip.specs.Meaning.{slip_long, openings, steps}
use Rattle.message.specs.declared.Message.{Message}
use Rattle.message.specs.Message.{Answer}
use Rattle.message.specs.declared.Refusal.TheVariants.{IllFormed, BadField}
use Rattle.message.specs.Received.{received_of}
use Rattle.message.specs.Lowest.{number_of}
use Rattle.directory.specs.declared.Participant.{Participant}
use Rattle.directory.specs.Directory.{code_most, found, is_fit}
use Rattle.directory.proofs.Finds.{fit-few}
use Rattle.layout.specs.declared.rows.Step.{Step}
use Rattle.layout.specs.Seat.{head_of, account_of}
use Rattle.journal.specs.Steps.{settings_fit}
use Rattle.journal.specs.Working.{possible, stepped}
use Rattle.seat.specs.declared.settings.Wish.{Wish}
use Rattle.seat.specs.Fit.{seat_fits}
use Rattle.seat.specs.Settings.{settings_of}
use Rattle.seat.specs.Calls.{no_ticket, sums_good, open_answer, close_answer, account_named, account_number, place_fits, set_step, set_answer, back_answer}
use Rattle.seat.proofs.Answered.{ticket-good}
use Rattle.seat.proofs.Forward.{open-fits}
use Rattle.seat.proofs.Kept.{fit-long, fit-open, set-open, set_room, set-can}
use Rattle.judge.specs.declared.case.Case.{Case}
use Rattle.judge.specs.Case.{Arises, case_of}
use Rattle.judge.specs.Verdict.{verdict, judged_step}
use Rattle.judge.proofs.Places.{found-fits}
use Rattle.judge.proofs.Possible.{judged-possible}
use Rattle.centre.specs.declared.Ticket.{Ticket}
use Rattle.centre.specs.Answers.{Told, done, refused, refused_with, is_done}
use Rattle.centre.specs.Calls.{set_in}
use Rattle.centre.specs.Submit.{verdict_on, not_taken, step_on}
use Rattle.demands.specs.Calls.{close, set, submit, take_back, opening}
use Rattle.demands.proofs.InSeat.{act_tells, act_makes, tells}

-- one refusal whose test does not hold
passed : (t : Bool) (line rest : Told) → is_done line ≡ false → is_done (cond t line rest) ≡ true → (t ≡ false) × (is_done rest ≡ true)
passed true line rest n e = absurd (false≢true (sym n ∙ e))
passed false line rest n e = (refl, e)

-- one step more in an open seat
pub record OneStep (made s : List ℕ) : Type 0 where
  pub one : Step
  pub opened : (head_of s).opened ≡ 1
  pub few : (head_of s).steps < steps
  pub can : possible one s ≡ true
  pub is : made ≡ stepped one s

-- a check that is none of the two that refuse
not-one : (check : ℕ) → not_taken check ≡ false → check ≡ 1 → ⊥
unfolding not_taken
not-one check e o = false≢true (sym e ∙ or_left (eqb check 1) (eqb check 2) (eq-eqb check 1 o))

not-two : (check : ℕ) → not_taken check ≡ false → check ≡ 2 → ⊥
unfolding not_taken
not-two check e o = false≢true (sym e ∙ or_right (eqb check 1) (eqb check 2) (eq-eqb check 2 o))

-- a place is free where the count is not the last one
few-steps : (s : List ℕ) → seat_fits s ≡ true → (head_of s).opened ≡ 1 → eqb (head_of s).steps steps ≡ false → (head_of s).steps < steps
few-steps s e o n =
    let most : (head_of s).steps ≤ steps = (open-fits s (fit-open s e o)).count in
    let left : (head_of s).steps ≡ steps → ⊥ = eqb-false (head_of s).steps steps n in
    omega arith

-- a message comes up in a fit directory, from a sender with a code
case-arises : (dir : List Participant) (sender today : ℕ) (sheet : List ℕ) (m : Message) → (received_of sheet).answer ≡ Ok m → is_fit dir ≡ true
    → sender ≤ code_most → Arises (case_of dir sender today m)
unfolding case_of
case-arises dir sender today sheet m good fit code =
    record { sheet = sheet; dir = dir; good = good; fit = fit; code = code; looked = refl }

module _ (dir : List Participant) (s : List ℕ) where
  pub open-is-done : (seat : ℕ) (sums : List ℕ) → is_done (tells dir (opening seat sums) s) ≡ true
      → (is_fit dir ≡ true) × (open_answer dir sums s ≡ Ok tt)
  unfolding tells open_answer is_done
  open-is-done seat sums e =
      let last : Told = cond (not (sums_good dir sums)) (refused 6) (done (suc (head_of s).opening ∷ [])) in
      let third : Told = cond (eqb (head_of s).opening openings) (refused 5) last in
      let one = passed (not (is_fit dir)) (refused 2) (cond (eqb (head_of s).opened 1) (refused 4) third) refl e in
      let two = passed (eqb (head_of s).opened 1) (refused 4) third refl one.1 in
      let three = passed (eqb (head_of s).opening openings) (refused 5) last refl two.1 in
      let four = passed (not (sums_good dir sums)) (refused 6) (done (suc (head_of s).opening ∷ [])) refl three.1 in
      (not-false (is_fit dir) one.0, rw (two.0, three.0, four.0))

  module _ (ticket : Ticket) where
    pub close-is-done : is_done (act_tells dir ticket close s) ≡ true → close_answer ticket.opening s ≡ Ok tt
    unfolding act_tells close_answer is_done
    close-is-done e = rw (passed (no_ticket ticket.opening s) (refused 3) (done []) refl e).0

    pub back-is-done : is_done (act_tells dir ticket take_back s) ≡ true → back_answer ticket.opening s ≡ Ok tt
    unfolding act_tells back_answer is_done
    back-is-done e =
        let last : Told = cond (eqb (head_of s).steps 0) (refused 10) (done []) in
        let one = passed (no_ticket ticket.opening s) (refused 3) last refl e in
        let two = passed (eqb (head_of s).steps 0) (refused 10) (done []) refl one.1 in
        rw (one.0, two.0)

    set-is-done : (owner number : ℕ) (wish : Wish) → is_done (act_tells dir ticket (set owner number wish) s) ≡ true
        → (is_fit dir ≡ true) × (set_answer ticket.opening (found dir owner) number (settings_of wish) s ≡ Ok tt)
    unfolding act_tells set_answer is_done
    set-is-done owner number wish e =
        let bad : Bool = not (account_named (found dir owner) number && settings_fit (settings_of wish)) in
        let last : Told = cond (eqb (head_of s).steps steps) (refused 9) (done []) in
        let one = passed (not (is_fit dir)) (refused 2) (cond (no_ticket ticket.opening s) (refused 3) (cond bad (refused 6) last)) refl e in
        let two = passed (no_ticket ticket.opening s) (refused 3) (cond bad (refused 6) last) refl one.1 in
        let three = passed bad (refused 6) last refl two.1 in
        let four = passed (eqb (head_of s).steps steps) (refused 9) (done []) refl three.1 in
        (not-false (is_fit dir) one.0, rw (two.0, three.0, four.0))

    pub set-steps : (owner number : ℕ) (wish : Wish) → seat_fits s ≡ true → is_done (act_tells dir ticket (set owner number wish) s) ≡ true
        → OneStep (act_makes dir (set owner number wish) s) s
    unfolding act_makes set_in
    set-steps owner number wish fit e =
        let is = set-is-done owner number wish e in
        let place : place_fits (found dir owner) ≡ true = found-fits dir owner (fit-few dir is.0) in
        let account : ℕ = account_number (found dir owner) number in
        record {
          one = set_step account (account_of s account).settings (settings_of wish);
          opened = set-open ticket.opening (found dir owner) number (settings_of wish) s place fit is.1;
          few = set_room ticket.opening (found dir owner) number (settings_of wish) s place fit is.1;
          can = set-can ticket.opening (found dir owner) number (settings_of wish) s place fit is.1;
          is = refl;
        }

    -- a message that is done: a good sheet from a sender with a code, in an open seat with a free place, and neither of the two checks fails
    submit-is-done : (sender today : ℕ) (sheet slip : List ℕ) → is_done (act_tells dir ticket (submit sender today sheet slip) s) ≡ true
        → (is_fit dir ≡ true) × (no_ticket ticket.opening s ≡ false) × (leb sender code_most ≡ true) × (eqb (head_of s).steps steps ≡ false)
        × (eqb (number_of (received_of sheet).answer).0 7 ≡ false) × (eqb (number_of (received_of sheet).answer).0 8 ≡ false)
        × (not_taken (verdict_on (case_of dir sender today) (received_of sheet).answer s) ≡ false)
    unfolding act_tells is_done
    submit-is-done sender today sheet slip e =
        let received : Answer = (received_of sheet).answer in
        let check : ℕ = verdict_on (case_of dir sender today) received s in
        let ninth : Told = cond (not_taken check) (refused_with 12 check) (done []) in
        let eighth : Told = cond (eqb (number_of received).0 8) (refused_with 8 (number_of received).1) ninth in
        let seventh : Told = cond (eqb (number_of received).0 7) (refused_with 7 (number_of received).1) eighth in
        let sixth : Told = cond (eqb (head_of s).steps steps) (refused 9) seventh in
        let fifth : Told = cond (ltb (length slip) slip_long) (refused 11) sixth in
        let fourth : Told = cond (not (leb sender code_most && is_date today)) (refused 6) fifth in
        let two = passed (not (is_fit dir)) (refused 2) (cond (no_ticket ticket.opening s) (refused 3) fourth) refl e in
        let three = passed (no_ticket ticket.opening s) (refused 3) fourth refl two.1 in
        let four = passed (not (leb sender code_most && is_date today)) (refused 6) fifth refl three.1 in
        let five = passed (ltb (length slip) slip_long) (refused 11) sixth refl four.1 in
        let six = passed (eqb (head_of s).steps steps) (refused 9) seventh refl five.1 in
        let seven = passed (eqb (number_of received).0 7) (refused_with 7 (number_of received).1) eighth refl six.1 in
        let eight = passed (eqb (number_of received).0 8) (refused_with 8 (number_of received).1) ninth refl seven.1 in
        let nine = passed (not_taken check) (refused_with 12 check) (done []) refl eight.1 in (
          not-false (is_fit dir) two.0,
          three.0,
          and_left (leb sender code_most) (is_date today) (not-false (leb sender code_most && is_date today) four.0),
          six.0,
          seven.0,
          eight.0,
          nine.0,
        )

    pub submit-steps : (sender today : ℕ) (sheet slip : List ℕ) → seat_fits s ≡ true
        → is_done (act_tells dir ticket (submit sender today sheet slip) s) ≡ true → OneStep (act_makes dir (submit sender today sheet slip) s) s
    unfolding act_makes step_on verdict_on
    submit-steps sender today sheet slip fit e =
        let is = submit-is-done sender today sheet slip e in
        go (received_of sheet).answer refl is.0 (ticket-good ticket.opening s is.1).0 (leb-true sender code_most is.2) is.3
        is.4 is.5 is.6
      where
        go : (a : Answer) → (received_of sheet).answer ≡ a → is_fit dir ≡ true → (head_of s).opened ≡ 1 → sender ≤ code_most
            → eqb (head_of s).steps steps ≡ false → eqb (number_of a).0 7 ≡ false → eqb (number_of a).0 8 ≡ false
            → not_taken (verdict_on (case_of dir sender today) a s) ≡ false → OneStep (stepped (step_on (case_of dir sender today) a s) s) s
        go (Err (IllFormed place)) q known open-now code free seven eight taken = absurd (false≢true (sym seven))
        go (Err (BadField number)) q known open-now code free seven eight taken = absurd (false≢true (sym eight))
        go (Ok m) q known open-now code free seven eight taken =
            let c : Case = case_of dir sender today m in
            record {
              one = judged_step c s;
              opened = open-now;
              few = few-steps s fit open-now free;
              can = judged-possible c s (case-arises dir sender today sheet m q known code) (fit-long s fit) (fit-open s fit open-now)
                  (not-one (verdict c s) taken) (not-two (verdict c s) taken);
              is = refl;
            }
