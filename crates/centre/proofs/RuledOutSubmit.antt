-- What the contract of submit rules out: that it refuses by 12 a message that fails no check or records it as RJCT, that it is done without a step
-- or without a slip, and that the slip it writes has another step number than the step. Slips whose values fit their fields have the same bytes only
-- where they are the same.
-- Assumes nothing.
use mathlib.Core.Path.{◌≡◌, refl, sym, ap, ◌∙◌}
use mathlib.Core.Bool.{Bool, true, false, ◌&&◌, not, cond, false≢true}
use mathlib.Core.List.{List, [], ◌∷◌, ◌++◌}
use Prim.Native.Nat.{ℕ, suc, ◌+◌, ◌≤◌}
use native.Mathlib.Omega.{arith}
use native.Mathlib.Numerals.{add-one}
use lib.Dec.{leb, ltb, eqb}
use lib.ListN.{length, take, drop}
use borrow.Author.Tests.{eqb-false, leb-true, ltb-false, not-false}
use Rattle.shape.specs.Dates.{is_date}
use Rattle.shape.proofs.Tests.{and_left}
use Rattle.slip.specs.declared.Slip.{Slip}
use Rattle.table.specs.declared.Kind.{Kind}
use Rattle.table.specs.declared.Kind.TheVariants.{Pacs008, Camt050, Pacs028, Pacs002}
use Rattle.slip.specs.declared.Status.TheVariants.{Rjct}
use Rattle.slip.specs.Meaning.{slip_long, steps, six_bytes, is_slip, status_number}
use Rattle.slip.specs.Image.{Fits, image, slip_of as slip_read}
use Rattle.slip.specs.Answers.{can_write}
use Rattle.slip.proofs.Exact.{image-first, image-back, written-fits, writable}
use Rattle.message.specs.declared.Message.{Message}
use Rattle.message.specs.declared.Refusal.TheVariants.{IllFormed, BadField}
use Rattle.message.specs.Message.{Answer}
use Rattle.message.specs.Received.{received_of}
use Rattle.message.specs.Lowest.{number_of}
use Rattle.directory.specs.declared.Participant.{Participant}
use Rattle.directory.specs.Directory.{code_most, is_fit}
use Rattle.layout.specs.declared.rows.Step.{Step}
use Rattle.layout.specs.Seat.{seat_long, head_of, step_of, seat_of, with_seat}
use Rattle.layout.proofs.Rooms.{seat-got}
use Rattle.journal.specs.declared.results.Outcome.{Outcome}
use Rattle.journal.specs.Steps.{step_fits}
use Rattle.journal.specs.Working.{stepped}
use Rattle.journal.proofs.Backed.{possible-fits}
use Rattle.journal.proofs.Changed.{stepped-length, stepped-last}
use Rattle.seat.specs.Fit.{open_fits, room_fits}
use Rattle.seat.proofs.Answered.{ticket-good}
use Rattle.seat.proofs.Kept.{fit-long, fit-open}
use Rattle.seat.proofs.Rooms.{room-long}
use Rattle.judge.specs.declared.case.Case.{Case}
use Rattle.judge.specs.Case.{Arises, case_of}
use Rattle.judge.specs.Rows.{asked_after}
use Rattle.judge.specs.Verdict.{verdict, transferred, sent, told_of, end_of, outcome, step_made, step_by, judged_step}
use Rattle.judge.proofs.Possible.{judged-possible}
use Rattle.std.specs.Prelude.{Ok, Err}
use Rattle.centre.specs.declared.answers.Done.TheVariants.{Plain}
use Rattle.centre.specs.declared.answers.Refusal.TheVariants.{NotTaken}
use Rattle.centre.specs.declared.Ticket.{Ticket}
use Rattle.centre.specs.Answers.{Told, told, done, refused, refused_with, is_done}
use Rattle.centre.specs.Calls.{ticket_bad}
use Rattle.centre.specs.Submit.{verdict_on, not_taken, step_on, slip_of, submit_told, submit_after, submit_slip}
use Rattle.centre.proofs.First.{behind-done}
use Rattle.centre.proofs.Judged.{not-one, not-two, slip-asks}
use Rattle.centre.proofs.Passes.{AllPass, all-passed, step-counted}
use Rattle.centre.proofs.Submitted.{Passed, can-judge, ticket-seat}

-- the slip of a step with another number: its values fit their fields too
other_fits : (ticket : Ticket) (m n : ℕ) (x : Step) → Fits six_bytes.widths (slip_of ticket m x) → n ≤ steps
    → Fits six_bytes.widths (slip_of ticket n x)
unfolding slip_of
other_fits ticket m n x q low =
    record { kind = q.kind; status = q.status; check = q.check; seat = q.seat; opening = q.opening; step = omega (arith, low) }

-- two slips of a step with the same bytes have the same number
step-number : (ticket : Ticket) (n : ℕ) (x : Step) → (slip_of ticket n x).step ≡ n
unfolding slip_of
step-number ticket n x = refl

same_number : (ticket : Ticket) (m n : ℕ) (x : Step) (rest : List ℕ) → is_slip (slip_of ticket m x) ≡ true → n ≤ steps
    → image (slip_of ticket n x) ++ rest ≡ image (slip_of ticket m x) ++ rest → n ≡ m
same_number ticket m n x rest good low e =
    let f : Slip = slip_of ticket n x in
    let g : Slip = slip_of ticket m x in
    let fits : Fits six_bytes.widths g = written-fits g good in
    let same : image f ≡ image g = sym (image-first f rest) ∙ ap (λ (t : List ℕ). take slip_long t) e ∙ image-first g rest in
    let whole : f ≡ g = sym (image-back f (other_fits ticket m n x fits low)) ∙ ap slip_read same ∙ image-back g fits in
    sym (step-number ticket n x) ∙ ap (λ (z : Slip). z.step) whole ∙ step-number ticket m x

-- an answer that is neither 7 nor 8 is a message
good-message : (a : Answer) → eqb (number_of a).0 7 ≡ false → eqb (number_of a).0 8 ≡ false → ((m : Message) → a ≡ Ok m → ⊥) → ⊥
good-message (Err (IllFormed place)) p q f = false≢true (sym p)
good-message (Err (BadField number)) p q f = false≢true (sym q)
good-message (Ok m) p q f = f m refl

-- a transfer that passes every check does not end as RJCT
passed-end : (kind : Kind) (tells : Outcome) → (kind ≡ Pacs028 → ⊥) → (end_of kind 0 tells).status ≡ status_number Rjct → ⊥
unfolding end_of transferred sent status_number
passed-end Pacs008 tells transfers e = omega (arith, e)
passed-end Camt050 tells transfers e = omega (arith, e)
passed-end Pacs028 tells transfers e = transfers refl
passed-end Pacs002 tells transfers e = omega (arith, e)

accepted-only : (c : Case) (s : List ℕ) → verdict c s ≡ 0 → (c.message.kind ≡ Pacs028 → ⊥) → (outcome c s).status ≡ status_number Rjct → ⊥
unfolding outcome
accepted-only c s none transfers e = passed-end c.message.kind (told_of (asked_after c s) s) transfers (rw none at e)

module _ (dir : List Participant) (ticket : Ticket) (sender today : ℕ) (sheet slip room : List ℕ) where
  abbrev seat_here : List ℕ
  seat_here = seat_of room ticket.seat

  abbrev answer_here : Answer
  answer_here = (received_of sheet).answer

  -- the table but for its last line, and with it
  abbrev submit_tests : List (Bool × Told) → List (Bool × Told)
  submit_tests rest =
      (not (room_fits room), refused 1)
      ∷ (not (is_fit dir), refused 2)
      ∷ (ticket_bad ticket room, refused 3)
      ∷ (not (leb sender code_most && is_date today), refused 6)
      ∷ (ltb (length slip) slip_long, refused 11)
      ∷ (eqb (head_of seat_here).steps steps, refused 9)
      ∷ (eqb (number_of answer_here).0 7, refused_with 7 (number_of answer_here).1)
      ∷ (eqb (number_of answer_here).0 8, refused_with 8 (number_of answer_here).1)
      ∷ rest

  abbrev failed : ℕ
  failed = verdict_on (case_of dir sender today) answer_here seat_here

  refuses-all : failed ≡ 0 → (k : ℕ) → told (Err (NotTaken k)) ≡ submit_told dir ticket sender today sheet slip room → ⊥
  unfolding told submit_told not_taken
  refuses-all h k e =
      let last = (all-passed (submit_tests []) (cond (not_taken failed) (refused_with 12 failed) (done [])) (told (Err (NotTaken k))) refl e).1 in
      let over : told (Err (NotTaken k)) ≡ done [] = rw h at last in
      let none : ◌≡◌ {A = ℕ} 12 0 = ap (λ (t : Told). t.number) over in
      omega arith

  module _ (e : told (Ok Plain) ≡ submit_told dir ticket sender today sheet slip room) where
    tests : AllPass (submit_tests ((not_taken failed, refused_with 12 failed) ∷ []))
    unfolding told submit_told
    tests = (all-passed (submit_tests ((not_taken failed, refused_with 12 failed) ∷ [])) (done []) (told (Ok Plain)) refl e).0

    fit : room_fits room ≡ true
    fit = not-false (room_fits room) tests.0

    over : is_done (submit_told dir ticket sender today sheet slip room) ≡ true
    unfolding told is_done
    over = ap is_done (sym e)

    submit-made : submit_after dir ticket sender today sheet slip room
        ≡ with_seat room ticket.seat (stepped (step_on (case_of dir sender today) answer_here seat_here) seat_here)
    unfolding submit_told submit_after
    submit-made =
        behind-done (submit_told dir ticket sender today sheet slip room)
        (with_seat room ticket.seat (stepped (step_on (case_of dir sender today) answer_here seat_here) seat_here)) room over

    abbrev slip_here : Slip
    slip_here = slip_of ticket (suc (head_of seat_here).steps) (step_on (case_of dir sender today) answer_here seat_here)

    slip-made : submit_slip dir ticket sender today sheet slip room
        ≡ image (slip_of ticket (suc (head_of seat_here).steps) (step_on (case_of dir sender today) answer_here seat_here)) ++ drop slip_long slip
    unfolding submit_told submit_slip
    slip-made =
        behind-done (submit_told dir ticket sender today sheet slip room)
        (image (slip_of ticket (suc (head_of seat_here).steps) (step_on (case_of dir sender today) answer_here seat_here)) ++ drop slip_long slip) slip over

    -- a centre that writes nothing: it is done and leaves the room, or leaves a buffer that does not hold this very slip already
    pub writes_nothing : (room ≡ submit_after dir ticket sender today sheet slip room → ⊥)
        × ((take slip_long slip ≡ image slip_here → ⊥) → slip ≡ submit_slip dir ticket sender today sheet slip room → ⊥)
    writes_nothing = (
      λ same. step-counted room ticket.seat (step_on (case_of dir sender today) answer_here seat_here) fit (ticket-seat ticket room tests.1.1.0)
          (same ∙ submit-made),
      λ other same. other (ap (λ (b : List ℕ). take slip_long b) (same ∙ slip-made) ∙ image-first slip_here (drop slip_long slip)),
    )

    all_right : Passed (is_fit dir) ticket sender today slip room
    all_right = record {
      room-fit = fit;
      directory-fit = not-false (is_fit dir) tests.1.0;
      ticket-right = tests.1.1.0;
      numbers-right = not-false (leb sender code_most && is_date today) tests.1.1.1.0;
      slip-long = ltb-false (length slip) slip_long tests.1.1.1.1.0;
      steps-left = eqb-false (head_of seat_here).steps steps tests.1.1.1.1.1.0;
    }

    -- the right slip is a slip
    module _ (m : Message) (f : answer_here ≡ Ok m) where
      abbrev case_here : Case
      case_here = case_of dir sender today m

      not-refused : not_taken (verdict case_here seat_here) ≡ false
      unfolding not_taken verdict_on
      not-refused = rw f at tests.1.1.1.1.1.1.1.1.0

      arises : Arises case_here
      unfolding case_of
      arises = record {
        sheet = sheet;
        dir = dir;
        good = f;
        fit = all_right.directory-fit;
        code = leb-true sender code_most (and_left (leb sender code_most) (is_date today) all_right.numbers-right);
        looked = refl;
      }

      can-write : can_write (slip_of ticket ((head_of seat_here).steps + 1) (judged_step case_here seat_here)) slip ≡ true
      unfolding judged_step
      can-write =
          let c : Case = case_here in
          let s : List ℕ = seat_here in
          let can = can-judge all_right (case_of dir sender today) answer_here m f arises c refl s refl in
          slip-asks ticket c s slip (verdict c s) refl not-refused (step_by c s (verdict c s)) refl (head_of s) refl
          can.0 can.1 can.3 can.5 can.2 can.4

      right-slip : is_slip (slip_of ticket (suc (head_of seat_here).steps) (step_on (case_of dir sender today) answer_here seat_here)) ≡ true
      unfolding step_on
      right-slip =
          rw (f, ← add-one (head_of seat_here).steps)
          (writable (slip_of ticket ((head_of seat_here).steps + 1) (judged_step case_here seat_here)) slip can-write)

      -- the step that is stored is that of the outcome
      step-stored : (step_of (seat_of (submit_after dir ticket sender today sheet slip room) ticket.seat) (head_of seat_here).steps).status
          ≡ (outcome case_here seat_here).status
      unfolding step_on judged_step step_by step_made outcome not_taken
      step-stored =
          let x : Step = judged_step case_here seat_here in
          let can = can-judge all_right (case_of dir sender today) answer_here m f arises case_here refl seat_here refl in
          let long : length seat_here ≡ seat_long = fit-long seat_here can.0 in
          let opened : open_fits seat_here ≡ true = fit-open seat_here can.0 (ticket-good ticket.opening seat_here can.1).0 in
          let fits : step_fits x ≡ true =
          possible-fits x seat_here
          (judged-possible case_here seat_here arises long opened (not-one (verdict case_here seat_here) not-refused)
          (not-two (verdict case_here seat_here) not-refused)) in
          let made : submit_after dir ticket sender today sheet slip room ≡ with_seat room ticket.seat (stepped x seat_here) =
          submit-made ∙ ap (λ (a : Answer). with_seat room ticket.seat (stepped (step_on (case_of dir sender today) a seat_here) seat_here)) f in
          ap (λ (r : List ℕ). (step_of (seat_of r ticket.seat) (head_of seat_here).steps).status) made
          ∙ ap (λ (t : List ℕ). (step_of t (head_of seat_here).steps).status)
          (seat-got room ticket.seat (stepped x seat_here) (room-long room fit) can.2 (stepped-length x seat_here long fits can.3))
          ∙ ap (λ (y : Step). y.status) (stepped-last x seat_here long fits can.3)

    pub invented-step-number : (n : ℕ) → (n ≡ suc (head_of seat_here).steps → ⊥)
        → image (slip_of ticket n (step_on (case_of dir sender today) answer_here seat_here)) ++ drop slip_long slip
        ≡ submit_slip dir ticket sender today sheet slip room
        → n ≤ steps → ⊥
    invented-step-number n h written low =
        good-message answer_here tests.1.1.1.1.1.1.0 tests.1.1.1.1.1.1.1.0
        (λ (m : Message) (f : answer_here ≡ Ok m).
        h (same_number ticket (suc (head_of seat_here).steps) n (step_on (case_of dir sender today) answer_here seat_here) (drop slip_long slip) (right-slip m f) low
        (written ∙ slip-made)))

  -- a centre that rejects all: it refuses by 12 what passes every check, or records a transfer that does as RJCT
  pub rejects-all : failed ≡ 0
      → ((k : ℕ) → told (Err (NotTaken k)) ≡ submit_told dir ticket sender today sheet slip room → ⊥)
      × ((m : Message) → answer_here ≡ Ok m → (m.kind ≡ Pacs028 → ⊥) → told (Ok Plain) ≡ submit_told dir ticket sender today sheet slip room
      → (left : List ℕ) → left ≡ submit_after dir ticket sender today sheet slip room
      → (step_of (seat_of left ticket.seat) (head_of seat_here).steps).status ≡ status_number Rjct → ⊥)
  unfolding verdict_on case_of
  rejects-all h = (
    refuses-all h,
    λ m good transfers e left same rejected.
        let none : verdict (case_of dir sender today m) seat_here ≡ 0 =
        ap (λ (a : Answer). verdict_on (case_of dir sender today) a seat_here) (sym good) ∙ h in
        accepted-only (case_of dir sender today m) seat_here none transfers
        (sym (step-stored e m good) ∙ ap (λ (r : List ℕ). (step_of (seat_of r ticket.seat) (head_of seat_here).steps).status) (sym same) ∙ rejected),
  )
