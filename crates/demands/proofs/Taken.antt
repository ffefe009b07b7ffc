-- A message that is heard is answered by its check alone: refused by 12 with nothing changed, or done, and then it is one step more in its seat, which
-- the seat can take, with its slip in the buffer.
-- Assumes nothing.
use Rattle.std.specs.Prelude.{Ok}
use mathlib.Core.Path.{◌≡◌, refl, sym, ap, subst, ◌∙◌}
use mathlib.Core.Bool.{true, false, cond}
use mathlib.Core.List.{List, [], ◌++◌}
use Prim.Native.Nat.{ℕ, suc, ◌-◌, ◌≤◌, ◌<◌}
use native.Mathlib.Omega.{arith}
use lib.Dec.{leb, eqb}
use lib.ListN.{length, take, drop}
use borrow.Author.Tests.{le-leb, leb-true, eqb-false}
use Rattle.shape.specs.Dates.{is_date}
use Rattle.shape.proofs.Tests.{and_left}
use Rattle.slip.specs.declared.Slip.{Slip}
use Rattle.slip.specs.Meaning.{seats, openings, steps, slip_long, kind_number, says, is_slip}
use Rattle.slip.specs.Image.{image}
use Rattle.slip.proofs.Exact.{image-first}
use Rattle.message.specs.declared.Message.{Message}
use Rattle.message.specs.Received.{received_of}
use Rattle.directory.specs.declared.Participant.{Participant}
use Rattle.directory.specs.Directory.{code_most}
use Rattle.layout.specs.declared.rows.Head.{Head}
use Rattle.layout.specs.declared.rows.Step.{Step}
use Rattle.layout.specs.Seat.{accounts, seat_long, head_of, account_of, step_of, seat_of, with_seat}
use Rattle.layout.proofs.Rooms.{seat-got}
use Rattle.journal.specs.Steps.{no_step, step_fits}
use Rattle.journal.specs.Answers.{result_now}
use Rattle.journal.specs.Working.{stepped, possible}
use Rattle.journal.proofs.Backed.{possible-fits, possible-answerable}
use Rattle.journal.proofs.Changed.{after, stepped-length, stepped-head, stepped-last, stepped-other, stepped-account}
use Rattle.seat.specs.Fit.{open_fits, seat_fits}
use Rattle.seat.proofs.Answered.{ticket-good}
use Rattle.seat.proofs.Forward.{open-fits}
use Rattle.seat.proofs.Kept.{fit-long, fit-open}
use Rattle.seat.proofs.Reached.{fit_free}
use Rattle.seat.proofs.Rooms.{room-long, room-seat}
use Rattle.judge.specs.declared.case.Case.{Case}
use Rattle.journal.specs.declared.results.Outcome.{Outcome}
use Rattle.judge.specs.Case.{case_of, Arises}
use Rattle.judge.specs.Verdict.{verdict, outcome, step_made, step_by, judged_step}
use Rattle.judge.proofs.Possible.{judged-says, judged-possible}
use Rattle.centre.specs.declared.Ticket.{Ticket}
use Rattle.centre.specs.Answers.{done, refused_with, slip_values, is_done}
use Rattle.centre.specs.Submit.{verdict_on, not_taken, step_on, slip_of, judged_told, submit_told, submit_after, submit_slip}
use Rattle.centre.specs.Slips.{read_told}
use Rattle.centre.proofs.First.{behind-done, behind-refused}
use Rattle.centre.proofs.Judged.{done_refused, not-one, not-two}
use Rattle.demands.specs.Messages.{Kept, slip_said, step_stored, Recorded}
use Rattle.demands.proofs.Heard.{Facts, seat-there, seat-own}
use Rattle.demands.proofs.Movement.{kept_in}
use Rattle.demands.proofs.Became.{became, unanswered}
use Rattle.demands.proofs.Slips.{image-read}

-- an answer that is done, and one that is refused by 12
done-done : is_done (done []) ≡ true
unfolding is_done
done-done = refl

module _ (dir : List Participant) (ticket : Ticket) (sender today : ℕ) (sheet slip room : List ℕ)
    (f : Facts dir ticket sender today sheet slip room) (m : Message) (good : (received_of sheet).answer ≡ Ok m) where
  abbrev pub case : Case
  case = case_of dir sender today m

  abbrev pub place : List ℕ
  place = seat_of room ticket.seat

  abbrev pub made : Step
  made = judged_step case place

  -- the answer is that of the message judged in its seat
  told-judged : submit_told dir ticket sender today sheet slip room ≡ judged_told case place
  unfolding submit_told judged_told verdict_on
  told-judged = rw (f.fit, f.listed, f.ticketed, f.named, f.long, f.free, good)

  -- what submit makes: the step of what the sheet was received as, the room with it and the buffer with its slip
  abbrev step_on_sheet : Step
  step_on_sheet = step_on (case_of dir sender today) (received_of sheet).answer place

  abbrev room_made : List ℕ
  room_made = with_seat room ticket.seat (stepped step_on_sheet place)

  abbrev slip_made : List ℕ
  slip_made = image (slip_of ticket (suc (head_of place).steps) step_on_sheet) ++ drop slip_long slip

  step-made : step_on_sheet ≡ made
  unfolding step_on
  step-made = rw good

  -- the case comes up, in a seat that is open and fits
  pub arises : Arises case
  unfolding case_of
  arises = record {
    sheet = sheet;
    dir = dir;
    good = good;
    fit = f.listed;
    code = leb-true sender code_most (and_left (leb sender code_most) (is_date today) f.named);
    looked = refl;
  }

  seat-low : ticket.seat < seats
  seat-low = seat-there ticket room f.ticketed

  seat-fits : seat_fits place ≡ true
  seat-fits = room-seat room f.fit ticket.seat seat-low

  pub seat-long : length place ≡ seat_long
  seat-long = fit-long place seat-fits

  pub seat-open : open_fits place ≡ true
  seat-open = fit-open place seat-fits (ticket-good ticket.opening place (seat-own ticket room f.ticketed)).0

  pub steps_low : (head_of place).steps < steps
  steps_low =
      let most : (head_of place).steps ≤ steps = (open-fits place seat-open).count in
      let left : (head_of place).steps ≡ steps → ⊥ = eqb-false (head_of place).steps steps f.free in
      omega arith

  -- refused by check 1 or 2: nothing changes
  module _ (refuses : not_taken (verdict case place) ≡ true) where
    told-refused : submit_told dir ticket sender today sheet slip room ≡ refused_with 12 (verdict case place)
    unfolding judged_told
    told-refused = told-judged ∙ rw refuses

    over : is_done (submit_told dir ticket sender today sheet slip room) ≡ false
    over = ap is_done told-refused ∙ done_refused (verdict case place)

    pub not_taken_lem : (submit_told dir ticket sender today sheet slip room ≡ refused_with 12 (verdict case place))
        × (submit_after dir ticket sender today sheet slip room ≡ room)
        × (submit_slip dir ticket sender today sheet slip room ≡ slip)
    unfolding submit_told submit_after submit_slip
    not_taken_lem = (
      told-refused,
      behind-refused (submit_told dir ticket sender today sheet slip room)
          room_made room over,
      behind-refused (submit_told dir ticket sender today sheet slip room)
          slip_made slip over,
    )

    -- so its place in the journal is still free
    pub place-free : step_of (seat_of (submit_after dir ticket sender today sheet slip room) ticket.seat) (head_of place).steps ≡ no_step
    place-free =
        ap (λ (r : List ℕ). step_of (seat_of r ticket.seat) (head_of place).steps) not_taken_lem.1 ∙ fit_free place seat-long seat-open steps_low

  -- taken
  module _ (takes : not_taken (verdict case place) ≡ false) where
    pub told-done : submit_told dir ticket sender today sheet slip room ≡ done []
    unfolding judged_told
    told-done = told-judged ∙ rw takes

    finished : is_done (submit_told dir ticket sender today sheet slip room) ≡ true
    finished = ap is_done told-done ∙ done-done

    pub made-possible : possible made place ≡ true
    made-possible =
        judged-possible case place arises seat-long seat-open (not-one (verdict case place) takes) (not-two (verdict case place) takes)

    pub made-fits : step_fits made ≡ true
    made-fits = possible-fits made place made-possible

    room_after : submit_after dir ticket sender today sheet slip room ≡ with_seat room ticket.seat (stepped made place)
    unfolding submit_told submit_after
    room_after =
        behind-done (submit_told dir ticket sender today sheet slip room)
        room_made room finished
        ∙ ap (λ (x : Step). with_seat room ticket.seat (stepped x place)) step-made

    -- the seat after it has that step more
    pub seat-after : seat_of (submit_after dir ticket sender today sheet slip room) ticket.seat ≡ stepped made place
    seat-after =
        ap (λ (r : List ℕ). seat_of r ticket.seat) room_after
        ∙ seat-got room ticket.seat (stepped made place) (room-long room f.fit) seat-low
        (stepped-length made place seat-long made-fits steps_low)

    pub account-after : (i : ℕ) → i < accounts
        → account_of (seat_of (submit_after dir ticket sender today sheet slip room) ticket.seat) i ≡ after made i (account_of place i)
    account-after i h = ap (λ (s : List ℕ). account_of s i) seat-after ∙ stepped-account made place seat-long made-fits steps_low i h

    slip-made : submit_slip dir ticket sender today sheet slip room
        ≡ image (slip_of ticket (suc (head_of place).steps) made) ++ drop slip_long slip
    unfolding submit_told submit_slip
    slip-made =
        behind-done (submit_told dir ticket sender today sheet slip room)
        slip_made slip finished
        ∙ ap (λ (x : Step). image (slip_of ticket (suc (head_of place).steps) x) ++ drop slip_long slip) step-made

    -- what the slip says, by the step and by the outcome
    said-so : slip_of ticket (suc (head_of place).steps) made ≡ slip_said dir ticket sender today sheet slip room m (outcome case place)
    unfolding slip_of judged_step step_by step_made outcome case_of
    said-so = refl

    slip-left : submit_slip dir ticket sender today sheet slip room
        ≡ image (slip_said dir ticket sender today sheet slip room m (outcome case place)) ++ drop slip_long slip
    slip-left = slip-made ∙ ap (λ (x : Slip). image x ++ drop slip_long slip) said-so

    -- it is a slip
    says_so : says (kind_number m.kind) (outcome case place).status (outcome case place).check ≡ true
    unfolding judged_step step_by step_made outcome case_of
    says_so = judged-says case place arises seat-open (not-one (verdict case place) takes) (not-two (verdict case place) takes)

    opening-own : (head_of place).opening ≡ ticket.opening
    opening-own = (ticket-good ticket.opening place (seat-own ticket room f.ticketed)).1

    slip-sound : is_slip (slip_said dir ticket sender today sheet slip room m (outcome case place)) ≡ true
    unfolding is_slip
    slip-sound =
        let low : ticket.seat < seats = seat-low in
        let few : (head_of place).steps < steps = steps_low in
        let fits = open-fits place seat-open in
        rw (
          says_so,
          le-leb ticket.seat (seats - 1) (omega arith),
          le-leb 1 ticket.opening (subst (λ (n : ℕ). 1 ≤ n) opening-own fits.least),
          le-leb ticket.opening openings (subst (λ (n : ℕ). n ≤ openings) opening-own fits.most),
          le-leb 1 (suc (head_of place).steps) (omega arith),
          le-leb (suc (head_of place).steps) steps (omega arith),
        )

    -- and is read back
    slip-back : read_told (take slip_long (submit_slip dir ticket sender today sheet slip room))
        ≡ done (slip_values (slip_said dir ticket sender today sheet slip room m (outcome case place)))
    slip-back =
        let said : Slip = slip_said dir ticket sender today sheet slip room m (outcome case place) in
        ap (λ (b : List ℕ). read_told (take slip_long b)) slip-left
        ∙ ap read_told (image-first said (drop slip_long slip)) ∙ image-read said slip-sound

    -- the step stands in its place, and stores what it should
    pub step_after : step_of (seat_of (submit_after dir ticket sender today sheet slip room) ticket.seat) (head_of place).steps ≡ made
    step_after = ap (λ (s : List ℕ). step_of s (head_of place).steps) seat-after ∙ stepped-last made place seat-long made-fits steps_low

    made_so : made ≡ step_stored dir ticket sender today sheet slip room m (outcome case place) (kept_in made)
    unfolding judged_step step_by step_made outcome case_of
    made_so = refl

    -- of the room nothing else has changed
    room-left : submit_after dir ticket sender today sheet slip room
        ≡ with_seat room ticket.seat (seat_of (submit_after dir ticket sender today sheet slip room) ticket.seat)
    room-left = room_after ∙ ap (with_seat room ticket.seat) (sym seat-after)

    pub head-after : head_of (seat_of (submit_after dir ticket sender today sheet slip room) ticket.seat)
        ≡ record { opening = (head_of place).opening; opened = (head_of place).opened; steps = suc (head_of place).steps }
    head-after = ap head_of seat-after ∙ stepped-head made place seat-long made-fits steps_low

    steps-kept : (k : ℕ) → k < steps → (k ≡ (head_of place).steps → ⊥)
        → step_of (seat_of (submit_after dir ticket sender today sheet slip room) ticket.seat) k ≡ step_of place k
    steps-kept k low apart =
        ap (λ (s : List ℕ). step_of s k) seat-after
        ∙ stepped-other made place seat-long made-fits steps_low k low (λ (e : (head_of place).steps ≡ k). apart (sym e))

    -- what has become of an earlier step
    earlier-became : (k : ℕ) → k < (head_of place).steps
        → result_now (seat_of (submit_after dir ticket sender today sheet slip room) ticket.seat) k
        ≡ cond (eqb (kept_in made).answers (suc k)) (outcome case place) (result_now place k)
    unfolding judged_step step_by step_made outcome
    earlier-became k low =
        became place (seat_of (submit_after dir ticket sender today sheet slip room) ticket.seat) made
        (ap (λ (h : Head). h.steps) head-after) step_after
        (λ (p : ℕ) (h : p < (head_of place).steps). steps-kept p (below p h) (λ (e : p ≡ (head_of place).steps). omega arith))
        k low (unanswered made place k (possible-answerable made place made-possible))
      where
        below : (p : ℕ) → p < (head_of place).steps → p < steps
        below p h = let few : (head_of place).steps < steps = steps_low in omega arith

    -- it is recorded with its outcome and what it keeps
    outcome-recorded : Recorded dir ticket sender today sheet slip room m (outcome case place) (kept_in made)
    outcome-recorded = record {
      answered = told-done;
      slipped = slip-left;
      sound = slip-sound;
      read_back = slip-back;
      stored = step_after ∙ made_so;
      elsewhere = room-left;
      headed = head-after;
      kept = steps-kept;
      became = earlier-became;
    }

    pub recorded : (o : Outcome) (keeps : Kept) → outcome case place ≡ o → kept_in made ≡ keeps
        → Recorded dir ticket sender today sheet slip room m o keeps
    recorded o keeps e same =
        subst (λ (x : Outcome). Recorded dir ticket sender today sheet slip room m x keeps) e
        (subst (λ (x : Kept). Recorded dir ticket sender today sheet slip room m (outcome case place) x) same outcome-recorded)

    -- and its place shows that outcome
    pub stored-outcome : record {
      status = (step_of (seat_of (submit_after dir ticket sender today sheet slip room) ticket.seat) (head_of place).steps).status;
      check = (step_of (seat_of (submit_after dir ticket sender today sheet slip room) ticket.seat) (head_of place).steps).check;
    } ≡ outcome case place
    stored-outcome = ap (λ (x : Step). record { status = x.status; check = x.check }) (step_after ∙ made_so)
