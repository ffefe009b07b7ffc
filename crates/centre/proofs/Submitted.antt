-- What submit answers and leaves, from the tests that were passed and the one that held: a refused message leaves the room and the buffer as
-- they came; one that passes the first eight refusals is judged in its seat.
-- Assumes nothing.
use mathlib.Core.Path.{◌≡◌, refl, sym, ap, ◌∙◌}
use mathlib.Core.Bool.{Bool, true, false, ◌&&◌, cond}
use mathlib.Core.List.{List, ◌++◌}
use Prim.Native.Nat.{ℕ, suc, ◌<◌, ◌≤◌}
use native.Mathlib.Omega.{arith}
use native.Mathlib.Nat.{lt_of_not-le}
use lib.Dec.{leb, ltb, eqb}
use lib.ListN.{length, drop}
use borrow.Author.Tests.{eq-eqb, ne_eqb, lt-ltb, le-ltb, leb-false, lt-leb, le-leb, not-true, not-false}
use Rattle.shape.specs.Dates.{is_date}
use Rattle.std.specs.declared.ops.Range.{Range}
use Rattle.slip.specs.Meaning.{slip_long, seats, steps}
use Rattle.slip.specs.Image.{image}
use Rattle.message.specs.declared.Message.{Message}
use Rattle.message.specs.declared.Refusal.{Refusal as MessageRefusal}
use Rattle.message.specs.declared.Refusal.TheVariants.{IllFormed, BadField}
use Rattle.message.specs.Message.{Answer as Received}
use Rattle.message.specs.Lowest.{number_of}
use Rattle.directory.specs.Directory.{code_most}
use Rattle.layout.specs.Seat.{head_of, seat_of, with_seat}
use Rattle.layout.proofs.Rooms.{seat-same}
use Rattle.journal.specs.Working.{stepped}
use Rattle.seat.specs.Calls.{no_ticket}
use Rattle.seat.specs.Fit.{seat_fits, room_fits}
use Rattle.seat.proofs.Answered.{ticket-good}
use Rattle.seat.proofs.Forward.{open-fits}
use Rattle.seat.proofs.Kept.{fit-open}
use Rattle.seat.proofs.Rooms.{room-long, room-seat}
use Rattle.judge.specs.declared.case.Case.{Case}
use Rattle.judge.specs.Case.{Arises}
use Rattle.judge.specs.Verdict.{judged_step}
use Rattle.judge.proofs.Verdicts.{or-neither}
use Rattle.std.specs.Prelude.{Ok, Err}
use Rattle.centre.specs.declared.answers.Refusal.{Refusal}
use Rattle.centre.specs.declared.answers.Refusal.TheVariants.{RoomUnfit, DirectoryUnfit, NoTicket, BadNumber, JournalFull, NoSlip}
use Rattle.centre.specs.declared.Ticket.{Ticket}
use Rattle.centre.specs.Answers.{Answer, Told, told, refused_with, is_done, behind}
use Rattle.centre.specs.Calls.{no_seat, seat_place, ticket_bad}
use Rattle.centre.specs.Submit.{call_bad, verdict_on, step_on, slip_of, judged_told, judged_after, judged_slip, submit_by, submit_left, submit_written}
use Rattle.centre.proofs.SeatLent.{Lent}
use Rattle.centre.proofs.First.{behind-refused}

-- a ticket for no seat, and one for a seat
module _ (ticket : Ticket) (room : List ℕ) where
  pub seat-missing : seats ≤ ticket.seat → true ≡ ticket_bad ticket room
  unfolding ticket_bad no_seat
  seat-missing h = rw (le-leb seats ticket.seat h)

  seat-asked : ticket.seat < seats → no_ticket ticket.opening (seat_of room ticket.seat) ≡ ticket_bad ticket room
  unfolding ticket_bad no_seat
  seat-asked h = rw (lt-leb seats ticket.seat h)

  pub seat-there : ticket.seat < seats → (s : List ℕ) → s ≡ seat_of room ticket.seat → (r : Bool) → r ≡ no_ticket ticket.opening s
      → r ≡ ticket_bad ticket room
  seat-there h s e r f = f ∙ ap (no_ticket ticket.opening) e ∙ seat-asked h

  -- a good ticket is for a seat, which is open with its number
  good-ticket : ticket_bad ticket room ≡ false
      → (leb seats ticket.seat ≡ false) × (no_ticket ticket.opening (seat_of room ticket.seat) ≡ false)
  unfolding ticket_bad no_seat
  good-ticket e = or-neither (leb seats ticket.seat) (no_ticket ticket.opening (seat_of room ticket.seat)) e

  pub ticket-seat : ticket_bad ticket room ≡ false → ticket.seat < seats
  ticket-seat e = leb-false seats ticket.seat (good-ticket e).0

  pub ticket-fits : ticket_bad ticket room ≡ false → no_ticket ticket.opening (seat_of room ticket.seat) ≡ false
  ticket-fits e = (good-ticket e).1

-- what stands behind a call, in the room
behind-seat : (room : List ℕ) (k : ℕ) (made s : List ℕ) (t : Told) → with_seat room k s ≡ room
    → with_seat room k (behind t made s) ≡ behind t (with_seat room k made) room
unfolding behind
behind-seat room k made s t e = go (is_done t)
  where
    go : (d : Bool) → with_seat room k (cond d made s) ≡ cond d (with_seat room k made) room
    go true = refl
    go false = e

-- the two numbers of a call, tested together
pub numbers-wrong : (sender today : ℕ) (r : Bool) → r ≡ call_bad sender today → r ≡ true → (leb sender code_most && is_date today) ≡ false
numbers-wrong sender today r e n = not-true (leb sender code_most && is_date today) (sym e ∙ n)

pub numbers-right : (sender today : ℕ) (r : Bool) → r ≡ call_bad sender today → r ≡ false → (leb sender code_most && is_date today) ≡ true
numbers-right sender today r e n = not-false (leb sender code_most && is_date today) (sym e ∙ n)

-- the part of a fit room that is a ticket's seat
pub lent-by : (ticket : Ticket) (room : List ℕ) → room_fits room ≡ true → ticket_bad ticket room ≡ false → (place : Range ℕ) → place ≡ seat_place ticket.seat
    → Lent room ticket.seat place
lent-by ticket room fit right place is = record { fit = fit; low = ticket-seat ticket room right; is = is }

module _ (fit : Bool) (cases : Message → Case) (ticket : Ticket) (sender today : ℕ) (received : Received) (slip room : List ℕ) where
  -- an answer, the room and the buffer behind it are those of submit
  abbrev pub Submits : Answer → List ℕ → List ℕ → Type 0
  Submits a after left =
      (told a ≡ submit_by fit cases ticket sender today received slip room)
      × ((after ≡ submit_left fit cases ticket sender today received slip room) × (left ≡ submit_written fit cases ticket sender today received slip room))

  -- a refusal leaves both as they came
  stays : (a : Answer) → is_done (told a) ≡ false → told a ≡ submit_by fit cases ticket sender today received slip room → Submits a room slip
  stays a n e =
      let over : is_done (submit_by fit cases ticket sender today received slip room) ≡ false = ap is_done (sym e) ∙ n in (
        e,
        (
          sym (behind-refused (submit_by fit cases ticket sender today received slip room) _ room over),
          sym (behind-refused (submit_by fit cases ticket sender today received slip room) _ slip over),
        ),
      )

  pub room-unfit : room_fits room ≡ false → Submits (Err RoomUnfit) room slip
  unfolding told is_done
  room-unfit f = stays (Err RoomUnfit) refl (rw f)

  module _ (a : room_fits room ≡ true) where
    pub directory-unfit : fit ≡ false → Submits (Err DirectoryUnfit) room slip
    unfolding told is_done
    directory-unfit f = stays (Err DirectoryUnfit) refl (rw (a, f))

    module _ (b : fit ≡ true) where
      pub no-ticket : ticket_bad ticket room ≡ true → Submits (Err NoTicket) room slip
      unfolding told is_done
      no-ticket f = stays (Err NoTicket) refl (rw (a, b, f))

      module _ (t : ticket_bad ticket room ≡ false) where
        pub bad-number : (leb sender code_most && is_date today) ≡ false → Submits (Err BadNumber) room slip
        unfolding told is_done
        bad-number f = stays (Err BadNumber) refl (rw (a, b, t, f))

        module _ (n : (leb sender code_most && is_date today) ≡ true) where
          pub no-slip : length slip < slip_long → Submits (Err NoSlip) room slip
          unfolding told is_done
          no-slip f = stays (Err NoSlip) refl (rw (a, b, t, n, lt-ltb (length slip) slip_long f))

          module _ (l : slip_long ≤ length slip) where
            pub journal-full : (head_of (seat_of room ticket.seat)).steps ≡ steps → Submits (Err JournalFull) room slip
            unfolding told is_done
            journal-full f =
                stays (Err JournalFull) refl
                (rw (a, b, t, n, le-ltb (length slip) slip_long l, eq-eqb (head_of (seat_of room ticket.seat)).steps steps f))

-- the first six refusals are passed
pub record Passed (fit : Bool) (ticket : Ticket) (sender today : ℕ) (slip room : List ℕ) : Type 0 where
  pub room-fit : room_fits room ≡ true
  pub directory-fit : fit ≡ true
  pub ticket-right : ticket_bad ticket room ≡ false
  pub numbers-right : (leb sender code_most && is_date today) ≡ true
  pub slip-long : slip_long ≤ length slip
  pub steps-left : (head_of (seat_of room ticket.seat)).steps ≡ steps → ⊥

pub passed : (fit : Bool) (ticket : Ticket) (sender today : ℕ) (slip room : List ℕ) → room_fits room ≡ true → fit ≡ true → ticket_bad ticket room ≡ false
    → (leb sender code_most && is_date today) ≡ true → slip_long ≤ length slip
    → (n : ℕ) → n ≡ (head_of (seat_of room ticket.seat)).steps → (n ≡ steps → ⊥) → Passed fit ticket sender today slip room
passed fit ticket sender today slip room fits listed right numbers long n counts left = record {
  room-fit = fits;
  directory-fit = listed;
  ticket-right = right;
  numbers-right = numbers;
  slip-long = long;
  steps-left = λ (e : (head_of (seat_of room ticket.seat)).steps ≡ steps). left (counts ∙ e);
}

module _ {fit : Bool} {ticket : Ticket} {sender today : ℕ} {slip room : List ℕ}
    (p : Passed fit ticket sender today slip room) (cases : Message → Case) (received : Received) where
  slip-enough : ltb (length slip) slip_long ≡ false
  slip-enough = le-ltb (length slip) slip_long p.slip-long

  steps_apart : eqb (head_of (seat_of room ticket.seat)).steps steps ≡ false
  steps_apart = ne_eqb (head_of (seat_of room ticket.seat)).steps steps p.steps-left

  -- a sheet that is no message is refused as reading it was
  pub no-message : (refusal : MessageRefusal) (r : Refusal) → received ≡ Err refusal
      → told (Err r) ≡ refused_with (number_of (Err refusal)).0 (number_of (Err refusal)).1
      → Submits fit cases ticket sender today received slip room (Err r) room slip
  unfolding is_done
  no-message (IllFormed place) r f t =
      stays fit cases ticket sender today received slip room (Err r) (rw t)
      (t ∙ rw (p.room-fit, p.directory-fit, p.ticket-right, p.numbers-right, slip-enough, steps_apart, f))
  no-message (BadField number) r f t =
      stays fit cases ticket sender today received slip room (Err r) (rw t)
      (t ∙ rw (p.room-fit, p.directory-fit, p.ticket-right, p.numbers-right, slip-enough, steps_apart, f))

  -- a message, judged in its seat
  module _ (m : Message) (f : received ≡ Ok m) where
    abbrev here : List ℕ
    here = seat_of room ticket.seat

    -- what submit answers
    abbrev answer : Told
    answer = submit_by fit cases ticket sender today received slip room

    judged-told : judged_told (cases m) here ≡ submit_by fit cases ticket sender today received slip room
    unfolding judged_told verdict_on
    judged-told =
        rw (p.room-fit, p.directory-fit, p.ticket-right, p.numbers-right, slip-enough, steps_apart, f)

    judged-after : with_seat room ticket.seat (judged_after (cases m) here) ≡ submit_left fit cases ticket sender today received slip room
    unfolding judged_after step_on
    judged-after =
        behind-seat room ticket.seat (stepped (judged_step (cases m) here) here) here (judged_told (cases m) here)
        (seat-same room ticket.seat (room-long room p.room-fit) (ticket-seat ticket room p.ticket-right))
        ∙ ap (λ (t : Told). behind t (with_seat room ticket.seat (stepped (judged_step (cases m) here) here)) room) judged-told
        ∙ ap (λ (a : Received). behind answer (with_seat room ticket.seat (stepped (step_on cases a here) here)) room) (sym f)

    judged-slip : judged_slip ticket (cases m) here slip ≡ submit_written fit cases ticket sender today received slip room
    unfolding judged_slip step_on
    judged-slip =
        ap (λ (t : Told). behind t (image (slip_of ticket (suc (head_of here).steps) (judged_step (cases m) here)) ++ drop slip_long slip) slip) judged-told
        ∙ ap (λ (a : Received). behind answer (image (slip_of ticket (suc (head_of here).steps) (step_on cases a here)) ++ drop slip_long slip) slip) (sym f)

    seat-fits : seat_fits here ≡ true
    seat-fits = room-seat room p.room-fit ticket.seat (ticket-seat ticket room p.ticket-right)

    steps-few : (head_of here).steps < steps
    steps-few =
        let opened : (head_of here).opened ≡ 1 = (ticket-good ticket.opening here (ticket-fits ticket room p.ticket-right)).0 in
        let most : (head_of here).steps ≤ steps = (open-fits here (fit-open here seat-fits opened)).count in
        lt_of_not-le (λ (h : steps ≤ (head_of here).steps). p.steps-left (omega arith))

    -- what judging needs of the message and of the seat
    seat-judged : Arises (cases m)
        → (seat_fits here ≡ true)
        × (no_ticket ticket.opening here ≡ false)
        × (ticket.seat < seats)
        × ((head_of here).steps < steps)
        × (slip_long ≤ length slip)
        × Arises (cases m)
    seat-judged arises = (seat-fits, ticket-fits ticket room p.ticket-right, ticket-seat ticket room p.ticket-right, steps-few, p.slip-long, arises)

    pub can-judge : Arises (cases m) → (c : Case) → c ≡ cases m → (s : List ℕ) → s ≡ here
        → (seat_fits s ≡ true)
        × (no_ticket ticket.opening s ≡ false)
        × (ticket.seat < seats)
        × ((head_of s).steps < steps)
        × (slip_long ≤ length slip)
        × Arises c
    can-judge arises c e s q = rw (e, q) (seat-judged arises)

    -- the answer, what the seat is put back as, and the buffer
    pub judged : (c : Case) → c ≡ cases m → (s : List ℕ) → s ≡ here
        → (r : Answer) → told r ≡ judged_told c s → (made : List ℕ) → made ≡ judged_after c s
        → (after : List ℕ) → after ≡ with_seat room ticket.seat made
        → (left : List ℕ) → left ≡ judged_slip ticket c s slip → Submits fit cases ticket sender today received slip room r after left
    judged c e s q r x made y after z left w = (
      x ∙ rw (e, q) judged-told,
      (z ∙ ap (with_seat room ticket.seat) y ∙ rw (e, q) judged-after, w ∙ rw (e, q) judged-slip),
    )
