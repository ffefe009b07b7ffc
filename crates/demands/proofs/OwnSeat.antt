-- A call goes by its own seat. In a fit room only the seat's part is looked at behind the first refusals, so the answer and the slip are functions
-- of that part alone, and the room left is the room that came with that part put into it. A call that names no seat leaves the room.
-- Assumes nothing.
use Rattle.std.specs.Prelude.{Option, Some, None}
use mathlib.Core.Path.{◌≡◌, refl, sym, ap, subst, ◌∙◌}
use mathlib.Core.Bool.{Bool, true, false, not, cond}
use mathlib.Core.List.{List, ◌++◌}
use Prim.Native.Nat.{ℕ, suc, ◌<◌}
use native.Mathlib.Omega.{arith}
use lib.ListN.{length, drop}
use borrow.Author.Tests.{leb-false}
use Rattle.slip.specs.Meaning.{slip_long, seats}
use Rattle.slip.specs.Image.{image}
use Rattle.message.specs.Received.{received_of}
use Rattle.directory.specs.declared.Participant.{Participant}
use Rattle.directory.specs.Directory.{is_fit}
use Rattle.layout.specs.Seat.{room_long, head_of, seat_of, with_seat}
use Rattle.layout.proofs.Rooms.{seat-same}
use Rattle.seat.specs.Fit.{room_fits}
use Rattle.seat.proofs.Rooms.{room-long}
use Rattle.judge.specs.Case.{case_of}
use Rattle.centre.specs.declared.Ticket.{Ticket}
use Rattle.centre.specs.Answers.{Told, refused, is_done, behind}
use Rattle.centre.specs.Calls.{no_seat, ticket_bad, open_told, open_after, close_told, close_after, set_told, set_after, back_told, back_after, read_told}
use Rattle.centre.specs.Submit.{step_on, slip_of, submit_told, submit_after, submit_slip}
use Rattle.centre.proofs.First.{behind-refused}
use Rattle.demands.specs.Calls.{Act, close, set, submit, take_back, read, Call, opening, under, writing, reading}
use Rattle.demands.specs.Calls.{act_told, call_told, act_room, call_room, act_slip, call_slip}
use Rattle.demands.specs.Seats.{seat_named, seat_for, answer_of}
use Rattle.demands.proofs.InSeat.{act_tells, act_makes, act_writes, tells, makes, writes, leaves}

-- what is left behind a call, put into the room
put-left : (t : Told) (room : List ℕ) (k : ℕ) (made : List ℕ) → length room ≡ room_long → k < seats
    → behind t (with_seat room k made) room ≡ with_seat room k (behind t made (seat_of room k))
unfolding behind
put-left t room k made long h = go (is_done t)
  where
    go : (b : Bool) → cond b (with_seat room k made) room ≡ with_seat room k (cond b made (seat_of room k))
    go true = refl
    go false = sym (seat-same room k long h)

-- where both are the same, that is left
same_left : {A : Type 0} (t : Told) (x : A) → behind t x x ≡ x
unfolding behind
same_left {A} t x = go (is_done t)
  where
    go : (b : Bool) → cond b x x ≡ x
    go true = refl
    go false = refl

-- the seat that a number names
seat-within : (seat : ℕ) → no_seat seat ≡ false → seat < seats
unfolding no_seat
seat-within seat e = leb-false seats seat e

seat-is : (seat k : ℕ) → seat_named seat ≡ Some k → (no_seat seat ≡ false) × (seat ≡ k)
unfolding seat_named
seat-is seat k e = go (no_seat seat) refl e
  where
    go : (b : Bool) → no_seat seat ≡ b → cond b None (Some seat) ≡ Some k → (no_seat seat ≡ false) × (seat ≡ k)
    go true f g = absurd (let z : ◌≡◌ {A = ℕ} 0 1 = cc in omega arith)
    go false f g = (f, cc)

seat-none : (seat : ℕ) → seat_named seat ≡ None → no_seat seat ≡ true
unfolding seat_named
seat-none seat e = go (no_seat seat) refl e
  where
    go : (b : Bool) → no_seat seat ≡ b → cond b None (Some seat) ≡ None → no_seat seat ≡ true
    go true f g = f
    go false f g = absurd (let z : ◌≡◌ {A = ℕ} 0 1 = cc in omega arith)

no-seat : (k : ℕ) → ◌≡◌ {A = Option ℕ} None (Some k) → ⊥
no-seat k e = let z : ◌≡◌ {A = ℕ} 0 1 = cc in omega arith

-- a refusal is no call that is done
refused-three : is_done (refused 3) ≡ false
unfolding is_done
refused-three = refl

refused-either : (b : Bool) → is_done (cond (not b) (refused 2) (refused 3)) ≡ false
unfolding is_done
refused-either true = refl
refused-either false = refl

module _ (dir : List Participant) (room : List ℕ) (fit : room_fits room ≡ true) where
  -- an act under a ticket
  module _ (ticket : Ticket) (here : no_seat ticket.seat ≡ false) where
    act-told : (act : Act) → act_told dir ticket act room ≡ act_tells dir ticket act (seat_of room ticket.seat)
    unfolding act_told act_tells close_told set_told submit_told back_told read_told ticket_bad
    act-told close = rw (fit, here)
    act-told (set owner number wish) = rw (fit, here)
    act-told (submit sender today sheet slip) = rw (fit, here)
    act-told take_back = rw (fit, here)
    act-told (read owner number) = rw (fit, here)

    act-slip : (act : Act) → act_slip dir ticket act room ≡ act_writes dir ticket act (seat_of room ticket.seat)
    unfolding act_slip act_writes submit_told submit_slip act_told
    act-slip close = refl
    act-slip (set owner number wish) = refl
    act-slip (submit sender today sheet slip) =
        let s : List ℕ = seat_of room ticket.seat in
        ap (λ (t : Told). behind t
        (image (slip_of ticket (suc (head_of s).steps) (step_on (case_of dir sender today) (received_of sheet).answer s)) ++ drop slip_long slip) slip)
        (act-told (submit sender today sheet slip))
    act-slip take_back = refl
    act-slip (read owner number) = refl

    act-room : (act : Act)
        → act_room dir ticket act room
        ≡ behind (act_told dir ticket act room) (with_seat room ticket.seat (act_makes dir act (seat_of room ticket.seat))) room
    unfolding act_room act_makes act_told close_after set_told set_after submit_told submit_after back_after
    act-room close = refl
    act-room (set owner number wish) = refl
    act-room (submit sender today sheet slip) = refl
    act-room take_back = refl
    act-room (read owner number) =
        sym (ap (λ (x : List ℕ). behind (read_told dir ticket owner number room) x room)
        (seat-same room ticket.seat (room-long room fit) (seat-within ticket.seat here))
        ∙ same_left (read_told dir ticket owner number room) room)

  -- opening a seat
  open_told_lem : (seat : ℕ) (sums : List ℕ) → no_seat seat ≡ false → open_told dir seat sums room ≡ tells dir (opening seat sums) (seat_of room seat)
  unfolding open_told tells
  open_told_lem seat sums here = rw (fit, here)

  open-room : (seat : ℕ) (sums : List ℕ)
      → open_after dir seat sums room
      ≡ behind (open_told dir seat sums room) (with_seat room seat (makes dir (opening seat sums) (seat_of room seat))) room
  unfolding open_after makes
  open-room seat sums = refl

  -- each call for a seat
  own-told : (call : Call) (k : ℕ) → seat_for call ≡ Some k → call_told dir call room ≡ tells dir call (seat_of room k)
  unfolding seat_for call_told tells
  own-told (opening seat sums) k e =
      let is = seat-is seat k e in
      subst (λ (j : ℕ). open_told dir seat sums room ≡ tells dir (opening seat sums) (seat_of room j)) is.1 (open_told_lem seat sums is.0)
  own-told (under ticket act) k e =
      let is = seat-is ticket.seat k e in
      subst (λ (j : ℕ). act_told dir ticket act room ≡ act_tells dir ticket act (seat_of room j)) is.1 (act-told ticket is.0 act)
  own-told (writing slip buffer) k e = refl
  own-told (reading bytes) k e = refl

  own-slip : (call : Call) (k : ℕ) → seat_for call ≡ Some k → call_slip dir call room ≡ writes dir call (seat_of room k)
  unfolding seat_for call_slip writes
  own-slip (opening seat sums) k e = refl
  own-slip (under ticket act) k e =
      let is = seat-is ticket.seat k e in
      subst (λ (j : ℕ). act_slip dir ticket act room ≡ act_writes dir ticket act (seat_of room j)) is.1 (act-slip ticket is.0 act)
  own-slip (writing slip buffer) k e = refl
  own-slip (reading bytes) k e = refl

  pub own-answer : (call : Call) (k : ℕ) → seat_for call ≡ Some k
      → answer_of dir call room ≡ (tells dir call (seat_of room k), writes dir call (seat_of room k))
  unfolding answer_of
  own-answer call k e = rw (own-told call k e, own-slip call k e)

  act-leaves : (ticket : Ticket) (act : Act) → no_seat ticket.seat ≡ false
      → act_room dir ticket act room ≡ with_seat room ticket.seat (leaves dir (under ticket act) (seat_of room ticket.seat))
  unfolding leaves tells makes
  act-leaves ticket act here =
      let made : List ℕ = act_makes dir act (seat_of room ticket.seat) in
      act-room ticket here act
      ∙ ap (λ (t : Told). behind t (with_seat room ticket.seat made) room) (act-told ticket here act)
      ∙ put-left (act_tells dir ticket act (seat_of room ticket.seat)) room ticket.seat made (room-long room fit) (seat-within ticket.seat here)

  open-leaves : (seat : ℕ) (sums : List ℕ) → no_seat seat ≡ false
      → open_after dir seat sums room ≡ with_seat room seat (leaves dir (opening seat sums) (seat_of room seat))
  unfolding leaves
  open-leaves seat sums here =
      let made : List ℕ = makes dir (opening seat sums) (seat_of room seat) in
      open-room seat sums
      ∙ ap (λ (t : Told). behind t (with_seat room seat made) room) (open_told_lem seat sums here)
      ∙ put-left (tells dir (opening seat sums) (seat_of room seat)) room seat made (room-long room fit) (seat-within seat here)

  pub own_room : (call : Call) (k : ℕ) → seat_for call ≡ Some k
      → (k < seats) × (call_room dir call room ≡ with_seat room k (leaves dir call (seat_of room k)))
  unfolding seat_for call_room
  own_room (opening seat sums) k e =
      let is = seat-is seat k e in
      subst (λ (j : ℕ). (j < seats) × (open_after dir seat sums room ≡ with_seat room j (leaves dir (opening seat sums) (seat_of room j))))
      is.1 (seat-within seat is.0, open-leaves seat sums is.0)
  own_room (under ticket act) k e =
      let is = seat-is ticket.seat k e in
      subst (λ (j : ℕ). (j < seats) × (act_room dir ticket act room ≡ with_seat room j (leaves dir (under ticket act) (seat_of room j))))
      is.1 (seat-within ticket.seat is.0, act-leaves ticket act is.0)
  own_room (writing slip buffer) k e = absurd (no-seat k e)
  own_room (reading bytes) k e = absurd (no-seat k e)

  -- a call that names a seat above 11 is refused, by 2 or 3
  act-refused : (ticket : Ticket) (act : Act) → no_seat ticket.seat ≡ true → is_done (act_told dir ticket act room) ≡ false
  unfolding act_told close_told set_told submit_told back_told read_told ticket_bad
  act-refused ticket close out = rw (fit, out) refused-three
  act-refused ticket (set owner number wish) out = rw (fit, out) (refused-either (is_fit dir))
  act-refused ticket (submit sender today sheet slip) out = rw (fit, out) (refused-either (is_fit dir))
  act-refused ticket take_back out = rw (fit, out) refused-three
  act-refused ticket (read owner number) out = rw (fit, out) (refused-either (is_fit dir))

  open-refused : (seat : ℕ) (sums : List ℕ) → no_seat seat ≡ true → is_done (open_told dir seat sums room) ≡ false
  unfolding open_told
  open-refused seat sums out = rw (fit, out) (refused-either (is_fit dir))

  act-stays : (ticket : Ticket) (act : Act) → is_done (act_told dir ticket act room) ≡ false → act_room dir ticket act room ≡ room
  unfolding act_told act_room close_after set_told set_after submit_told submit_after back_after
  act-stays ticket close e = behind-refused (close_told ticket room) _ room e
  act-stays ticket (set owner number wish) e = behind-refused (set_told dir ticket owner number wish room) _ room e
  act-stays ticket (submit sender today sheet slip) e = behind-refused (submit_told dir ticket sender today sheet slip room) _ room e
  act-stays ticket take_back e = behind-refused (back_told ticket room) _ room e
  act-stays ticket (read owner number) e = refl

  -- so a call that is for no seat leaves the room
  pub none-room : (call : Call) → seat_for call ≡ None → call_room dir call room ≡ room
  unfolding seat_for call_room
  none-room (opening seat sums) e =
      open-room seat sums ∙ behind-refused (open_told dir seat sums room) _ room (open-refused seat sums (seat-none seat e))
  none-room (under ticket act) e = act-stays ticket act (act-refused ticket act (seat-none ticket.seat e))
  none-room (writing slip buffer) e = refl
  none-room (reading bytes) e = refl
