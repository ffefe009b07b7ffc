-- What the contracts rule out, call by call: of each call two wrong answers, named by what is wrong with them. An answer with a number that is not
-- that of a line in front says that the line's test does not hold; and a call that is done leaves another room, because the head of its seat differs.
-- Assumes nothing.
use mathlib.Core.Path.{◌≡◌, refl, sym, ap, ◌∙◌}
use mathlib.Core.Bool.{Bool, true, false, ◌&&◌, ◌||◌, not, false≢true}
use mathlib.Core.List.{List, [], ◌∷◌}
use Prim.Native.Nat.{ℕ, suc, ◌-◌, ◌≤◌, ◌<◌}
use native.Mathlib.Omega.{arith}
use lib.Dec.{eqb}
use lib.ListN.{length, get_or, drop, replicate}
use borrow.Author.Tests.{eqb-true, eqb-false, not-false}
use Rattle.shape.proofs.Tests.{and_left}
use Rattle.slip.specs.declared.Slip.{Slip}
use Rattle.slip.specs.Meaning.{slip_long, openings, steps, five_bytes, six_bytes, is_slip}
use Rattle.slip.specs.Image.{slip_of}
use Rattle.slip.specs.Answers.{can_write, holds_slip}
use Rattle.slip.proofs.Exact.{holds-long, writable, writable-long}
use Rattle.directory.specs.declared.Participant.{Participant}
use Rattle.directory.specs.Directory.{found, is_fit, owner_found}
use Rattle.layout.specs.declared.rows.Head.{Head}
use Rattle.layout.specs.declared.rows.Account.{Account}
use Rattle.layout.specs.declared.rows.Step.{Step}
use Rattle.layout.specs.Parts.{put}
use Rattle.layout.specs.Rows.{head_long, account_row, account_in}
use Rattle.layout.specs.Seat.{seat_long, room_long, head_of, with_head, account_of, with_step, seat_of, with_seat}
use Rattle.layout.proofs.RowLaws.{account-read}
use Rattle.journal.specs.Steps.{no_step, settings_fit}
use Rattle.journal.specs.Working.{uneffect, counting, last_step, backed}
use Rattle.seat.specs.declared.settings.Wish.{Wish}
use Rattle.seat.specs.Fit.{closed_seat, room_fits}
use Rattle.seat.specs.Settings.{settings_of}
use Rattle.seat.specs.Calls.{sums_good, account_named, account_number, set_step}
use Rattle.seat.proofs.Answered.{ticket-good}
use Rattle.std.specs.Prelude.{Ok, Err}
use Rattle.centre.specs.declared.answers.Done.TheVariants.{Plain, Opened, Holds, Says}
use Rattle.centre.specs.declared.answers.Refusal.TheVariants.{RoomUnfit}
use Rattle.centre.specs.declared.Ticket.{Ticket}
use Rattle.centre.specs.Answers.{Told, told, done, refused, is_done, slip_values}
use Rattle.centre.specs.Calls.{no_seat, ticket_bad, lay_told, open_told, close_told, close_after, set_told, set_in, set_after, back_told, back_after, read_told}
use Rattle.centre.specs.Slips as slips
use Rattle.centre.proofs.First.{behind-done}
use Rattle.centre.proofs.Passes.{AllPass, all-passed, other-room, step-counted}
use Rattle.centre.proofs.Refusals.{lay_done}
use Rattle.centre.proofs.Submitted.{ticket-seat, ticket-fits}

-- the values of a slip, back as a slip
abbrev slip_from : List ℕ → Slip
slip_from v = record { kind = get_or v 0 0; status = get_or v 1 0; check = get_or v 2 0; seat = get_or v 3 0; opening = get_or v 4 0; step = get_or v 5 0 }

-- lay out
module _ (room : List ℕ) where
  pub lays-out-any-length : (length room ≡ room_long → ⊥) → told (Ok Plain) ≡ lay_told room → ⊥
  unfolding told lay_told
  lays-out-any-length h e =
      let tests = (all-passed ((not (eqb (length room) room_long), refused 1) ∷ []) (done []) (told (Ok Plain)) refl e).0 in
      h (eqb-true (length room) room_long (not-false (eqb (length room) room_long) tests.0))

  pub refuses-every-room : length room ≡ room_long → told (Err RoomUnfit) ≡ lay_told room → ⊥
  unfolding told is_done
  refuses-every-room l e = false≢true (ap is_done (e ∙ sym (lay_done room l (replicate (length room) 0) refl).0))

-- open
module _ (dir : List Participant) (seat : ℕ) (sums room : List ℕ) where
  abbrev open_tests : List (Bool × Told)
  open_tests =
      (not (room_fits room), refused 1)
      ∷ (not (is_fit dir), refused 2)
      ∷ (no_seat seat, refused 3)
      ∷ (eqb (head_of (seat_of room seat)).opened 1, refused 4)
      ∷ (eqb (head_of (seat_of room seat)).opening openings, refused 5)
      ∷ (not (sums_good dir sums), refused 6)
      ∷ []

  open-passed : (n : ℕ) → told (Ok (Opened n)) ≡ open_told dir seat sums room
      → AllPass open_tests × (told (Ok (Opened n)) ≡ done (suc (head_of (seat_of room seat)).opening ∷ []))
  unfolding told open_told
  open-passed n e = all-passed open_tests (done (suc (head_of (seat_of room seat)).opening ∷ [])) (told (Ok (Opened n))) refl e

  pub opens-an-open-seat : (head_of (seat_of room seat)).opened ≡ 1 → (n : ℕ) → told (Ok (Opened n)) ≡ open_told dir seat sums room → ⊥
  opens-an-open-seat h n e = eqb-false (head_of (seat_of room seat)).opened 1 (open-passed n e).0.1.1.1.0 h

  pub gives-the-old-number : told (Ok (Opened (head_of (seat_of room seat)).opening)) ≡ open_told dir seat sums room → ⊥
  unfolding told
  gives-the-old-number e =
      let n : ℕ = (head_of (seat_of room seat)).opening in
      let grown : n ≡ suc n = ap (λ (t : Told). get_or t.values 0 0) (open-passed n e).1 in
      omega arith

-- close
module _ (ticket : Ticket) (room : List ℕ) where
  close_passed : told (Ok Plain) ≡ close_told ticket room → (not (room_fits room) ≡ false) × (ticket_bad ticket room ≡ false)
  unfolding told close_told
  close_passed e =
      let tests = (all-passed ((not (room_fits room), refused 1) ∷ (ticket_bad ticket room, refused 3) ∷ []) (done []) (told (Ok Plain)) refl e).0 in
      (tests.0, tests.1.0)

  pub closes-for-any-ticket : ticket_bad ticket room ≡ true → told (Ok Plain) ≡ close_told ticket room → ⊥
  closes-for-any-ticket h e = false≢true (sym (close_passed e).1 ∙ h)

  close-made : told (Ok Plain) ≡ close_told ticket room
      → close_after ticket room ≡ with_seat room ticket.seat (closed_seat (head_of (seat_of room ticket.seat)).opening)
  unfolding close_after told is_done
  close-made e =
      behind-done (close_told ticket room) (with_seat room ticket.seat (closed_seat (head_of (seat_of room ticket.seat)).opening)) room
      (ap is_done (sym e))

  pub leaves-the-seat-open : told (Ok Plain) ≡ close_told ticket room → room ≡ close_after ticket room → ⊥
  unfolding closed_seat
  leaves-the-seat-open e same =
      let s : List ℕ = seat_of room ticket.seat in
      let good = (close_passed e).1 in
      let head =
      other-room room ticket.seat (record { opening = (head_of s).opening; opened = 0; steps = 0 }) (replicate (seat_long - head_long) 0)
      (not-false (room_fits room) (close_passed e).0) (ticket-seat ticket room good) (same ∙ close-made e) in
      let was : (head_of s).opened ≡ 1 = (ticket-good ticket.opening s (ticket-fits ticket room good)).0 in
      let is : (head_of s).opened ≡ 0 = ap (λ (h : Head). h.opened) head in
      omega arith

-- set
module _ (dir : List Participant) (ticket : Ticket) (owner number : ℕ) (wish : Wish) (room : List ℕ) where
  abbrev set_tests : List (Bool × Told)
  set_tests =
      (not (room_fits room), refused 1)
      ∷ (not (is_fit dir), refused 2)
      ∷ (ticket_bad ticket room, refused 3)
      ∷ (not (account_named (found dir owner) number && settings_fit (settings_of wish)), refused 6)
      ∷ (eqb (head_of (seat_of room ticket.seat)).steps steps, refused 9)
      ∷ []

  set-passed : told (Ok Plain) ≡ set_told dir ticket owner number wish room → AllPass set_tests
  unfolding told set_told
  set-passed e = (all-passed set_tests (done []) (told (Ok Plain)) refl e).0

  pub sets-in-a-full-journal : (head_of (seat_of room ticket.seat)).steps ≡ steps → told (Ok Plain) ≡ set_told dir ticket owner number wish room → ⊥
  sets-in-a-full-journal h e = eqb-false (head_of (seat_of room ticket.seat)).steps steps (set-passed e).1.1.1.1.0 h

  abbrev seat_set : List ℕ
  seat_set = set_in (account_number (found dir owner) number) wish (seat_of room ticket.seat)

  set-made : told (Ok Plain) ≡ set_told dir ticket owner number wish room → set_after dir ticket owner number wish room ≡ with_seat room ticket.seat seat_set
  unfolding set_told set_after told is_done
  set-made e = behind-done (set_told dir ticket owner number wish room) (with_seat room ticket.seat seat_set) room (ap is_done (sym e))

  pub sets-without-a-step : told (Ok Plain) ≡ set_told dir ticket owner number wish room → room ≡ set_after dir ticket owner number wish room → ⊥
  unfolding set_in
  sets-without-a-step e same =
      let account : ℕ = account_number (found dir owner) number in
      let x : Step = set_step account (account_of (seat_of room ticket.seat) account).settings (settings_of wish) in
      step-counted room ticket.seat x (not-false (room_fits room) (set-passed e).0) (ticket-seat ticket room (set-passed e).1.1.0)
      (same ∙ set-made e)

-- take back
module _ (ticket : Ticket) (room : List ℕ) where
  abbrev back_tests : List (Bool × Told)
  back_tests =
      (not (room_fits room), refused 1)
      ∷ (ticket_bad ticket room, refused 3)
      ∷ (eqb (head_of (seat_of room ticket.seat)).steps 0, refused 10)
      ∷ []

  back-passed : told (Ok Plain) ≡ back_told ticket room → AllPass back_tests
  unfolding told back_told
  back-passed e = (all-passed back_tests (done []) (told (Ok Plain)) refl e).0

  pub takes-back-nothing : (head_of (seat_of room ticket.seat)).steps ≡ 0 → told (Ok Plain) ≡ back_told ticket room → ⊥
  takes-back-nothing h e = eqb-false (head_of (seat_of room ticket.seat)).steps 0 (back-passed e).1.1.0 h

  back-made : told (Ok Plain) ≡ back_told ticket room → back_after ticket room ≡ with_seat room ticket.seat (backed (seat_of room ticket.seat))
  unfolding back_after told is_done
  back-made e = behind-done (back_told ticket room) (with_seat room ticket.seat (backed (seat_of room ticket.seat))) room (ap is_done (sym e))

  pub leaves-the-step : told (Ok Plain) ≡ back_told ticket room → room ≡ back_after ticket room → ⊥
  unfolding backed with_head put
  leaves-the-step e same =
      let s : List ℕ = seat_of room ticket.seat in
      let head =
      other-room room ticket.seat (counting ((head_of s).steps - 1) (head_of s)) (drop 3 (with_step (uneffect (last_step s) s) ((head_of s).steps - 1) no_step))
      (not-false (room_fits room) (back-passed e).0) (ticket-seat ticket room (back-passed e).1.0) (same ∙ back-made e) in
      let some-step : (head_of s).steps ≡ 0 → ⊥ = eqb-false (head_of s).steps 0 (back-passed e).1.1.0 in
      let less : (head_of s).steps ≡ (head_of s).steps - 1 = ap (λ (h : Head). h.steps) head in
      omega arith

-- read
module _ (dir : List Participant) (ticket : Ticket) (owner number : ℕ) (room : List ℕ) where
  abbrev read_tests : List (Bool × Told)
  read_tests =
      (not (room_fits room), refused 1)
      ∷ (not (is_fit dir), refused 2)
      ∷ (ticket_bad ticket room, refused 3)
      ∷ (not (account_named (found dir owner) number), refused 6)
      ∷ []

  abbrev account_read : Account
  account_read = account_of (seat_of room ticket.seat) (account_number (found dir owner) number)

  read-passed : (a : Account) → told (Ok (Holds a)) ≡ read_told dir ticket owner number room
      → AllPass read_tests × (told (Ok (Holds a)) ≡ done (account_row account_read))
  unfolding told read_told
  read-passed a e = all-passed read_tests (done (account_row account_read)) (told (Ok (Holds a))) refl e

  pub reads-a-branch : owner_found (found dir owner) ≡ false → (a : Account) → told (Ok (Holds a)) ≡ read_told dir ticket owner number room → ⊥
  unfolding account_named
  reads-a-branch h a e =
      let named : account_named (found dir owner) number ≡ true = not-false (account_named (found dir owner) number) (read-passed a e).0.1.1.1.0 in
      false≢true (sym h ∙ and_left (owner_found (found dir owner)) (eqb number 1 || eqb number 2) named)

  pub reads-another-account : (a : Account) → (a ≡ account_read → ⊥) → told (Ok (Holds a)) ≡ read_told dir ticket owner number room → ⊥
  unfolding told
  reads-another-account a h e =
      h (sym (account-read a) ∙ ap (λ (t : Told). account_in t.values) (read-passed a e).1 ∙ account-read account_read)

-- write a slip
module _ (slip : Slip) (buffer : List ℕ) where
  write-passed : told (Ok Plain) ≡ slips.write_told slip buffer → can_write slip buffer ≡ true
  unfolding told slips.write_told
  write-passed e = not-false (can_write slip buffer) (all-passed ((not (can_write slip buffer), refused 11) ∷ []) (done []) (told (Ok Plain)) refl e).0.0

  pub writes-into-five-bytes : length buffer < slip_long → told (Ok Plain) ≡ slips.write_told slip buffer → ⊥
  writes-into-five-bytes h e =
      let long : slip_long ≤ length buffer = writable-long slip buffer (write-passed e) in
      omega arith

  pub writes-what-no-slip-says : is_slip slip ≡ false → told (Ok Plain) ≡ slips.write_told slip buffer → ⊥
  writes-what-no-slip-says h e = false≢true (sym h ∙ writable slip buffer (write-passed e))

-- read a slip
module _ (bytes : List ℕ) (slip : Slip) where
  slip-passed : told (Ok (Says slip)) ≡ slips.read_told bytes → (holds_slip bytes ≡ true) × (told (Ok (Says slip)) ≡ done (slip_values (slip_of bytes)))
  unfolding told slips.read_told
  slip-passed e =
      let tests = all-passed ((not (holds_slip bytes), refused 11) ∷ []) (done (slip_values (slip_of bytes))) (told (Ok (Says slip))) refl e in
      (not-false (holds_slip bytes) tests.0.0, tests.1)

  pub reads-another-length : (length bytes ≡ five_bytes.long → ⊥) → (length bytes ≡ six_bytes.long → ⊥) → told (Ok (Says slip)) ≡ slips.read_told bytes → ⊥
  reads-another-length five six e = holds-long bytes (slip-passed e).0 five six

  pub reads-other-values : (slip ≡ slip_of bytes → ⊥) → told (Ok (Says slip)) ≡ slips.read_told bytes → ⊥
  unfolding told slip_values
  reads-other-values h e = h (ap (λ (t : Told). slip_from t.values) (slip-passed e).1)
