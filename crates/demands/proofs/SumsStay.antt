-- The balances of an open seat sum up to its opening sums: in a fit room the journal, worked forward from these, comes out, and no step changes the
-- sum. Every room that calls reach is fit. An opening that is done leaves the sums that it was given.
-- Assumes nothing.
use mathlib.Core.Path.{◌≡◌, refl, sym, ap, ◌∙◌}
use mathlib.Core.Bool.{true, false, not, ◌||◌}
use mathlib.Core.List.{List}
use Prim.Native.Nat.{ℕ, zero, suc, ◌+◌, ◌<◌}
use lib.Dec.{lit<}
use lib.ListN.{get_or}
use borrow.Author.Tests.{eq-eqb, leb-false, not-true, not-false}
use Rattle.shape.specs.Bits.{total}
use Rattle.shape.proofs.Tests.{at_place}
use Rattle.slip.specs.Meaning.{seats}
use Rattle.directory.specs.declared.Participant.{Participant}
use Rattle.layout.specs.declared.rows.Account.{Account}
use Rattle.layout.specs.Seat.{accounts, head_of, account_of, seat_of, with_seat}
use Rattle.layout.proofs.Rooms.{seat-got}
use Rattle.journal.proofs.Sums.{balances_from}
use Rattle.seat.specs.Fit.{open_seat, sums_from, sums_of, room_fits}
use Rattle.seat.proofs.Opened.{opened-account, opened-length}
use Rattle.seat.proofs.Kept.{fit-long, fit-open}
use Rattle.seat.proofs.Reached.{sums-come-out}
use Rattle.seat.proofs.Rooms.{room-long, room-seat}
use Rattle.centre.specs.Answers.{is_done}
use Rattle.centre.specs.Calls.{no_seat, open_told, open_after}
use Rattle.centre.proofs.First.{behind-done}
use Rattle.demands.specs.Calls.{Call, opening, call_told, call_room}
use Rattle.demands.specs.Refusals.{room_refused, ticket_refused, table}
use Rattle.demands.specs.Sums.{sum_from, room_after, SumsUp, Sums}
use Rattle.demands.proofs.Tables.{or-false, table_of, done_none}
use Rattle.demands.proofs.SeatLaws.{calls-fit}

-- the same sums, as the journal and the seat have them
balances-summed : (s : List ℕ) (i n : ℕ) → sum_from (λ (a : Account). a.balance) s i n ≡ balances_from s i n
unfolding balances_from
balances-summed s i zero = refl
balances-summed s i (suc n) = ap (λ (m : ℕ). (account_of s i).balance + m) (balances-summed s (suc i) n)

openings-summed : (s : List ℕ) (i n : ℕ) → total (sums_from s i n) ≡ sum_from (λ (a : Account). a.opening) s i n
unfolding sums_from
openings-summed s i zero = refl
openings-summed s i (suc n) = ap (λ (m : ℕ). (account_of s i).opening + m) (openings-summed s (suc i) n)

fit-sums : (room : List ℕ) → room_fits room ≡ true → SumsUp room
unfolding sums_of
fit-sums room fit k low opened =
    let s : List ℕ = seat_of room k in
    let fits = room-seat room fit k low in
    balances-summed s 0 accounts ∙ sums-come-out s (fit-long s fits) (fit-open s fits opened) ∙ openings-summed s 0 accounts

-- an opening that is done
module _ (dir : List Participant) (room : List ℕ) (seat : ℕ) (sums : List ℕ) (done : (call_told dir (opening seat sums) room).number ≡ 0) where
  abbrev call : Call
  call = opening seat sums

  passed : (k : ℕ) → k < 12 → not (get_or (table_of dir room call) k (0, false)).1 ≡ true
  unfolding table
  passed k h = at_place (λ row. not row.1) (table_of dir room call) (0, false) (done_none dir room call done) k h

  fit : room_fits room ≡ true
  unfolding table room_refused
  fit = not-false (room_fits room) (sym (or-false (not (room_fits room))) ∙ not-true (not (room_fits room) || false) (passed 0 (lit< tt)))

  low : seat < seats
  unfolding table ticket_refused no_seat
  low = leb-false seats seat (sym (or-false (no_seat seat)) ∙ not-true (no_seat seat || false) (passed 2 (lit< tt)))

  left : call_room dir call room ≡ with_seat room seat (open_seat (suc (head_of (seat_of room seat)).opening) sums)
  unfolding call_told call_room open_after is_done
  left =
      behind-done (open_told dir seat sums room) (with_seat room seat (open_seat (suc (head_of (seat_of room seat)).opening) sums)) room
      (eq-eqb (open_told dir seat sums room).number 0 done)

  opened-so : (i : ℕ) → i < accounts → (account_of (seat_of (call_room dir call room) seat) i).opening ≡ get_or sums i 0
  opened-so i h =
      let s : List ℕ = open_seat (suc (head_of (seat_of room seat)).opening) sums in
      ap (λ (r : List ℕ). (account_of (seat_of r seat) i).opening) left
      ∙ ap (λ (t : List ℕ). (account_of t i).opening)
      (seat-got room seat s (room-long room fit) low (opened-length (suc (head_of (seat_of room seat)).opening) sums))
      ∙ ap (λ (a : Account). a.opening) (opened-account (suc (head_of (seat_of room seat)).opening) sums i h)

pub sums-stay : Sums
sums-stay = record {
  fit = fit-sums;
  reached = λ dir calls.
      (calls-fit dir calls, fit-sums (room_after dir calls) (calls-fit dir calls));
  opened = opened-so;
}
