-- No call tells a detail above the place of a sheet that is too long: most refusals have none, a place is at most the length of the longest
-- sheet, a field is one of fourteen, and who is not taken failed check 1 or 2. And no opening number is above 65,536. So every result fits a
-- number with room to spare.
-- Assumes nothing.
use Rattle.std.specs.Prelude.{Option, Some, None}
use mathlib.Core.Path.{◌≡◌, refl}
use mathlib.Core.Bool.{Bool, true, false, not, ◌&&◌, cond}
use mathlib.Core.List.{List, [], ◌∷◌, map}
use native.Mathlib.Omega.{arith}
use Prim.Native.Nat.{ℕ, suc, ◌+◌, ◌≤◌}
use borrow.Author.Tests.{eqb-true, leb-false, not-false}
use lib.Dec.{leb, ltb, eqb}
use lib.ListN.{length}
use Rattle.shape.specs.Dates.{is_date}
use Rattle.table.specs.declared.Kind.{Kind}
use Rattle.slip.specs.declared.Slip.{Slip}
use Rattle.slip.specs.Meaning.{slip_long, seats, openings, steps}
use Rattle.sheet.specs.Answer.{Reading, accepted, refused as refused_at, reading_of}
use Rattle.sheet.specs.Right.{Right, broken, long}
use Rattle.sheet.proofs.Reading.{reading-right}
use Rattle.outline.specs.Rows.{Row, rows_of}
use Rattle.message.specs.Fields.{Field, fields_of}
use Rattle.message.specs.Message.{spot_in, message_of}
use Rattle.message.specs.Held.{Held, kind_of, held_of}
use Rattle.message.specs.Good.{is_good, goes_with, first_bad, lowest_bad}
use Rattle.std.specs.Prelude.{Ok}
use Rattle.message.specs.declared.Refusal.TheVariants.{BadField}
use Rattle.message.specs.declared.Received.{Received}
use Rattle.message.specs.Received.{by_number, refusal, judged, received_in, received_as, received_from, received_of}
use Rattle.message.specs.Lowest.{number_of}
use Rattle.message.proofs.FieldShown.{fields-few}
use Rattle.directory.specs.declared.Participant.{Participant}
use Rattle.directory.specs.Directory.{code_most, is_fit}
use Rattle.layout.specs.Seat.{head_of, seat_of}
use Rattle.seat.specs.declared.settings.Wish.{Wish}
use Rattle.seat.specs.Calls.{sums_good}
use Rattle.seat.specs.Fit.{room_fits}
use Rattle.seat.proofs.Asked.{opening-low}
use Rattle.seat.proofs.Rooms.{room-seat}
use Rattle.judge.specs.Case.{case_of}
use Rattle.centre.specs.declared.Ticket.{Ticket}
use Rattle.centre.specs.Answers.{Told, done, refused}
use Rattle.centre.specs.Calls.{no_seat, ticket_bad, lay_told, open_told, close_told, set_told, back_told, read_told}
use Rattle.centre.specs.Submit.{not_taken, verdict_on, submit_told}
use Rattle.centre.specs.Slips.{write_told, read_told as slip_told}
use Rattle.damvurit.specs.Boundary.{detail_most, out_of, opening_in}

-- the detail of what a table of refusals says is that of the line; where no line has one, there is none
detail-of-line : (test : Bool) (here rest : Told) → (cond test here rest).detail ≡ cond test here.detail rest.detail
detail-of-line true here rest = refl
detail-of-line false here rest = refl

no-detail : (test : Bool) → ◌≡◌ {A = ℕ} (cond test 0 0) 0
no-detail true = refl
no-detail false = refl

pub lay-plain : (room : List ℕ) → (lay_told room).detail ≡ 0
unfolding lay_told
lay-plain room = simp (detail-of-line, no-detail)

pub open_plain : (dir : List Participant) (seat : ℕ) (sums room : List ℕ) → (open_told dir seat sums room).detail ≡ 0
unfolding open_told
open_plain dir seat sums room = simp (detail-of-line, no-detail)

pub close-plain : (ticket : Ticket) (room : List ℕ) → (close_told ticket room).detail ≡ 0
unfolding close_told
close-plain ticket room = simp (detail-of-line, no-detail)

pub set-plain : (dir : List Participant) (ticket : Ticket) (owner number : ℕ) (wish : Wish) (room : List ℕ) → (set_told dir ticket owner number wish room).detail ≡ 0
unfolding set_told
set-plain dir ticket owner number wish room = simp (detail-of-line, no-detail)

pub back-plain : (ticket : Ticket) (room : List ℕ) → (back_told ticket room).detail ≡ 0
unfolding back_told
back-plain ticket room = simp (detail-of-line, no-detail)

pub read_plain : (dir : List Participant) (ticket : Ticket) (owner number : ℕ) (room : List ℕ) → (read_told dir ticket owner number room).detail ≡ 0
unfolding read_told
read_plain dir ticket owner number room = simp (detail-of-line, no-detail)

pub write-plain : (slip : Slip) (buffer : List ℕ) → (write_told slip buffer).detail ≡ 0
unfolding write_told
write-plain slip buffer = simp (detail-of-line, no-detail)

pub slip-plain : (bytes : List ℕ) → (slip_told bytes).detail ≡ 0
unfolding slip_told
slip-plain bytes = simp (detail-of-line, no-detail)

-- the place of a refusal, by the grammar
place-low : (s : List ℕ) (place : ℕ) → Right s (refused_at place) → place ≤ detail_most
place-low s place (broken _ short unformed within viable longest) = omega arith
place-low s _ (long over) = omega arith

-- the first bad field is one of the fields
bad-among : (goes : ℕ → Bool) (k : ℕ) (fields : List Field) (held : List Held) → first_bad goes k fields held ≤ k + length fields
unfolding first_bad
bad-among goes k [] held = omega arith
bad-among goes k (f ∷ fields) [] = omega arith
bad-among goes k (f ∷ fields) (h ∷ held) = either (is_good f.optional f.shape f.ccy h && goes k) (bad-among goes (suc k) fields held)
  where
    either : (good : Bool) → first_bad goes (suc k) fields held ≤ suc k + length fields
        → cond good (first_bad goes (suc k) fields held) k ≤ k + suc (length fields)
    either true rest = omega arith
    either false rest = omega arith

abbrev detail_of : Received → ℕ
detail_of received = (number_of received.answer).1

either-low : (test : Bool) (here rest : Received) → detail_of here ≤ detail_most → detail_of rest ≤ detail_most → detail_of (cond test here rest) ≤ detail_most
either-low true here rest p q = p
either-low false here rest p q = q

judged-low : (kind : Kind) (held : List Held) (bad : ℕ) → bad ≤ detail_most → detail_of (judged kind held bad) ≤ detail_most
judged-low kind held bad few =
    either-low (eqb bad 0)
    (record { answer = Ok (message_of kind held); spots = by_number (map spot_in held) })
    (refusal (BadField bad)) (omega arith) few

as-low : (body : Option Kind) (rows : List Row) → detail_of (received_as body rows) ≤ detail_most
unfolding received_as received_in
as-low None rows = omega arith
as-low (Some kind) rows =
    let held = held_of kind rows in
    judged-low kind held (lowest_bad kind held)
    (omega (arith, bad-among (λ (number : ℕ). goes_with kind number held) 1 (fields_of kind) held, fields-few kind))

from_low : (s : List ℕ) (r : Reading) → Right s r → detail_of (received_from s r) ≤ detail_most
unfolding received_from
from_low s (accepted n starts depths) right = as-low (kind_of (rows_of s n starts depths)) (rows_of s n starts depths)
from_low s (refused_at place) right = place-low s place right

received-low : (s : List ℕ) → detail_of (received_of s) ≤ detail_most
unfolding received_of
received-low s = from_low s (reading_of s) (reading-right s)

not-taken-low : (check : ℕ) → not_taken check ≡ true → check ≤ detail_most
unfolding not_taken
not-taken-low check e = either (eqb check 1) refl
  where
    either : (first : Bool) → eqb check 1 ≡ first → check ≤ detail_most
    either true f = omega (arith, eqb-true check 1 f)
    either false f = omega (arith, eqb-true check 2 (rw f at e))

-- of three details behind six lines without one, each counts only where its test holds
among-lines : (a b c d e f ill bad untaken : Bool) (place field check : ℕ) → place ≤ detail_most → field ≤ detail_most → (untaken ≡ true → check ≤ detail_most)
    → cond a 0 (cond b 0 (cond c 0 (cond d 0 (cond e 0 (cond f 0 (cond ill place (cond bad field (cond untaken check 0)))))))) ≤ detail_most
among-lines true b c d e f ill bad untaken place field check p q r = omega arith
among-lines false true c d e f ill bad untaken place field check p q r = omega arith
among-lines false false true d e f ill bad untaken place field check p q r = omega arith
among-lines false false false true e f ill bad untaken place field check p q r = omega arith
among-lines false false false false true f ill bad untaken place field check p q r = omega arith
among-lines false false false false false true ill bad untaken place field check p q r = omega arith
among-lines false false false false false false true bad untaken place field check p q r = p
among-lines false false false false false false false true untaken place field check p q r = q
among-lines false false false false false false false false true place field check p q r = r refl
among-lines false false false false false false false false false place field check p q r = omega arith

pub submit-low : (dir : List Participant) (ticket : Ticket) (sender today : ℕ) (sheet slip room : List ℕ) → (submit_told dir ticket sender today sheet slip room).detail ≤ detail_most
unfolding submit_told
submit-low dir ticket sender today sheet slip room =
    let s = seat_of room ticket.seat in
    let received = (received_of sheet).answer in
    let check = verdict_on (case_of dir sender today) received s in
    simp detail-of-line
    (among-lines (not (room_fits room)) (not (is_fit dir)) (ticket_bad ticket room) (not (leb sender code_most && is_date today))
    (ltb (length slip) slip_long) (eqb (head_of s).steps steps) (eqb (number_of received).0 7) (eqb (number_of received).0 8) (not_taken check)
    (number_of received).1 (number_of received).1 check (received-low sheet) (received-low sheet) (not-taken-low check))

-- the opening number that a table of refusals lets through, where the room is fit and there is such a seat
among-refusals : (unfit unlisted nowhere already spent bad : Bool) (n : ℕ) → (unfit ≡ false → nowhere ≡ false → n ≤ openings)
    → opening_in
    (cond unfit (refused 1)
    (cond unlisted (refused 2)
    (cond nowhere (refused 3)
    (cond already (refused 4)
    (cond spent (refused 5)
    (cond bad (refused 6)
    (done (suc n ∷ []))))))))
    ≤ suc openings
unfolding out_of
among-refusals true unlisted nowhere already spent bad n low = omega arith
among-refusals false true nowhere already spent bad n low = omega arith
among-refusals false false true already spent bad n low = omega arith
among-refusals false false false true spent bad n low = omega arith
among-refusals false false false false true bad n low = omega arith
among-refusals false false false false false true n low = omega arith
among-refusals false false false false false false n low = let most = low refl refl in omega arith

seat-opening : (room : List ℕ) (seat : ℕ) → not (room_fits room) ≡ false → no_seat seat ≡ false → (head_of (seat_of room seat)).opening ≤ openings
unfolding no_seat
seat-opening room seat fit sits =
    opening-low (seat_of room seat) (room-seat room (not-false _ fit) seat (leb-false seats seat sits)) (head_of (seat_of room seat)) refl

-- the opening number that is told is at most one more than a fit seat has
pub opening-told : (dir : List Participant) (seat : ℕ) (sums room : List ℕ) → opening_in (open_told dir seat sums room) ≤ suc openings
unfolding open_told
opening-told dir seat sums room =
    let head = head_of (seat_of room seat) in
    among-refusals (not (room_fits room)) (not (is_fit dir)) (no_seat seat) (eqb head.opened 1) (eqb head.opening openings)
    (not (sums_good dir sums)) head.opening (seat-opening room seat)
