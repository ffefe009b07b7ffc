-- The room, the directory and the seat are tested first; what is left is the seat's own call on its part of the room, and of that seat the head is
-- read again.
use Rattle.std.proofs.Common.{◌≡◌, ◌∙◌, sym, ap, refl, arith, length}
use Rattle.std.proofs.lemmas.Result.{err_from_is_err_and}
use Rattle.directory.specs.Directory.{records_most}
use Rattle.directory.proofs.Gathers.{few-gathered}
use Rattle.layout.specs.Seat.{head_of, seat_of}
use Rattle.centre.proofs.SeatLent.{no-place, lent-at, seat-from, seat-ends, lent-long, lent_fits, back_in, back_long, back-seat}
use Rattle.centre.proofs.Refusals.{open-room-unfit, open-unlisted, open-no-seat, open-end, opened-told, refused-told}
use Rattle.centre.proofs.calls.open_among.Goals as goal

pub returns-then-not-room_fits : goal.returns-then-not-room_fits
returns-then-not-room_fits c =
    let e = open-room-unfit c.args.g c.args.seat c.args.sums.now c.args.room.now (sym c.room_fits.ensures ∙ c.if-not-room_fits.true) in
    record { result_value = e.0; room_after = e.1 }

pub returns-then-not-fits : goal.returns-then-not-fits
returns-then-not-fits c =
    let full : length c.args.g.records ≡ records_most = omega arith in
    let e = open-unlisted c.args.g c.args.seat c.args.sums.now c.args.room.now (sym c.room_fits.ensures ∙ c.if-not-room_fits.false) full (sym
    c.fits.ensures ∙ c.if-not-fits.true) in
    record { result_value = e.0; room_after = e.1 }

pub returns-in_err-place : goal.returns-in_err-place
returns-in_err-place c =
    let full : length c.args.g.records ≡ records_most = omega arith in
    let none = no-place c.args.seat c.seat_range.result _ c.seat_range.ensures c.in_err-place.was in
    let p = err_from_is_err_and c.from_residual.result c.from_residual.ensures.1 in
    let e = open-no-seat c.args.g c.args.seat c.args.sums.now c.args.room.now (sym c.room_fits.ensures ∙ c.if-not-room_fits.false) full (sym
    c.fits.ensures ∙ c.if-not-fits.false) none.0 in
    record { result_value = rw (p.1, p.2, none.1) e.0; room_after = e.1 }

pub offset_bounds-room-place : goal.offset_bounds-room-place
offset_bounds-room-place c =
    let l = lent-at c.args.seat c.room_fits.ensures c.if-not-room_fits.false c.seat_range.ensures c.in_ok-place.was in
    omega (arith, seat-from l, l.low)

pub slice_bounds-open_seat-end : goal.slice_bounds-open_seat-end
slice_bounds-open_seat-end c =
    seat-ends (lent-at c.args.seat c.room_fits.ensures c.if-not-room_fits.false c.seat_range.ensures c.in_ok-place.was)

pub open_seat-requires : goal.open_seat-requires
open_seat-requires c =
    let l = lent-at c.args.seat c.room_fits.ensures c.if-not-room_fits.false c.seat_range.ensures c.in_ok-place.was in
    (lent-long l, lent_fits l, few-gathered c.args.g (sym c.fits.ensures ∙ c.if-not-fits.false))

pub seat_in-requires : goal.seat_in-requires
seat_in-requires c =
    let l = lent-at c.args.seat c.room_fits.ensures c.if-not-room_fits.false c.seat_range.ensures c.in_ok-place.was in
    (back_long l c.open_seat.new.s (c.open_seat.auto.s ∙ lent-long l), l.low)

pub head-requires : goal.head-requires
head-requires c =
    let l = lent-at c.args.seat c.room_fits.ensures c.if-not-room_fits.false c.seat_range.ensures c.in_ok-place.was in
    let long = c.open_seat.auto.s ∙ lent-long l in
    ap length (c.seat_in.ensures ∙ back-seat l c.open_seat.new.s long) ∙ long

pub returns-in_err-open_seat : goal.returns-in_err-open_seat
returns-in_err-open_seat c =
    let full : length c.args.g.records ≡ records_most = omega arith in
    let l = lent-at c.args.seat c.room_fits.ensures c.if-not-room_fits.false c.seat_range.ensures c.in_ok-place.was in
    let p = err_from_is_err_and c.from_residual-in_err-open_seat.result c.from_residual-in_err-open_seat.ensures.1 in
    let left = back_in c.args.room.now c.in_ok-place.place c.open_seat.new.s in
    let e = open-end c.args.g c.args.seat c.args.sums.now c.args.room.now full (sym c.fits.ensures ∙ c.if-not-fits.false) l
    c.from_residual-in_err-open_seat.result c.open_seat.result c.open_seat.new.s (head_of (seat_of left c.args.seat))
    c.open_seat.ensures.value c.open_seat.ensures.s_after (c.open_seat.auto.s ∙ lent-long l) (seat_of left c.args.seat) refl refl
    (rw p.1 (refused-told c.open_seat.result _ _ _ c.in_err-open_seat.was p.2)) in
    record { result_value = e.0; room_after = e.1 }

pub returns : goal.returns
returns c =
    let full : length c.args.g.records ≡ records_most = omega arith in
    let l = lent-at c.args.seat c.room_fits.ensures c.if-not-room_fits.false c.seat_range.ensures c.in_ok-place.was in
    let e = open-end c.args.g c.args.seat c.args.sums.now c.args.room.now full (sym c.fits.ensures ∙ c.if-not-fits.false) l
    _ c.open_seat.result c.open_seat.new.s c.head.result
    c.open_seat.ensures.value c.open_seat.ensures.s_after (c.open_seat.auto.s ∙ lent-long l) _ c.seat_in.ensures c.head.ensures
    (opened-told c.open_seat.result _ c.head.result.opening c.in_ok-open_seat.was) in
    record { result_value = e.0; room_after = e.1 }
