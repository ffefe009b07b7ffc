-- The room and the seat are tested first; what is left is the seat's own call on its part of the room.
use Rattle.std.proofs.Common.{◌∙◌, sym, arith}
use Rattle.std.proofs.lemmas.Result.{err_from_is_err_and}
use Rattle.centre.proofs.SeatLent.{no-place, lent-at, seat-from, seat-ends, lent-long, lent_fits}
use Rattle.centre.proofs.Refusals.{back-room-unfit, back-no-seat, back_end, plain-told}
use Rattle.centre.proofs.calls.take_back.Goals as goal

pub returns-then-not-room_fits : goal.returns-then-not-room_fits
returns-then-not-room_fits c =
    let e = back-room-unfit c.args.ticket c.args.room.now (sym c.room_fits.ensures ∙ c.if-not-room_fits.true) in
    record { result_value = e.0; room_after = e.1 }

pub returns-in_err-place : goal.returns-in_err-place
returns-in_err-place c =
    let none = no-place c.args.ticket.seat c.seat_range.result _ c.seat_range.ensures c.in_err-place.was in
    let p = err_from_is_err_and c.from_residual.result c.from_residual.ensures.1 in
    let e = back-no-seat c.args.ticket c.args.room.now (sym c.room_fits.ensures ∙ c.if-not-room_fits.false) none.0 in
    record { result_value = rw (p.1, p.2, none.1) e.0; room_after = e.1 }

pub offset_bounds-room-place : goal.offset_bounds-room-place
offset_bounds-room-place c =
    let l = lent-at c.args.ticket.seat c.room_fits.ensures c.if-not-room_fits.false c.seat_range.ensures c.in_ok-place.was in
    omega (arith, seat-from l, l.low)

pub slice_bounds-take_back-end : goal.slice_bounds-take_back-end
slice_bounds-take_back-end c =
    seat-ends (lent-at c.args.ticket.seat c.room_fits.ensures c.if-not-room_fits.false c.seat_range.ensures c.in_ok-place.was)

pub take_back-requires : goal.take_back-requires
take_back-requires c =
    let l = lent-at c.args.ticket.seat c.room_fits.ensures c.if-not-room_fits.false c.seat_range.ensures c.in_ok-place.was in
    (lent-long l, lent_fits l)

pub returns-in_err-take_back : goal.returns-in_err-take_back
returns-in_err-take_back c =
    let l = lent-at c.args.ticket.seat c.room_fits.ensures c.if-not-room_fits.false c.seat_range.ensures c.in_ok-place.was in
    let p = err_from_is_err_and c.from_residual-in_err-take_back.result c.from_residual-in_err-take_back.ensures.1 in
    let e = back_end c.args.ticket c.args.room.now l c.from_residual-in_err-take_back.result c.take_back.result c.take_back.new.s
    c.take_back.ensures.value c.take_back.ensures.s_after (rw (p.1, c.in_err-take_back.was) p.2) in
    record { result_value = e.0; room_after = e.1 }

pub returns : goal.returns
returns c =
    let l = lent-at c.args.ticket.seat c.room_fits.ensures c.if-not-room_fits.false c.seat_range.ensures c.in_ok-place.was in
    let e = back_end c.args.ticket c.args.room.now l _ c.take_back.result c.take_back.new.s
    c.take_back.ensures.value c.take_back.ensures.s_after (plain-told c.take_back.result _ c.in_ok-take_back.was) in
    record { result_value = e.0; room_after = e.1 }
