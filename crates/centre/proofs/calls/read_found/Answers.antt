-- The room, the directory and the seat are tested first; what is left is the seat's own call on its part of the room.
use Rattle.std.proofs.Common.{◌∙◌, sym, arith}
use Rattle.std.proofs.lemmas.Result.{err_from_is_err_and}
use Rattle.seat.specs.Calls.{read_answer, read_result, account_number}
use Rattle.layout.specs.Seat.{account_of}
use Rattle.centre.proofs.SeatLent.{no-place, lent-at, lent_of, lent-seat, seat-from, seat-ends, lent-long}
use Rattle.centre.proofs.Refusals.{read-room-unfit, read-unlisted, read-no-seat, read-end, read-refused, read-holds}
use Rattle.centre.proofs.calls.read_found.Goals as goal

pub returns-then-not-room_fits : goal.returns-then-not-room_fits
returns-then-not-room_fits c =
    read-room-unfit c.args.fit c.args.owner c.args.ticket c.args.number c.args.room.now (sym c.room_fits.ensures ∙ c.if-not-room_fits.true)

pub returns-then-not-fit : goal.returns-then-not-fit
returns-then-not-fit c =
    read-unlisted c.args.fit c.args.owner c.args.ticket c.args.number c.args.room.now (sym c.room_fits.ensures ∙ c.if-not-room_fits.false) c.if-not-fit.true

pub returns-in_err-place : goal.returns-in_err-place
returns-in_err-place c =
    let none = no-place c.args.ticket.seat c.seat_range.result _ c.seat_range.ensures c.in_err-place.was in
    let p = err_from_is_err_and c.from_residual.result c.from_residual.ensures.1 in
    rw (p.1, p.2, none.1) (read-no-seat c.args.fit c.args.owner c.args.ticket c.args.number c.args.room.now (sym c.room_fits.ensures ∙
    c.if-not-room_fits.false) c.if-not-fit.false none.0)

pub offset_bounds-room-place : goal.offset_bounds-room-place
offset_bounds-room-place c =
    let l = lent-at c.args.ticket.seat c.room_fits.ensures c.if-not-room_fits.false c.seat_range.ensures c.in_ok-place.was in
    omega (arith, seat-from l, l.low)

pub slice_bounds-read_account-end : goal.slice_bounds-read_account-end
slice_bounds-read_account-end c =
    seat-ends (lent-at c.args.ticket.seat c.room_fits.ensures c.if-not-room_fits.false c.seat_range.ensures c.in_ok-place.was)

pub read_account-requires : goal.read_account-requires
read_account-requires c =
    let l = lent-at c.args.ticket.seat c.room_fits.ensures c.if-not-room_fits.false c.seat_range.ensures c.in_ok-place.was in
    (lent-long l, c.requires c.if-not-fit.false)

pub returns-in_err-account : goal.returns-in_err-account
unfolding read_result
returns-in_err-account c =
    let l = lent-at c.args.ticket.seat c.room_fits.ensures c.if-not-room_fits.false c.seat_range.ensures c.in_ok-place.was in
    let p = err_from_is_err_and c.from_residual-in_err-account.result c.from_residual-in_err-account.ensures.1 in
    let s = lent_of c.args.room.now c.in_ok-place.place in
    read-end c.args.fit c.args.owner c.args.ticket c.args.number c.args.room.now (sym c.room_fits.ensures ∙ c.if-not-room_fits.false) c.if-not-fit.false l.low
    s (lent-seat l) _ (rw p.1 (read-refused (read_answer c.args.ticket.opening c.args.owner c.args.number s)
    (account_of s (account_number c.args.owner c.args.number)) _ _ (sym c.read_account.ensures ∙ c.in_err-account.was) p.2))

pub returns : goal.returns
unfolding read_result
returns c =
    let l = lent-at c.args.ticket.seat c.room_fits.ensures c.if-not-room_fits.false c.seat_range.ensures c.in_ok-place.was in
    let s = lent_of c.args.room.now c.in_ok-place.place in
    read-end c.args.fit c.args.owner c.args.ticket c.args.number c.args.room.now (sym c.room_fits.ensures ∙ c.if-not-room_fits.false) c.if-not-fit.false l.low
    s (lent-seat l) _ (read-holds (read_answer c.args.ticket.opening c.args.owner c.args.number s)
    (account_of s (account_number c.args.owner c.args.number)) _ (sym c.read_account.ensures ∙ c.in_ok-account.was))
