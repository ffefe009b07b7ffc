-- The room, the directory and the seat are tested first; what is left is the seat's own call on its part of the room.
use Rattle.std.proofs.Common.{◌∙◌, sym, arith}
use Rattle.std.proofs.lemmas.Result.{err_from_is_err_and}
use Rattle.centre.proofs.SeatLent.{no-place, lent-at, seat-from, seat-ends, lent-long, lent_fits}
use Rattle.centre.proofs.Refusals.{set-room-unfit, set-unlisted, set-no-seat, set-end, plain-told}
use Rattle.centre.proofs.calls.set_found.Goals as goal

pub returns-then-not-room_fits : goal.returns-then-not-room_fits
returns-then-not-room_fits c =
    let e = set-room-unfit c.args.fit c.args.owner c.args.ticket c.args.number c.args.wish c.args.room.now (sym c.room_fits.ensures ∙
    c.if-not-room_fits.true) in
    record { result_value = e.0; room_after = e.1 }

pub returns-then-not-fit : goal.returns-then-not-fit
returns-then-not-fit c =
    let e = set-unlisted c.args.fit c.args.owner c.args.ticket c.args.number c.args.wish c.args.room.now (sym c.room_fits.ensures ∙
    c.if-not-room_fits.false) c.if-not-fit.true in
    record { result_value = e.0; room_after = e.1 }

pub returns-in_err-place : goal.returns-in_err-place
returns-in_err-place c =
    let none = no-place c.args.ticket.seat c.seat_range.result _ c.seat_range.ensures c.in_err-place.was in
    let p = err_from_is_err_and c.from_residual.result c.from_residual.ensures.1 in
    let e = set-no-seat c.args.fit c.args.owner c.args.ticket c.args.number c.args.wish c.args.room.now (sym c.room_fits.ensures ∙
    c.if-not-room_fits.false) c.if-not-fit.false none.0 in
    record { result_value = rw (p.1, p.2, none.1) e.0; room_after = e.1 }

pub offset_bounds-room-place : goal.offset_bounds-room-place
offset_bounds-room-place c =
    let l = lent-at c.args.ticket.seat c.room_fits.ensures c.if-not-room_fits.false c.seat_range.ensures c.in_ok-place.was in
    omega (arith, seat-from l, l.low)

pub slice_bounds-set_account-end : goal.slice_bounds-set_account-end
slice_bounds-set_account-end c =
    seat-ends (lent-at c.args.ticket.seat c.room_fits.ensures c.if-not-room_fits.false c.seat_range.ensures c.in_ok-place.was)

pub set_account-requires : goal.set_account-requires
set_account-requires c =
    let l = lent-at c.args.ticket.seat c.room_fits.ensures c.if-not-room_fits.false c.seat_range.ensures c.in_ok-place.was in
    (lent-long l, lent_fits l, c.requires c.if-not-fit.false)

pub returns-in_err-set_account : goal.returns-in_err-set_account
returns-in_err-set_account c =
    let l = lent-at c.args.ticket.seat c.room_fits.ensures c.if-not-room_fits.false c.seat_range.ensures c.in_ok-place.was in
    let p = err_from_is_err_and c.from_residual-in_err-set_account.result c.from_residual-in_err-set_account.ensures.1 in
    let e = set-end c.args.fit c.args.owner c.args.ticket c.args.number c.args.wish c.args.room.now c.if-not-fit.false l
    c.from_residual-in_err-set_account.result c.set_account.result c.set_account.new.s c.settings_of.result c.settings_of.ensures
    c.set_account.ensures.value c.set_account.ensures.s_after (rw (p.1, c.in_err-set_account.was) p.2) in
    record { result_value = e.0; room_after = e.1 }

pub returns : goal.returns
returns c =
    let l = lent-at c.args.ticket.seat c.room_fits.ensures c.if-not-room_fits.false c.seat_range.ensures c.in_ok-place.was in
    let e = set-end c.args.fit c.args.owner c.args.ticket c.args.number c.args.wish c.args.room.now c.if-not-fit.false l
    _ c.set_account.result c.set_account.new.s c.settings_of.result c.settings_of.ensures
    c.set_account.ensures.value c.set_account.ensures.s_after (plain-told c.set_account.result _ c.in_ok-set_account.was) in
    record { result_value = e.0; room_after = e.1 }
