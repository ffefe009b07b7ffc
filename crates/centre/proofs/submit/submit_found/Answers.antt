-- Each refusal has its place in the table; after them all, what judging makes of the seat is put back in its place. What was looked up arises from a
-- directory that is fit, so the message can be judged.
use Rattle.std.proofs.Common.{◌∙◌, sym, arith}
use Rattle.std.proofs.lemmas.Result.{err_from_is_err_and}
use Rattle.judge.specs.Case.{case_from}
use Rattle.seat.proofs.Rooms.{room-long}
use Rattle.centre.proofs.SeatLent.{lent-seat, room_back, seat-from, seat-ends}
use Rattle.centre.proofs.SubmitSought.{sought-arises, sought-fits}
use Rattle.centre.proofs.Submitted.{
  passed,
  ticket-seat,
  numbers-wrong,
  numbers-right,
  lent-by,
  room-unfit,
  directory-unfit,
  no-ticket,
  bad-number,
  no-slip,
  journal-full,
  no-message,
  can-judge,
  judged,
}
use Rattle.centre.proofs.submit.submit_found.Goals as goal

pub returns-then-not-room_fits : goal.returns-then-not-room_fits
returns-then-not-room_fits c =
    let e = room-unfit c.args.fit (case_from c.args.looked c.args.sender c.args.today) c.args.ticket c.args.sender c.args.today c.args.received
    c.args.slip.now c.args.room.now
    (sym c.room_fits.ensures ∙ c.if-not-room_fits.true) in
    record { result_value = e.0; room_after = e.1.0; slip_after = e.1.1 }

pub returns-then-not-fit : goal.returns-then-not-fit
returns-then-not-fit c =
    let e = directory-unfit c.args.fit (case_from c.args.looked c.args.sender c.args.today) c.args.ticket c.args.sender c.args.today c.args.received
    c.args.slip.now c.args.room.now
    (sym c.room_fits.ensures ∙ c.if-not-room_fits.false) c.if-not-fit.true in
    record { result_value = e.0; room_after = e.1.0; slip_after = e.1.1 }

pub ticket_bad-requires : goal.ticket_bad-requires
ticket_bad-requires c = room-long c.args.room.now (sym c.room_fits.ensures ∙ c.if-not-room_fits.false)

pub returns-then-ticket_bad : goal.returns-then-ticket_bad
returns-then-ticket_bad c =
    let e = no-ticket c.args.fit (case_from c.args.looked c.args.sender c.args.today) c.args.ticket c.args.sender c.args.today c.args.received
    c.args.slip.now c.args.room.now
    (sym c.room_fits.ensures ∙ c.if-not-room_fits.false) c.if-not-fit.false (sym c.ticket_bad.ensures ∙ c.if-ticket_bad.true) in
    record { result_value = e.0; room_after = e.1.0; slip_after = e.1.1 }

pub returns-then-call_bad : goal.returns-then-call_bad
returns-then-call_bad c =
    let e = bad-number c.args.fit (case_from c.args.looked c.args.sender c.args.today) c.args.ticket c.args.sender c.args.today c.args.received
    c.args.slip.now c.args.room.now
    (sym c.room_fits.ensures ∙ c.if-not-room_fits.false) c.if-not-fit.false (sym c.ticket_bad.ensures ∙ c.if-ticket_bad.false)
    (numbers-wrong c.args.sender c.args.today c.call_bad.result c.call_bad.ensures c.if-call_bad.true) in
    record { result_value = e.0; room_after = e.1.0; slip_after = e.1.1 }

pub returns-then-slip-lt-SLIP_LONG : goal.returns-then-slip-lt-SLIP_LONG
returns-then-slip-lt-SLIP_LONG c =
    let e = no-slip c.args.fit (case_from c.args.looked c.args.sender c.args.today) c.args.ticket c.args.sender c.args.today c.args.received
    c.args.slip.now c.args.room.now
    (sym c.room_fits.ensures ∙ c.if-not-room_fits.false) c.if-not-fit.false (sym c.ticket_bad.ensures ∙ c.if-ticket_bad.false)
    (numbers-right c.args.sender c.args.today c.call_bad.result c.call_bad.ensures c.if-call_bad.false) c.if-slip-lt-SLIP_LONG.true in
    record { result_value = e.0; room_after = e.1.0; slip_after = e.1.1 }

pub steps_in-requires : goal.steps_in-requires
steps_in-requires c = (
  room-long c.args.room.now (sym c.room_fits.ensures ∙ c.if-not-room_fits.false),
  ticket-seat c.args.ticket c.args.room.now (sym
      c.ticket_bad.ensures ∙ c.if-ticket_bad.false),
)

pub returns-then-steps_in-eq-STEPS : goal.returns-then-steps_in-eq-STEPS
returns-then-steps_in-eq-STEPS c =
    let e = journal-full c.args.fit (case_from c.args.looked c.args.sender c.args.today) c.args.ticket c.args.sender c.args.today c.args.received
    c.args.slip.now c.args.room.now
    (sym c.room_fits.ensures ∙ c.if-not-room_fits.false) c.if-not-fit.false (sym c.ticket_bad.ensures ∙ c.if-ticket_bad.false)
    (numbers-right c.args.sender c.args.today c.call_bad.result c.call_bad.ensures c.if-call_bad.false) c.if-slip-lt-SLIP_LONG.false (sym
    c.steps_in.ensures ∙ c.if-steps_in-eq-STEPS.true) in
    record { result_value = e.0; room_after = e.1.0; slip_after = e.1.1 }

pub returns-in_err-m : goal.returns-in_err-m
returns-in_err-m c =
    let all = passed c.args.fit c.args.ticket c.args.sender c.args.today c.args.slip.now c.args.room.now
    (sym c.room_fits.ensures ∙ c.if-not-room_fits.false) c.if-not-fit.false (sym c.ticket_bad.ensures ∙ c.if-ticket_bad.false) (numbers-right
    c.args.sender c.args.today c.call_bad.result c.call_bad.ensures c.if-call_bad.false) c.if-slip-lt-SLIP_LONG.false
    c.steps_in.result c.steps_in.ensures c.if-steps_in-eq-STEPS.false in
    let p = err_from_is_err_and c.from_residual.result c.from_residual.ensures.1 in
    let e = no-message all (case_from c.args.looked c.args.sender c.args.today) c.args.received _ _ c.in_err-m.was p.2 in
    record { result_value = rw p.1 e.0; room_after = e.1.0; slip_after = e.1.1 }

pub case_from-c-requires : goal.case_from-c-requires
case_from-c-requires c = sought-fits c.requires c.if-not-fit.false c.in_ok-m.m c.in_ok-m.was

pub seat_place-requires : goal.seat_place-requires
seat_place-requires c = ticket-seat c.args.ticket c.args.room.now (sym c.ticket_bad.ensures ∙ c.if-ticket_bad.false)

pub offset_bounds-room-seat_place : goal.offset_bounds-room-seat_place
offset_bounds-room-seat_place c =
    let l = lent-by c.args.ticket c.args.room.now (sym c.room_fits.ensures ∙ c.if-not-room_fits.false) (sym c.ticket_bad.ensures ∙
    c.if-ticket_bad.false) c.seat_place.result c.seat_place.ensures in
    omega (arith, seat-from l, l.low)

pub slice_bounds-judge_in-end : goal.slice_bounds-judge_in-end
slice_bounds-judge_in-end c =
    seat-ends (lent-by c.args.ticket c.args.room.now (sym c.room_fits.ensures ∙ c.if-not-room_fits.false) (sym c.ticket_bad.ensures ∙
    c.if-ticket_bad.false) c.seat_place.result c.seat_place.ensures)

pub judge_in-requires : goal.judge_in-requires
judge_in-requires c =
    let all = passed c.args.fit c.args.ticket c.args.sender c.args.today c.args.slip.now c.args.room.now
    (sym c.room_fits.ensures ∙ c.if-not-room_fits.false) c.if-not-fit.false (sym c.ticket_bad.ensures ∙ c.if-ticket_bad.false) (numbers-right
    c.args.sender c.args.today c.call_bad.result c.call_bad.ensures c.if-call_bad.false) c.if-slip-lt-SLIP_LONG.false
    c.steps_in.result c.steps_in.ensures c.if-steps_in-eq-STEPS.false in
    let l = lent-by c.args.ticket c.args.room.now (sym c.room_fits.ensures ∙ c.if-not-room_fits.false) (sym c.ticket_bad.ensures ∙
    c.if-ticket_bad.false) c.seat_place.result c.seat_place.ensures in
    can-judge all (case_from c.args.looked c.args.sender c.args.today) c.args.received c.in_ok-m.m c.in_ok-m.was
    (sought-arises c.requires c.if-not-fit.false c.in_ok-m.m c.in_ok-m.was c.args.today (numbers-right c.args.sender c.args.today c.call_bad.result
    c.call_bad.ensures c.if-call_bad.false))
    c.case_from-c.result c.case_from-c.ensures _ (lent-seat l)

pub returns : goal.returns
returns c =
    let all = passed c.args.fit c.args.ticket c.args.sender c.args.today c.args.slip.now c.args.room.now
    (sym c.room_fits.ensures ∙ c.if-not-room_fits.false) c.if-not-fit.false (sym c.ticket_bad.ensures ∙ c.if-ticket_bad.false) (numbers-right
    c.args.sender c.args.today c.call_bad.result c.call_bad.ensures c.if-call_bad.false) c.if-slip-lt-SLIP_LONG.false
    c.steps_in.result c.steps_in.ensures c.if-steps_in-eq-STEPS.false in
    let l = lent-by c.args.ticket c.args.room.now (sym c.room_fits.ensures ∙ c.if-not-room_fits.false) (sym c.ticket_bad.ensures ∙
    c.if-ticket_bad.false) c.seat_place.result c.seat_place.ensures in
    let e = judged all (case_from c.args.looked c.args.sender c.args.today) c.args.received c.in_ok-m.m c.in_ok-m.was
    c.case_from-c.result c.case_from-c.ensures _ (lent-seat l)
    c.judge_in.result c.judge_in.ensures.result_value c.judge_in.new.s c.judge_in.ensures.s_after _ (room_back l c.judge_in.new.s)
    c.judge_in.new.slip c.judge_in.ensures.slip_after in
    record { result_value = e.0; room_after = e.1.0; slip_after = e.1.1 }
