-- Checks 1 and 2 refuse; else the seat, which fits and is open with this ticket, takes the step, and its slip is written.
use Rattle.std.proofs.Common.{◌∙◌, sym}
use Rattle.centre.proofs.Judged.{seat-asks, not_taken_lem, append-asks, slip-asks, taken}
use Rattle.centre.proofs.submit.judge_in.Goals as goal

pub first_failing-check-requires : goal.first_failing-check-requires
first_failing-check-requires c = seat-asks c.args.ticket c.args.s.now c.requires.0 c.requires.1

pub returns-then-not_taken : goal.returns-then-not_taken
returns-then-not_taken c =
    let e = not_taken_lem c.args.ticket c.args.c c.args.s.now c.args.slip.now c.first_failing-check.result c.first_failing-check.ensures
    (sym c.not_taken.ensures ∙ c.if-not_taken.true) in
    record { result_value = e.0; s_after = e.1.0; slip_after = e.1.1 }

pub step_by-x-requires : goal.step_by-x-requires
step_by-x-requires c = seat-asks c.args.ticket c.args.s.now c.requires.0 c.requires.1

pub head-h-requires : goal.head-h-requires
head-h-requires c = (seat-asks c.args.ticket c.args.s.now c.requires.0 c.requires.1).0

pub append-requires : goal.append-requires
append-requires c =
    append-asks c.args.ticket c.args.c c.args.s.now c.args.slip.now c.first_failing-check.result c.first_failing-check.ensures
    (sym c.not_taken.ensures ∙ c.if-not_taken.false) c.step_by-x.result c.step_by-x.ensures c.head-h.result c.head-h.ensures
    c.requires.0 c.requires.1 c.requires.3 c.requires.5

pub put_slip-requires : goal.put_slip-requires
put_slip-requires c =
    slip-asks c.args.ticket c.args.c c.args.s.now c.args.slip.now c.first_failing-check.result c.first_failing-check.ensures
    (sym c.not_taken.ensures ∙ c.if-not_taken.false) c.step_by-x.result c.step_by-x.ensures c.head-h.result c.head-h.ensures
    c.requires.0 c.requires.1 c.requires.3 c.requires.5 c.requires.2 c.requires.4

pub returns : goal.returns
returns c =
    let e = taken c.args.ticket c.args.c c.args.s.now c.args.slip.now c.first_failing-check.result c.first_failing-check.ensures
    (sym c.not_taken.ensures ∙ c.if-not_taken.false) c.step_by-x.result c.step_by-x.ensures c.head-h.result c.head-h.ensures
    c.append.new.s c.put_slip.new.slip c.append.ensures c.put_slip.ensures in
    record { result_value = e.0; s_after = e.1.0; slip_after = e.1.1 }
