-- Zeros with the head of a closed seat are a closed seat.
use mathlib.Core.Path.{sym, ap, ◌∙◌}
use Rattle.layout.specs.declared.rows.Head.{Head}
use Rattle.seat.specs.Fit.{closed_seat}
use Rattle.seat.specs.Calls.{close_answer, close_after}
use Rattle.seat.proofs.Zeros.{seat-zeros, closed-made}
use Rattle.seat.proofs.calls.close_seat.Goals as goal

pub returns-clause-s_after : goal.returns-clause-s_after
unfolding close_after close_answer
returns-clause-s_after c =
    c.put_head.ensures
    ∙ closed-made c.clear.new.s c.head-h.result.opening (seat-zeros c.args.s.now c.clear.new.s c.requires c.clear.ensures)
    ∙ ap (λ (h : Head). closed_seat h.opening) c.head-h.ensures
    ∙ rw (sym c.no_ticket.ensures ∙ c.if-no_ticket.false)
