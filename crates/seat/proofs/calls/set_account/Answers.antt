-- An account that is found is one of the seat, and in a fit seat a set of it is a step that fits.
use mathlib.Core.Path.{sym, ◌∙◌}
use Rattle.seat.proofs.Named.{account-found-low}
use Rattle.seat.proofs.Asked.{set-asks}
use Rattle.seat.proofs.calls.set_account.Goals as goal

pub account-a-requires : goal.account-a-requires
account-a-requires c = (c.requires.0, account-found-low c.args.owner c.args.number c.in-Some.i c.requires.2 (sym c.in-Some.ensures))

pub append-requires : goal.append-requires
append-requires c =
    set-asks c.args.opening c.args.s.now c.requires.0 c.requires.1 (sym c.no_ticket.ensures ∙ c.if-no_ticket.false) c.head.result c.head.ensures
    c.args.owner c.args.number c.args.given (sym c.settings_fit.ensures ∙ c.if-not-settings_fit.false) c.requires.2 c.if-head-eq-STEPS.false
    c.in-Some.i (sym c.in-Some.ensures) c.account-a.result c.account-a.ensures c.set_step.result c.set_step.ensures
