-- Whether an array has the number says which part it is.
use Rattle.std.proofs.Common.{sym, ◌∙◌}
use borrow.Author.Tests.{ltb-true, ltb-false}
use Rattle.message.proofs.Stands.{spot-shown, none-shown}
use Rattle.message.proofs.shown.Goals as goal

pub returns-in-Some : goal.returns-in-Some
returns-in-Some c =
    let found = c.in-Some.ensures.lookup in
    c.shown_at.ensures ∙ spot-shown c.args.s.now c.args.spots.now c.args.number c.in-Some.spot.now _ found.1 (ltb-true _ _ (sym found.0))

pub returns-in-None : goal.returns-in-None
returns-in-None c = none-shown c.args.s.now c.args.spots.now c.args.number (ltb-false _ _ (sym c.in-None.ensures.lookup.0))
