-- The library's search asks whether an entry of the order equals the number.
use mathlib.Core.Path.{◌∙◌}
use Rattle.table.specs.Checks.{order_of, runs}
use Rattle.table.proofs.Lines.{is-in-any}
use Rattle.table.proofs.in_order.Goals as goal

pub returns : goal.returns
unfolding runs
returns c = c.contains.ensures.value ∙ rw c.order_of.ensures (is-in-any c.args.number (order_of c.args.kind))
