use Rattle.message.specs.Seen.{held_found}
use Rattle.message.proofs.Held.{spot-none, spot-some}
use Rattle.message.proofs.found.Found.spot.Goals as goal

pub returns-in-Some : goal.returns-in-Some
returns-in-Some c = spot-some (held_found c.args.self) _ c.in-Some.ensures

pub returns-in-None : goal.returns-in-None
returns-in-None c = spot-none (held_found c.args.self) c.in-None.ensures
