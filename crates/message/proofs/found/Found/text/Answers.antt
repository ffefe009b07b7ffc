use Rattle.message.specs.Seen.{held_found}
use Rattle.message.proofs.Held.{text-none, text-some}
use Rattle.message.proofs.found.Found.text.Goals as goal

pub returns-in-Some : goal.returns-in-Some
returns-in-Some c = text-some (held_found c.args.self) _ c.in-Some.ensures

pub returns-in-None : goal.returns-in-None
returns-in-None c = text-none (held_found c.args.self) c.in-None.ensures
