use Rattle.std.proofs.Common.{refl, ap, ◌∙◌}
use Rattle.message.specs.Seen.{held_found}
use Rattle.message.proofs.Held.{ccy-none, ccy-some, ccy-handed}
use Rattle.message.proofs.found.Found.ccy.Goals as goal

pub returns-in-Some : goal.returns-in-Some
returns-in-Some c =
    ap (λ x. x.now) c.unwrap_or.ensures ∙ ccy-handed c.in-Some.leaf.ccy _ refl
    ∙ ccy-some (held_found c.args.self) _ c.in-Some.ensures

pub returns-in-None : goal.returns-in-None
returns-in-None c = ccy-none (held_found c.args.self) c.in-None.ensures
