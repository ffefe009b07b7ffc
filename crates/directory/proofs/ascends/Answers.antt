-- The answer is yes where each record is below the next, and no where one is not.
use Rattle.std.proofs.Common.{ltb, rules}
use Rattle.std.proofs.lemmas.Fn.{always_returns_same}
use borrow.Author.Tests.{tests}
use Rattle.directory.specs.declared.Participant.{Participant}
use Rattle.directory.specs.Gathering.{nobody}
use Rattle.directory.proofs.Folds.{ascending-decided}
use Rattle.directory.proofs.ascends.Goals as goal

pub returns : goal.returns
returns c =
    ascending-decided c.args.dir.now nobody c.is_sorted_by.result
    (c.is_sorted_by.ensures.cases (λ (p q : Participant). ltb p.code q.code)
    (always_returns_same _ _ _ (λ a r f q. (search (rules, tests), search (rules, tests)))))
