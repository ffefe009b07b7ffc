-- The answer is yes where all bytes are of the class, and no where one is not.
use Rattle.std.proofs.Common.{◌≡◌, true, false, rules}
use Rattle.std.proofs.lemmas.Iterator.{cases_from_all, YieldsList-from_slice}
use borrow.Author.Tests.{tests}
use Rattle.shape.specs.Patterns.{within}
use Rattle.shape.proofs.Loops.{every-decided}
use Rattle.shape.proofs.pattern.all_within.Goals as goal

pub returns : goal.returns
returns c =
    every-decided (within c.args.class) c.args.s.now 0 c.all.result
    (cases_from_all _ _ _ (λ b. within c.args.class b ≡ true) (λ b. within c.args.class b ≡ false)
    c.all.ensures.ran (YieldsList-from_slice c.args.s.now cc) (λ x q k. search (rules, tests)) (λ x q k. search (rules, tests)))
