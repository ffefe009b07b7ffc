-- The answer is yes where all pass, and no where one does not.
use Rattle.std.proofs.Common.{◌≡◌, leb, true, false, rules}
use Rattle.std.proofs.lemmas.Iterator.{cases_from_all, YieldsList-from_slice}
use borrow.Author.Tests.{tests}
use Rattle.directory.specs.declared.Participant.{Participant}
use Rattle.directory.specs.Directory.{code_most}
use Rattle.directory.specs.Gathering.{nobody}
use Rattle.shape.proofs.Loops.{every-decided}
use Rattle.directory.proofs.all_codes.Goals as goal

pub returns : goal.returns
returns c =
    every-decided (λ (p : Participant). leb p.code code_most) c.args.dir.now nobody c.all.result
    (cases_from_all _ _ _ (λ p. leb p.code code_most ≡ true) (λ p. leb p.code code_most ≡ false)
    c.all.ensures.ran (YieldsList-from_slice c.args.dir.now cc) (λ x q k. search (rules, tests)) (λ x q k. search (rules, tests)))
