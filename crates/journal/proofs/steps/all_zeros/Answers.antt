-- The answer is yes where all bytes are zeros, and no where one is not.
use Rattle.std.proofs.Common.{◌≡◌, true, false, rules}
use Rattle.std.proofs.lemmas.Iterator.{cases_from_all, YieldsList-from_slice}
use borrow.Author.Tests.{tests}
use Rattle.shape.proofs.Loops.{every-decided}
use Rattle.journal.proofs.StoredLaws.{is_zero}
use Rattle.journal.proofs.steps.all_zeros.Goals as goal

pub returns : goal.returns
returns c =
    every-decided is_zero c.args.s.now 0 c.all.result
    (cases_from_all _ _ _ (λ b. is_zero b ≡ true) (λ b. is_zero b ≡ false)
    c.all.ensures.ran (YieldsList-from_slice c.args.s.now cc) (λ x q k. search (rules, tests)) (λ x q k. search (rules, tests)))
