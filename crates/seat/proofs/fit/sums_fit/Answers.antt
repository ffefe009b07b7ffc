-- Each sum is one, or one of them is none.
use Rattle.std.proofs.Common.{◌≡◌, ℕ, leb, true, false, rules}
use Rattle.std.proofs.lemmas.Iterator.{cases_from_all, YieldsList-from_slice}
use borrow.Author.Tests.{tests}
use Rattle.shape.proofs.Loops.{every-decided}
use Rattle.journal.specs.Steps.{sum_most}
use Rattle.seat.proofs.fit.sums_fit.Goals as goal

pub returns : goal.returns
returns c =
    every-decided (λ (sum : ℕ). leb sum sum_most) c.args.s.now 0 c.all.result
    (cases_from_all _ _ _ (λ sum. leb sum sum_most ≡ true) (λ sum. leb sum sum_most ≡ false)
    c.all.ensures.ran (YieldsList-from_slice c.args.s.now cc) (λ x q k. search (rules, tests)) (λ x q k. search (rules, tests)))
