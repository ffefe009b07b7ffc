-- The answer is yes where all bytes are digits, and no where one is not.
use Rattle.std.proofs.Common.{◌≡◌, true, false, rules}
use Rattle.std.proofs.lemmas.Iterator.{cases_from_all, YieldsList-from_slice}
use borrow.Author.Tests.{tests}
use Rattle.shape.proofs.Loops.{every-decided}
use Rattle.class.specs.Digits.{is_hex_digit}
use Rattle.class.proofs.digits.all_digits.Goals as goal

pub returns : goal.returns
returns c =
    every-decided is_hex_digit c.args.s.now 0 c.all.result
    (cases_from_all _ _ _ (λ b. is_hex_digit b ≡ true) (λ b. is_hex_digit b ≡ false)
    c.all.ensures.ran (YieldsList-from_slice c.args.s.now cc) (λ x q k. search (rules, tests)) (λ x q k. search (rules, tests)))
