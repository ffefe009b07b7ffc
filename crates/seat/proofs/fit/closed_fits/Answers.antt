-- A closed seat has only zeros after its first number.
use Rattle.std.proofs.Common.{◌≡◌, ◌-◌, true, false, rules, length, take, drop, get_or}
use Rattle.std.proofs.lemmas.Iterator.{cases_from_all, YieldsList-from_slice}
use mathlib.Core.Path.{sym, ap, ◌∙◌}
use borrow.Author.Tests.{tests, lt-leb}
use Rattle.shape.specs.Bytes.{every}
use Rattle.slip.specs.Meaning.{openings}
use Rattle.shape.proofs.Loops.{every-decided}
use Rattle.seat.proofs.Compared.{is_zero, rest-whole, closed-high, closed-by}
use Rattle.seat.proofs.fit.closed_fits.Goals as goal

pub returns-then-s-le-OPENINGS : goal.returns-then-s-le-OPENINGS
returns-then-s-le-OPENINGS c =
    closed-by c.args.s.now c.all.result c.requires c.if-s-le-OPENINGS.true
    (ap (every is_zero) (sym (rest-whole c.args.s.now))
    ∙ sym (every-decided is_zero (take (length c.args.s.now - 1) (drop 1 c.args.s.now)) 0 c.all.result
    (cases_from_all _ _ _ (λ n. is_zero n ≡ true) (λ n. is_zero n ≡ false)
    c.all.ensures.ran (YieldsList-from_slice (take (length c.args.s.now - 1) (drop 1 c.args.s.now)) cc)
    (λ x q k. search (rules, tests)) (λ x q k. search (rules, tests)))))

pub returns-else-s-le-OPENINGS : goal.returns-else-s-le-OPENINGS
returns-else-s-le-OPENINGS c =
    lt-leb (get_or c.args.s.now 0 0) openings c.if-s-le-OPENINGS.false ∙ closed-high c.args.s.now c.if-s-le-OPENINGS.false
