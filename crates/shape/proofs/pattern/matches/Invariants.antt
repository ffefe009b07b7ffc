-- What is left of the pattern and of the text fits as the whole does.
use Rattle.std.proofs.Common.{◌≡◌, length}
use Rattle.shape.specs.Patterns.{fits}
use Rattle.shape.proofs.pattern.matches.Given as goal

abbrev pub invariant-loop-class : goal.invariant-loop-class
invariant-loop-class l =
    (length l.class-iterator.a.rest.now ≡ length l.class-iterator.b.rest.now)
    × (fits l.fn.pattern l.fn.s ≡ fits l.class-iterator.a.rest.now l.class-iterator.b.rest.now)
