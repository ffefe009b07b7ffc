-- In every turn the remainder carried and the characters left make a number of the same remainder as the whole text does.
use Rattle.std.proofs.Common.{◌≡◌, ◌<◌, ◌%◌}
use lib.ListN.{drop}
use Rattle.remainder.specs.Remainder.{modulus, written_all}
use Rattle.remainder.proofs.through.Given as goal

abbrev pub invariant-loop-b : goal.invariant-loop-b
invariant-loop-b l =
    (l.at.remainder < modulus)
    × (written_all l.initial.at.remainder l.fn.s % modulus ≡ written_all l.at.remainder (drop l.b-index l.fn.s) % modulus)
