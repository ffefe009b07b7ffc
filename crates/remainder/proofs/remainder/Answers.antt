-- What stands after the first four characters and then those four write the whole number, and its remainder is carried through both.
use mathlib.Core.Path.{sym, ◌∙◌}
use native.Mathlib.Omega.{arith}
use Rattle.remainder.proofs.Carry.{none-of-short, none-of-other, of_plain}
use Rattle.remainder.proofs.remainder.Goals as goal
use Rattle.remainder.proofs.remainder.Goals.{then-s-lt-FRONT_LONG-via-then-s-lt-FRONT_LONG, then-s-lt-FRONT_LONG-via-else-s-lt-FRONT_LONG+then-not-all_within}

pub returns-then-s-lt-FRONT_LONG : goal.returns-then-s-lt-FRONT_LONG
returns-then-s-lt-FRONT_LONG c =
    elim c.then-s-lt-FRONT_LONG.branch [
      | then-s-lt-FRONT_LONG-via-then-s-lt-FRONT_LONG w ↦ none-of-short c.args.s.now (omega arith)
      | then-s-lt-FRONT_LONG-via-else-s-lt-FRONT_LONG+then-not-all_within w ↦
          none-of-other c.args.s.now (omega arith) (sym w.all_within.ensures ∙ w.if-not-all_within.true)
    ]

pub returns : goal.returns
returns c =
    rw (c.through-all.ensures, c.through-end.ensures, c.start.ensures)
    (of_plain c.args.s.now (omega arith) (sym c.all_within.ensures ∙ c.if-not-all_within.false))
