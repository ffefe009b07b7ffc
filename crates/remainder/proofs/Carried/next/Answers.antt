-- A digit takes one place after the number and a letter two, and a multiple of 97 less in the number changes no remainder.
use mathlib.Core.Path.{sym, ap, ◌∙◌}
use Prim.Native.Nat.{ℕ}
use Rattle.remainder.specs.declared.Carried.{Carried}
use Rattle.remainder.proofs.Carry.{digit-next, letter-next}
use Rattle.remainder.proofs.Carried.next.Goals as goal
use Rattle.remainder.proofs.Carried.next.Goals.{then-is_digit, else-is_digit}

abbrev carried : ℕ → Carried
carried n = record { remainder = n }

pub returns : goal.returns
returns c =
    elim c.if-is_digit.branch [
      | then-is_digit w ↦
          rw (w.longer-is, w.saturating_sub.ensures)
          (ap carried (digit-next c.args.self.remainder c.args.b (sym c.is_digit.ensures ∙ w.if-is_digit.true)))
      | else-is_digit w ↦
          rw (w.longer-is, w.saturating_sub-else-is_digit.ensures)
          (ap carried (letter-next c.args.self.remainder c.args.b (sym c.is_digit.ensures ∙ w.if-is_digit.false)))
    ]
