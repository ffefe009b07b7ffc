-- Facts of the calendar that arithmetic wants.
-- Assumes nothing.
use mathlib.Core.Bool.{Bool, true, false, cond, ◌||◌}
use Prim.Native.Nat.{ℕ, ◌≤◌}
use lib.Dec.{eqb, lit≤}
use Rattle.shape.specs.Dates.{is_leap, days_in}

pub days_in-most : (y m : ℕ) → days_in y m ≤ 31
unfolding days_in
days_in-most y m = go (eqb m 2) (is_leap y) (eqb m 4 || eqb m 6 || eqb m 9 || eqb m 11)
  where
    go : (a b c : Bool) → cond a (cond b 29 28) (cond c 30 31) ≤ 31
    go true true c = lit≤ tt
    go true false c = lit≤ tt
    go false b true = lit≤ tt
    go false b false = lit≤ tt

pub ruleset days = (days_in-most)
