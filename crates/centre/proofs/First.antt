-- A table of refusals, line by line: where the test in front holds, its refusal is the answer; where it does not, the rest of the table answers.
-- A refused call leaves what came, a call that is done what it made.
-- Assumes nothing.
use mathlib.Core.Path.{◌≡◌}
use mathlib.Core.Bool.{Bool, true, false}
use mathlib.Core.List.{List, ◌∷◌}
use Rattle.centre.specs.Answers.{Told, first, is_done, behind}

module _ (t : Bool) (line : Told) (rest : List (Bool × Told)) (otherwise : Told) where
  pub first-refused : t ≡ true → first ((t, line) ∷ rest) otherwise ≡ line
  first-refused e = rw e

  pub first-passed : t ≡ false → first ((t, line) ∷ rest) otherwise ≡ first rest otherwise
  first-passed e = rw e

module _ {A : Type 0} (t : Told) (made came : A) where
  pub behind-done : is_done t ≡ true → behind t made came ≡ made
  unfolding behind
  behind-done e = rw e

  pub behind-refused : is_done t ≡ false → behind t made came ≡ came
  unfolding behind
  behind-refused e = rw e
