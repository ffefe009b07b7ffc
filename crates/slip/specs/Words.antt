-- What the refusal of a slip prints.
use Rattle.std.specs.Prelude.{List, ℕ}
use Rattle.shape.specs.Text.{bytes}
use Rattle.slip.specs.declared.NoSlip.{NoSlip}

abbrev pub words_of : NoSlip → List ℕ
words_of _ = bytes "no slip"
