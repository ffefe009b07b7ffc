-- What the refusal of a sheet prints.
use Rattle.std.specs.Prelude.{List, ℕ, ◌++◌, decimal}
use Rattle.shape.specs.Text.{bytes}
use Rattle.sheet.specs.declared.parts.Refused.{Refused}

abbrev pub words_of : Refused → List ℕ
words_of r = bytes "refused at " ++ decimal r.place
