-- The names of the kinds of messages.
use Rattle.std.specs.Prelude.{List, ℕ}
use Rattle.shape.specs.Text.{bytes}
use Rattle.table.specs.declared.Kind.{Kind}
use Rattle.table.specs.declared.Kind.TheVariants.{Pacs008, Camt050, Pacs028, Pacs002}

abbrev pub name_of : Kind → List ℕ
name_of Pacs008 = bytes "pacs.008"
name_of Camt050 = bytes "camt.050"
name_of Pacs028 = bytes "pacs.028"
name_of Pacs002 = bytes "pacs.002"
