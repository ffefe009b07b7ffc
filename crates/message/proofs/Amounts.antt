-- The number of a kind's amount, where it has one, is the number of one of its fields.
-- Assumes nothing.
use mathlib.Core.Path.{◌≡◌}
use Prim.Native.Nat.{ℕ, ◌-◌, ◌<◌}
use native.Mathlib.Omega.{arith}
use lib.ListN.{length}
use Rattle.table.specs.declared.Kind.{Kind}
use Rattle.table.specs.declared.Kind.TheVariants.{Pacs008, Camt050, Pacs028, Pacs002}
use Rattle.message.specs.Fields.{fields_of, pacs008_fields, camt050_fields, pacs028_fields, pacs002_fields, numbers_of}

pub amount-listed : (kind : Kind) (number : ℕ) → number ≡ (numbers_of kind).amount → 0 < number → number - 1 < length (fields_of kind)
unfolding numbers_of fields_of pacs008_fields camt050_fields pacs028_fields pacs002_fields
amount-listed Pacs008 number e h = omega arith
amount-listed Camt050 number e h = omega arith
amount-listed Pacs028 number e h = absurd (omega arith)
amount-listed Pacs002 number e h = absurd (omega arith)
