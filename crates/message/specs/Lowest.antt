-- Refusal 8 in document 01's words, for a sheet that is well formed: unknown, 8 with 0; else 8 with the lowest number of a bad field; else the
-- message. That the answer of `Received` is this one, and that no second answer is, is the theorem of `proofs/Lowest.antt`.
use Rattle.std.specs.Prelude.{◌≡◌, Bool, false, ◌&&◌, List, ℕ, suc, ◌≤◌, ◌<◌, length, get_or, Some, None, Ok, Err}
use Rattle.outline.specs.Rows.{Row}
use Rattle.outline.specs.Paths.{standing}
use Rattle.table.specs.declared.Kind.{Kind}
use Rattle.message.specs.declared.Refusal.TheVariants.{IllFormed, BadField}
use Rattle.message.specs.Fields.{Field, no_field, fields_of}
use Rattle.message.specs.Held.{held_in, kind_of, held_of}
use Rattle.message.specs.Good.{is_good, goes_with}
use Rattle.message.specs.Message.{Answer, message_of}

-- the number of an answer in the table of refusals, and its detail: the place, the field
abbrev pub number_of : Answer → ℕ × ℕ
number_of (Err (IllFormed place)) = (7, place)
number_of (Err (BadField number)) = (8, number)
number_of (Ok message) = (0, 0)

-- by itself a field is neither missing, unless it may be, nor doubled nor ill-shaped
abbrev pub fine : List Row → Field → Bool
fine rows f = is_good f.optional f.shape f.ccy (held_in (standing f.path rows))

-- the field with the number i + 1 is bad: by itself, or by a rule between fields, which a pacs.002 alone has
pub record Bad (kind : Kind) (rows : List Row) (i : ℕ) : Type 0 where
  pub numbered : i < length (fields_of kind)
  pub faulty : (fine rows (get_or (fields_of kind) i no_field) && goes_with kind (suc i) (held_of kind rows)) ≡ false

pub data Told (rows : List Row) : Answer → Type 0 where
  unknown : kind_of rows ≡ None → Told rows (Err (BadField 0))
  bad : (kind : Kind) (i : ℕ) → kind_of rows ≡ Some kind → Bad kind rows i → ((j : ℕ) → Bad kind rows j → i ≤ j) → Told rows (Err (BadField (suc i)))
  good : (kind : Kind) → kind_of rows ≡ Some kind → ((j : ℕ) → Bad kind rows j → ⊥) → Told rows (Ok (message_of kind (held_of kind rows)))
