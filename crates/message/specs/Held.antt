-- What a sheet's rows say: the kind that they are, and what stands at each field's path. Document 01, "Fields".
use Rattle.std.specs.Prelude.{Bool, true, false, cond, List, [], ◌∷◌, map, ℕ, Option, Some, None}
use Rattle.outline.specs.Rows.{Row}
use Rattle.outline.specs.Paths.{same_path, standing, at_depth}
use Rattle.table.specs.declared.Kind.{Kind}
use Rattle.table.specs.declared.Kind.TheVariants.{Pacs008, Camt050, Pacs028, Pacs002}
use Rattle.message.specs.Fields.{Field, fields_of, body_of}

-- the kind that a path names
unfoldable pub kind_named : List (List ℕ) → Option Kind
kind_named path =
    cond (same_path path (body_of Pacs008)) (Some Pacs008)
    (cond (same_path path (body_of Camt050)) (Some Camt050)
    (cond (same_path path (body_of Pacs028)) (Some Pacs028)
    (cond (same_path path (body_of Pacs002)) (Some Pacs002)
    None)))

-- the outer element is Document and its only child names the kind
unfoldable pub only_kind : List Row → Option Kind
only_kind [] = None
only_kind (row ∷ []) = kind_named row.path
only_kind (row ∷ second ∷ rows) = None

unfoldable pub kind_of : List Row → Option Kind
kind_of rows = only_kind (at_depth 2 rows)

-- what stands at a field's path: nothing; one element, with its Ccy, where its content begins, and its text; or more than one
pub data Held : Type 0 where
  missing : Held
  once : Option (List ℕ) → ℕ → Option (List ℕ) → Held
  doubled : Held

unfoldable pub held_in : List Row → Held
held_in [] = missing
held_in (row ∷ []) = once row.ccy row.inside row.text
held_in (row ∷ second ∷ rows) = doubled

-- something stands there
unfoldable pub stands : Held → Bool
stands missing = false
stands (once ccy inside text) = true
stands doubled = true

-- what each field of a kind holds. Elements at no field's path are ignored
unfoldable pub held_of : Kind → List Row → List Held
held_of kind rows = map (λ (f : Field). held_in (standing f.path rows)) (fields_of kind)
