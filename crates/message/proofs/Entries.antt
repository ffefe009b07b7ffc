-- Each field's entry is at its place in the code's table of its kind, and each field has a node of the tree.
-- Assumes nothing.
use mathlib.Core.Path.{◌≡◌, refl, sym, ap, subst, ◌∙◌}
use mathlib.Core.Bool.{Bool, false}
use mathlib.Core.List.{List, map}
use Prim.Native.Nat.{ℕ, ◌<◌}
use lib.Dec.{ltb}
use lib.ListN.{length, get_or, length-map, get_or-map}
use borrow.Author.Tests.{ltb-true}
use Rattle.outline.specs.Paths.{same_name}
use Rattle.paths.specs.Tree.{nodes, names, firsts, name_of, child_of, node_of}
use Rattle.table.specs.declared.Kind.{Kind}
use Rattle.table.specs.declared.Kind.TheVariants.{Pacs008, Camt050, Pacs028, Pacs002}
use Rattle.table.proofs.Lines.{each, get_d_any}
use Rattle.message.specs.declared.kinds.Shape.TheVariants.{Identifier}
use Rattle.message.specs.declared.kinds.Ccy.TheVariants.{Absent}
use Rattle.message.specs.declared.kinds.Entry.{Entry}
use Rattle.message.specs.Fields.{Field, no_field, pacs008_fields, camt050_fields, pacs028_fields, pacs002_fields, fields_of}
use Rattle.message.specs.Seen.{entry_of}

-- a computed test over the tables: each field's path has a node
has-node : Field → Bool
has-node f = ltb (node_of f.path) nodes

pub node-small : (kind : Kind) (k : ℕ) → node_of (get_or (fields_of kind) k no_field).path < nodes
unfolding fields_of pacs008_fields camt050_fields pacs028_fields pacs002_fields node_of child_of name_of names firsts same_name has-node
node-small Pacs008 k = ltb-true (node_of (get_or pacs008_fields k no_field).path) nodes (each has-node pacs008_fields no_field refl refl k)
node-small Camt050 k = ltb-true (node_of (get_or camt050_fields k no_field).path) nodes (each has-node camt050_fields no_field refl refl k)
node-small Pacs028 k = ltb-true (node_of (get_or pacs028_fields k no_field).path) nodes (each has-node pacs028_fields no_field refl refl k)
node-small Pacs002 k = ltb-true (node_of (get_or pacs002_fields k no_field).path) nodes (each has-node pacs002_fields no_field refl refl k)

-- what a table of the code gives past its end
abbrev pub no-entry : Entry
no-entry = record { node = 0; optional = false; shape = Identifier; ccy = Absent }

-- so what stands at a place of a kind's table is the field's entry, and has a node
pub record Listed (kind : Kind) (k : ℕ) (e : Entry) : Type 0 where
  pub place : k < length (fields_of kind)
  pub entry : e ≡ entry_of (get_or (fields_of kind) k no_field)
  pub node : e.node < nodes

pub listed : (kind : Kind) (table : List Entry) (k : ℕ) → table ≡ map entry_of (fields_of kind) → k < length table
    → Listed kind k (get_or table k no-entry)
unfolding entry_of
listed kind table k same h =
    let place : k < length (fields_of kind) = subst (λ (n : ℕ). k < n) (ap length same ∙ length-map (fields_of kind) entry_of) h in
    let entry : get_or table k no-entry ≡ entry_of (get_or (fields_of kind) k no_field) =
    get_d_any table k no-entry (entry_of no_field) h
    ∙ rw same (get_or-map entry_of (fields_of kind) k no_field)
    in
    record { place = place; entry = entry; node = rw entry (node-small kind k) }

-- the same of an entry that was found there, whatever a table gives past its end
pub found : (kind : Kind) (table : List Entry) (k : ℕ) (e other : Entry) → table ≡ map entry_of (fields_of kind) → k < length table
    → e ≡ get_or table k other → Listed kind k e
found kind table k e other same h here =
    subst (λ (x : Entry). Listed kind k x) (sym (here ∙ get_d_any table k other no-entry h)) (listed kind table k same h)
