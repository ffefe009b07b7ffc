-- The same things said of a survey, which is what the code works on: a node's count and start instead of the rows at its path.
-- A reader need not believe this file: `receive` promises what `Received` says.
use Rattle.std.specs.Prelude.{cond, List, map, ℕ, eqb, get_or, Option, Some, None}
use Rattle.std.specs.Option.{option_map}
use Rattle.outline.specs.Rows.{ccy_at, inside_at, text_at}
use Rattle.outline.specs.Places.{LeafHeld}
use Rattle.paths.specs.Tree.{node_of}
use Rattle.table.specs.declared.Kind.{Kind}
use Rattle.table.specs.declared.Kind.TheVariants.{Pacs008, Camt050, Pacs028, Pacs002}
use Rattle.message.specs.declared.kinds.Entry.{Entry}
use Rattle.message.specs.declared.found.Found.{Found}
use Rattle.message.specs.declared.seen.Seen.{Seen}
use Rattle.message.specs.Fields.{Field, fields_of, body_of}
use Rattle.message.specs.Held.{Held, missing, once, doubled}

-- a field as the code's table has it
unfoldable pub entry_of : Field → Entry
entry_of f = record { node = node_of f.path; optional = f.optional; shape = f.shape; ccy = f.ccy }

-- what stands at a node that is counted so often and starts there
unfoldable pub held_at : List ℕ → ℕ → ℕ → Held
held_at s count start =
    cond (eqb count 0) missing
    (cond (eqb count 1) (once (ccy_at s start) (inside_at s start) (text_at s start)) doubled)

unfoldable pub held_seen : List ℕ → Kind → List ℕ → List ℕ → List Held
held_seen s kind counts starts =
    map (λ (f : Field). held_at s (get_or counts (node_of f.path) 0) (get_or starts (node_of f.path) 0)) (fields_of kind)

-- what is found at the path of a field, and what the fields hold, by the code's values
abbrev pub held_found : Found → Held
held_found found = held_at found.sheet.now found.count found.start

abbrev pub held_by : Seen → List Held
held_by seen = held_seen seen.sheet.now seen.kind seen.counts.now seen.starts.now

-- the one element there that holds a text
abbrev pub leaf_held : Held → Option LeafHeld
leaf_held missing = None
leaf_held (once ccy inside text) = option_map (λ t. record { ccy = ccy; inside = inside; text = t }) text
leaf_held doubled = None

-- the number of a bad field, where there is one: 0 says that there is none
abbrev pub bad_number : ℕ → Option ℕ
bad_number number = cond (eqb number 0) None (Some number)

-- how often the path that names a kind is counted
abbrev pub bodies_seen : Kind → List ℕ → ℕ
bodies_seen kind counts = get_or counts (node_of (body_of kind)) 0

unfoldable pub kind_seen : ℕ → List ℕ → Option Kind
kind_seen bodies counts =
    cond (eqb bodies 1)
    (cond (eqb (bodies_seen Pacs008 counts) 1) (Some Pacs008)
    (cond (eqb (bodies_seen Camt050 counts) 1) (Some Camt050)
    (cond (eqb (bodies_seen Pacs028 counts) 1) (Some Pacs028)
    (cond (eqb (bodies_seen Pacs002 counts) 1) (Some Pacs002)
    None))))
    None
