-- What the survey of a sheet shows is what its rows say: the kind, and what each field holds.
-- Assumes nothing.
use Rattle.std.specs.Prelude.{Some, None}
use mathlib.Core.Path.{◌≡◌, refl, sym, ap, ◌∙◌}
use mathlib.Core.Bool.{Bool, true, false, not, cond, false≢true}
use mathlib.Core.List.{List, [], ◌∷◌, map}
use Prim.Native.Nat.{ℕ, suc, ◌<◌}
use native.Mathlib.Omega.{arith}
use lib.Dec.{eqb}
use lib.ListN.{length, get_or}
use borrow.Author.Tests.{not-true, eq-eqb, ne_eqb}
use Rattle.shape.specs.Bytes.{every}
use Rattle.shape.proofs.Tests.{and_left, and_right}
use Rattle.outline.specs.Rows.{Row, row_on, rows_of}
use Rattle.outline.specs.Paths.{same_name, same_path, standing, at_depth}
use Rattle.outline.proofs.Paths.{same-path}
use Rattle.paths.specs.Tree.{names, firsts, name_of, child_of, node_of}
use Rattle.paths.specs.Survey.{seen_in}
use Rattle.paths.proofs.Surveyed.{counted, found, bodies-counted}
use Rattle.table.specs.declared.Kind.{Kind}
use Rattle.table.specs.declared.Kind.TheVariants.{Pacs008, Camt050, Pacs028, Pacs002}
use Rattle.message.specs.Fields.{Field, pacs008_fields, camt050_fields, pacs028_fields, pacs002_fields, fields_of, body_of}
use Rattle.message.specs.Held.{Held, held_in, kind_named, only_kind, kind_of, held_of}
use Rattle.message.specs.Seen.{held_at, held_seen, bodies_seen, kind_seen}

two-not : (n k : ℕ) → k < 2 → eqb (suc (suc n)) k ≡ false
two-not n k h = ne_eqb (suc (suc n)) k (λ e. omega arith)

-- rows of which there are so many, and of which one that stands alone is this
held-there : (s : List ℕ) (path : List (List ℕ)) (a : ℕ) (rows : List Row) → (length rows ≡ 1 → rows ≡ row_on s path a ∷ []) → held_in rows ≡ held_at s (length rows) a
unfolding held_in held_at
held-there s path a [] alone = refl
held-there s path a (row ∷ []) alone = ap held_in (alone refl)
held-there s path a (row ∷ second ∷ rows) alone = rw (two-not (length rows) 0 (omega arith), two-not (length rows) 1 (omega arith))

-- every field's path has a node
on-tree : Field → Bool
on-tree f = not (eqb (node_of f.path) 0)

tested : (kind : Kind) → every on-tree (fields_of kind) ≡ true
unfolding on-tree fields_of pacs008_fields camt050_fields pacs028_fields pacs002_fields node_of child_of name_of names firsts same_name
tested Pacs008 = refl
tested Camt050 = refl
tested Pacs028 = refl
tested Pacs002 = refl

-- so has the path that names a kind, and it has two names
body-tested : (kind : Kind) → (length (body_of kind) ≡ 2) × (node_of (body_of kind) ≡ 0 → ⊥)
unfolding body_of node_of child_of name_of names firsts same_name
body-tested Pacs008 = (refl, λ z. omega arith)
body-tested Camt050 = (refl, λ z. omega arith)
body-tested Pacs028 = (refl, λ z. omega arith)
body-tested Pacs002 = (refl, λ z. omega arith)

map_same : (test : Field → Bool) (f g : Field → Held) → ((x : Field) → test x ≡ true → f x ≡ g x)
    → (fields : List Field) → every test fields ≡ true → map f fields ≡ map g fields
map_same test f g same [] e = refl
map_same test f g same (x ∷ fields) e =
    cc (same x (and_left (test x) (every test fields) e), map_same test f g same fields (and_right (test x) (every test fields) e))

-- rows of a path are rows of its depth
filtered : (path : List (List ℕ)) (rows : List Row) → standing path (at_depth (length path) rows) ≡ standing path rows
unfolding standing at_depth
filtered path [] = refl
filtered path (row ∷ rows) = go (same_path row.path path) refl (eqb (length row.path) (length path)) refl (filtered path rows)
  where
    go : (t : Bool) → same_path row.path path ≡ t → (u : Bool) → eqb (length row.path) (length path) ≡ u
        → standing path (at_depth (length path) rows) ≡ standing path rows
        → standing path (cond u (row ∷ at_depth (length path) rows) (at_depth (length path) rows)) ≡ cond t (row ∷ standing path rows) (standing path rows)
    go t e true f rest = rw (e, rest)
    go true e false f rest = absurd (false≢true (sym f ∙ eq-eqb (length row.path) (length path) (ap length (same-path row.path path e))))
    go false e false f rest = rest

-- one row stands at a path or does not
alone-counted : (path : List (List ℕ)) (row : Row) → eqb (length (standing path (row ∷ []))) 1 ≡ same_path row.path path
unfolding standing
alone-counted path row = go (same_path row.path path)
  where
    go : (t : Bool) → eqb (length (cond {A = List Row} t (row ∷ []) [])) 1 ≡ t
    go true = refl
    go false = refl

-- the kind, by how many rows there are below the outer one and how many of them stand at each kind's path
kind-counted : (rows : List Row) → only_kind rows
    ≡ cond (eqb (length rows) 1)
    (cond (eqb (length (standing (body_of Pacs008) rows)) 1) (Some Pacs008)
    (cond (eqb (length (standing (body_of Camt050) rows)) 1) (Some Camt050)
    (cond (eqb (length (standing (body_of Pacs028) rows)) 1) (Some Pacs028)
    (cond (eqb (length (standing (body_of Pacs002) rows)) 1) (Some Pacs002)
    None))))
    None
unfolding only_kind kind_named
kind-counted [] = refl
kind-counted (row ∷ []) =
    rw (alone-counted (body_of Pacs008) row, alone-counted (body_of Camt050) row, alone-counted (body_of Pacs028) row, alone-counted (body_of Pacs002) row)
kind-counted (row ∷ second ∷ rows) = rw (two-not (length rows) 1 (omega arith))

module _ (s : List ℕ) (n : ℕ) (starts depths : List ℕ) where
  abbrev rows : List Row
  rows = rows_of s n starts depths

  held-is : (path : List (List ℕ)) → (node_of path ≡ 0 → ⊥)
      → held_in (standing path rows)
      ≡ held_at s (get_or (seen_in s n starts depths).counts (node_of path) 0) (get_or (seen_in s n starts depths).starts (node_of path) 0)
  held-is path somewhere =
      rw (counted s n starts depths path somewhere)
      (held-there s path _ (standing path rows) (found s n starts depths path somewhere))

  -- what the fields of a kind hold
  pub held-seen : (kind : Kind) → held_of kind rows ≡ held_seen s kind (seen_in s n starts depths).counts (seen_in s n starts depths).starts
  unfolding held_of held_seen on-tree
  held-seen kind =
      map_same on-tree _ _
      (λ f e. held-is f.path (λ z. false≢true (sym (not-true _ e) ∙ eq-eqb (node_of f.path) 0 z)))
      (fields_of kind) (tested kind)

  body-counted : (kind : Kind) → bodies_seen kind (seen_in s n starts depths).counts ≡ length (standing (body_of kind) (at_depth 2 rows))
  body-counted kind =
      rw (counted s n starts depths (body_of kind) (body-tested kind).1, ← (body-tested kind).0)
      (ap length (sym (filtered (body_of kind) rows)))

  -- the kind
  pub kind-seen : kind_of rows ≡ kind_seen (seen_in s n starts depths).bodies (seen_in s n starts depths).counts
  unfolding kind_of kind_seen
  kind-seen =
      kind-counted (at_depth 2 rows)
      ∙ rw (bodies-counted s n starts depths, body-counted Pacs008, body-counted Camt050, body-counted Pacs028, body-counted Pacs002)
