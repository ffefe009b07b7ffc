-- Going through the fields of a kind one after the other: the first bad field, by what stands at the node of each.
-- Assumes nothing.
use Rattle.std.specs.Prelude.{Some, None}
use mathlib.Core.Path.{◌≡◌, refl, ◌∙◌}
use mathlib.Core.Bool.{Bool, true, false, ◌&&◌, cond}
use mathlib.Core.List.{List, ◌∷◌, map}
use Prim.Native.Nat.{ℕ, ◌+◌, ◌≤◌, ◌<◌}
use native.Mathlib.Omega.{arith}
use native.Mathlib.Numerals.{add-one}
use borrow.Author.Tests.{ne_eqb}
use lib.ListN.{length, get_or, drop, drop_of_length-le}
use lib.Seq.{drop-cons}
use Rattle.table.specs.declared.Kind.{Kind}
use Rattle.paths.specs.Tree.{node_of}
use Rattle.message.specs.declared.kinds.Entry.{Entry}
use Rattle.message.specs.Fields.{Field, no_field, fields_of}
use Rattle.message.specs.Held.{Held}
use Rattle.message.specs.Good.{is_good, goes_with, first_bad, lowest_bad}
use Rattle.message.specs.Seen.{entry_of, held_at, held_seen, bad_number}

-- what stands at the node of a field
abbrev pub seen_at : List ℕ → List ℕ → List ℕ → Field → Held
seen_at s counts starts f = held_at s (get_or counts (node_of f.path) 0) (get_or starts (node_of f.path) 0)

pub seen-held : (s : List ℕ) (kind : Kind) (counts starts : List ℕ) → held_seen s kind counts starts ≡ map (seen_at s counts starts) (fields_of kind)
unfolding held_seen
seen-held s kind counts starts = refl

-- the first bad field from the k-th on
pub bad_from : (ℕ → Bool) → (Field → Held) → List Field → ℕ → ℕ
bad_from goes g fields k = first_bad goes (k + 1) (drop k fields) (map g (drop k fields))

abbrev good_at : (Field → Held) → Field → Bool
good_at g f = is_good f.optional f.shape f.ccy (g f)

bad-goes : (goes : ℕ → Bool) (g : Field → Held) (fields : List Field) (k : ℕ) → k < length fields
    → bad_from goes g fields k ≡ cond (good_at g (get_or fields k no_field) && goes (k + 1)) (bad_from goes g fields (k + 1)) (k + 1)
unfolding bad_from first_bad
bad-goes goes g fields k h =
    let e : drop k fields ≡ get_or fields k no_field ∷ drop (k + 1) fields = rw (add-one k) (drop-cons fields k no_field h) in
    rw (e, add-one (k + 1))

module _ (s : List ℕ) (kind : Kind) (counts starts : List ℕ) where
  abbrev pub held : List Held
  held = held_seen s kind counts starts

  -- the lowest bad field is the first from the k-th on
  abbrev pub Left : ℕ → Type 0
  Left k = lowest_bad kind held ≡ bad_from (λ (number : ℕ). goes_with kind number held) (seen_at s counts starts) (fields_of kind) k

  pub bad-begin : Left 0
  unfolding bad_from held_seen
  bad-begin = refl

  -- what is known of the k-th field once it was looked at, by itself and beside the others
  module _ (k : ℕ) (e : Entry) (good goes : Bool) (so_far : Left k) (here : e ≡ entry_of (get_or (fields_of kind) k no_field))
      (said : good ≡ is_good e.optional e.shape e.ccy (held_at s (get_or counts e.node 0) (get_or starts e.node 0)))
      (beside : goes ≡ goes_with kind (k + 1) held) (h : k < length (fields_of kind)) where
    said_of : (good && goes) ≡ (good_at (seen_at s counts starts) (get_or (fields_of kind) k no_field) && goes_with kind (k + 1) held)
    unfolding entry_of
    said_of = rw (said, beside, here)

    next : lowest_bad kind held
        ≡ cond (good && goes) (bad_from (λ (number : ℕ). goes_with kind number held) (seen_at s counts starts) (fields_of kind) (k + 1)) (k + 1)
    next = so_far ∙ bad-goes (λ (number : ℕ). goes_with kind number held) (seen_at s counts starts) (fields_of kind) k h ∙ rw (← said_of)

    pub bad-passes : (good && goes) ≡ true → Left (k + 1)
    bad-passes t = next ∙ rw t

    pub bad-stops : (good && goes) ≡ false → Some (k + 1) ≡ bad_number (lowest_bad kind held)
    bad-stops t =
        let e : lowest_bad kind held ≡ k + 1 = next ∙ rw t in
        rw (e, ne_eqb (k + 1) 0 (λ z. omega arith))

  pub bad-ends : (k : ℕ) → Left k → length (fields_of kind) ≤ k → None ≡ bad_number (lowest_bad kind held)
  unfolding bad_from first_bad
  bad-ends k so_far h =
      let e : lowest_bad kind held ≡ 0 = so_far ∙ rw (drop_of_length-le (fields_of kind) h) in
      rw e
