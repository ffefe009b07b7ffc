-- An array that is filled one place after the other: after its first place the spots so far, then those of no text.
-- Assumes nothing.
use mathlib.Core.Path.{◌≡◌, refl, sym, ap, ◌∙◌}
use mathlib.Core.List.{List, [], ◌∷◌, ◌++◌, map}
use Prim.Native.Nat.{ℕ, zero, suc, ◌+◌, ◌-◌, ◌<◌}
use native.Mathlib.Omega.{arith}
use native.Mathlib.Numerals.{add-one}
use lib.ListN.{length, get_or, set, take, replicate, length-map}
use lib.Seq.{take_all}
use Rattle.table.specs.declared.Kind.{Kind}
use Rattle.message.specs.declared.found.Spot.{Spot}
use Rattle.message.specs.declared.kinds.Entry.{Entry}
use Rattle.message.specs.Fields.{no_field, fields_of, fields_most}
use Rattle.message.specs.Held.{missing}
use Rattle.message.specs.Message.{spot_in}
use Rattle.message.specs.Received.{no_spot, by_number}
use Rattle.message.specs.Seen.{entry_of, held_at, held_seen}
use Rattle.message.proofs.Turns.{seen_at, seen-held}

pub filled : List Spot → ℕ → List Spot
filled spots k = no_spot ∷ (take k spots ++ replicate (fields_most - k) no_spot)

pub filled-begin : (spots : List Spot) → replicate (fields_most + 1) no_spot ≡ filled spots 0
unfolding filled
filled-begin spots = refl

store : (spots : List Spot) (k n : ℕ) → k < length spots → k < n
    → set (take k spots ++ replicate (n - k) no_spot) k (get_or spots k no_spot) ≡ take (suc k) spots ++ replicate (n - suc k) no_spot
store [] k n h m = absurd (omega arith)
store (spot ∷ spots) zero n h m =
    let e : n - 0 ≡ suc (n - 1) = omega arith in
    rw e
store (spot ∷ spots) (suc k) n h m =
    let e : n - suc k ≡ (n - 1) - k = omega arith in
    let f : n - suc (suc k) ≡ (n - 1) - suc k = omega arith in
    rw (e, f) (ap (λ (l : List Spot). spot ∷ l) (store spots k (n - 1) (omega arith) (omega arith)))

-- the next spot is stored
pub filled-goes : (spots : List Spot) (k : ℕ) (spot : Spot) → k < length spots → k < fields_most → spot ≡ get_or spots k no_spot
    → set (filled spots k) (k + 1) spot ≡ filled spots (k + 1)
unfolding filled
filled-goes spots k spot h m e = rw (e, add-one k) (ap (λ (l : List Spot). no_spot ∷ l) (store spots k fields_most h m))

pub filled-ends : (spots : List Spot) (k : ℕ) → k ≡ length spots → filled spots k ≡ by_number spots
unfolding filled
filled-ends spots k e = rw (e, take_all (length spots) spots (omega arith))

-- what a map has at a place
at_map : {A : Type 0} {B : Type 0} (f : A → B) (l : List A) (k : ℕ) (d : A) (z : B) → k < length l → get_or (map f l) k z ≡ f (get_or l k d)
at_map f [] k d z h = absurd (omega arith)
at_map f (x ∷ l) zero d z h = refl
at_map f (x ∷ l) (suc k) d z h = at_map f l k d z (omega arith)

module _ (s : List ℕ) (kind : Kind) (counts starts : List ℕ) where
  pub held-count : length (held_seen s kind counts starts) ≡ length (fields_of kind)
  held-count = rw (seen-held s kind counts starts) (length-map (fields_of kind) (seen_at s counts starts))

  pub spots-count : length (map spot_in (held_seen s kind counts starts)) ≡ length (fields_of kind)
  spots-count = length-map (held_seen s kind counts starts) spot_in ∙ held-count

  -- what the k-th field holds
  module _ (k : ℕ) (e : Entry) (here : e ≡ entry_of (get_or (fields_of kind) k no_field)) (h : k < length (fields_of kind)) where
    pub held-here : held_at s (get_or counts e.node 0) (get_or starts e.node 0) ≡ get_or (held_seen s kind counts starts) k missing
    unfolding entry_of
    held-here = rw here (sym (rw (seen-held s kind counts starts) (at_map (seen_at s counts starts) (fields_of kind) k no_field missing h)))

    spot-here : spot_in (held_at s (get_or counts e.node 0) (get_or starts e.node 0)) ≡ get_or (map spot_in (held_seen s kind counts starts)) k no_spot
    spot-here =
        let l : k < length (held_seen s kind counts starts) = omega (arith, held-count) in
        ap spot_in held-here ∙ sym (at_map spot_in (held_seen s kind counts starts) k missing no_spot l)

    -- so the next spot is that of the k-th field
    pub filled_next : k < fields_most → (spot : Spot) → spot ≡ spot_in (held_at s (get_or counts e.node 0) (get_or starts e.node 0))
        → set (filled (map spot_in (held_seen s kind counts starts)) k) (k + 1) spot ≡ filled (map spot_in (held_seen s kind counts starts)) (k + 1)
    filled_next m spot is = filled-goes (map spot_in (held_seen s kind counts starts)) k spot (omega (arith, spots-count)) m (is ∙ spot-here)
