-- What stands at a path that is counted so often and starts there, and what the one element there that holds a text says of it.
-- Assumes nothing.
use Rattle.std.specs.Prelude.{Option, Some, None}
use Rattle.std.specs.Option.{option_map, unwrap_or}
use Rattle.std.proofs.Common.{Bor}
use mathlib.Core.Path.{◌≡◌, refl, sym, ap, ◌∙◌}
use mathlib.Core.Bool.{Bool, true, false, ◌&&◌, cond}
use mathlib.Core.List.{List, []}
use Prim.Native.Nat.{ℕ}
use lib.Dec.{eqb}
use lib.ListN.{length}
use borrow.Author.Tests.{ne_eqb}
use Rattle.shape.proofs.Tests.{and-false}
use Rattle.outline.specs.Rows.{ccy_at, inside_at, text_at}
use Rattle.outline.specs.Places.{LeafHeld, leaf_of}
use Rattle.outline.specs.Paths.{characters_of}
use Rattle.message.specs.declared.kinds.Shape.{Shape}
use Rattle.message.specs.declared.kinds.Ccy.{Ccy}
use Rattle.message.specs.declared.found.Spot.{Spot}
use Rattle.message.specs.Held.{Held, missing, once, doubled}
use Rattle.message.specs.Good.{has_shape, ccy_fits, text_fits, is_good}
use Rattle.message.specs.Message.{text_in, ccy_in, start_in, length_in, spot_in}
use Rattle.message.specs.Received.{no_spot}
use Rattle.message.specs.Seen.{held_at, leaf_held}

module _ (s : List ℕ) (count start : ℕ) where
  -- what is the same of nothing and of two elements is so of all that does not stand once
  pub elsewhere : {A : Type 0} (f : Held → A) (x : A) → x ≡ f missing → x ≡ f doubled → (count ≡ 1 → ⊥) → x ≡ f (held_at s count start)
  unfolding held_at
  elsewhere f x m d q = rw (ne_eqb count 1 q) (pick (eqb count 0))
    where
      pick : (t : Bool) → x ≡ f (cond t missing doubled)
      pick true = m
      pick false = d

  -- so it is no leaf
  pub leaf-elsewhere : (count ≡ 1 → ⊥) → None ≡ leaf_held (held_at s count start)
  leaf-elsewhere q = elsewhere leaf_held None refl refl q

  -- what stands once is the element there
  pub leaf-once : count ≡ 1 → leaf_of s start ≡ leaf_held (held_at s count start)
  unfolding held_at leaf_of
  leaf-once e = rw e

  pub good-missing : (optional : Bool) (shape : Shape) (ccy : Ccy) → count ≡ 0 → optional ≡ is_good optional shape ccy (held_at s count start)
  unfolding held_at is_good
  good-missing optional shape ccy e = rw e

-- the places of the text, the text and the Ccy, by the leaf
spot_of : Option LeafHeld → Spot
spot_of None = no_spot
spot_of (Some leaf) = record { start = leaf.inside; length = length leaf.text }

spot-told : (h : Held) → spot_of (leaf_held h) ≡ spot_in h
unfolding start_in length_in spot_of
spot-told missing = refl
spot-told (once ccy inside None) = refl
spot-told (once ccy inside (Some text)) = refl
spot-told doubled = refl

text_of : Option LeafHeld → List ℕ
text_of None = []
text_of (Some leaf) = leaf.text

text-told : (h : Held) → text_of (leaf_held h) ≡ text_in h
unfolding text_in characters_of text_of
text-told missing = refl
text-told (once ccy inside None) = refl
text-told (once ccy inside (Some text)) = refl
text-told doubled = refl

abbrev ccy_or : Option (List ℕ) → List ℕ
ccy_or None = []
ccy_or (Some ccy) = ccy

ccy_of : Option LeafHeld → List ℕ
ccy_of None = []
ccy_of (Some leaf) = ccy_or leaf.ccy

ccy-told : (h : Held) → ccy_of (leaf_held h) ≡ ccy_in h
unfolding ccy_in ccy_of
ccy-told missing = refl
ccy-told (once ccy inside None) = refl
ccy-told (once None inside (Some text)) = refl
ccy-told (once (Some ccy) inside (Some text)) = refl
ccy-told doubled = refl

module _ (h : Held) where
  pub spot-none : None ≡ leaf_held h → no_spot ≡ spot_in h
  unfolding spot_of
  spot-none e = ap spot_of e ∙ spot-told h

  pub spot-some : (leaf : LeafHeld) → Some leaf ≡ leaf_held h → record { start = leaf.inside; length = length leaf.text } ≡ spot_in h
  unfolding spot_of
  spot-some leaf e = ap spot_of e ∙ spot-told h

  pub text-none : None ≡ leaf_held h → [] ≡ text_in h
  unfolding text_of
  text-none e = ap text_of e ∙ text-told h

  pub text-some : (leaf : LeafHeld) → Some leaf ≡ leaf_held h → leaf.text ≡ text_in h
  unfolding text_of
  text-some leaf e = ap text_of e ∙ text-told h

  pub ccy-none : None ≡ leaf_held h → [] ≡ ccy_in h
  unfolding ccy_of
  ccy-none e = ap ccy_of e ∙ ccy-told h

  pub ccy-some : (leaf : LeafHeld) → Some leaf ≡ leaf_held h → ccy_or leaf.ccy ≡ ccy_in h
  unfolding ccy_of
  ccy-some leaf e = ap ccy_of e ∙ ccy-told h

-- where the path stands, the field is good as the leaf says
module _ (shape : Shape) (ccy : Ccy) where
  good_of : Option LeafHeld → Bool
  good_of None = false
  good_of (Some leaf) = ccy_fits ccy leaf.ccy && has_shape shape leaf.text

  good-told : (optional t : Bool) (given : Option (List ℕ)) (inside : ℕ) (text : Option (List ℕ))
      → good_of (leaf_held (cond t (once given inside text) doubled)) ≡ is_good optional shape ccy (cond t (once given inside text) doubled)
  unfolding is_good text_fits characters_of good_of
  good-told optional true given inside None = sym (and-false (ccy_fits ccy given) false refl)
  good-told optional true given inside (Some text) = refl
  good-told optional false given inside text = refl

  module _ (s : List ℕ) (count start : ℕ) (there : count ≡ 0 → ⊥) (optional : Bool) where
    pub good-none : None ≡ leaf_held (held_at s count start) → false ≡ is_good optional shape ccy (held_at s count start)
    unfolding held_at good_of
    good-none = rw (ne_eqb count 0 there) (λ e. ap good_of e ∙ good-told optional (eqb count 1) (ccy_at s start) (inside_at s start) (text_at s start))

    pub good-some : (leaf : LeafHeld) → Some leaf ≡ leaf_held (held_at s count start)
        → (ccy_fits ccy leaf.ccy && has_shape shape leaf.text) ≡ is_good optional shape ccy (held_at s count start)
    unfolding held_at good_of
    good-some leaf = rw (ne_eqb count 0 there) (λ e. ap good_of e ∙ good-told optional (eqb count 1) (ccy_at s start) (inside_at s start) (text_at s start))

-- the Ccy that is handed back where there is one, and else a text of no bytes
pub ccy-handed : (ccy : Option (Bor (List ℕ))) (none-there : Bor (List ℕ)) → none-there.now ≡ []
    → (unwrap_or ccy none-there).now ≡ ccy_or (option_map (λ x. x.now) ccy)
ccy-handed None none-there e = e
ccy-handed (Some ccy) none-there e = refl
