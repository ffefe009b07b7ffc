-- A name against a node's line, byte after byte, and the nodes below a node, one after the other.
-- Assumes nothing.
use mathlib.Core.Path.{◌≡◌, refl, sym, ◌∙◌}
use mathlib.Core.Bool.{Bool, true, false, ◌&&◌, ◌||◌, not, true≢false, false≢true}
use mathlib.Core.List.{List, [], ◌∷◌}
use Prim.Native.Nat.{ℕ, zero, suc, ◌+◌, ◌-◌, ◌<◌, ◌≤◌}
use native.Mathlib.Omega.{arith}
use native.Mathlib.Nat.{le_of_suc-le-suc}
use native.Mathlib.Numerals.{add-one}
use lib.Dec.{eqb}
use lib.ListN.{length, get_or, drop, drop_of_length-le}
use lib.Seq.{drop-cons}
use borrow.Author.Tests.{eqb-true, eqb-false, eq-eqb, ne_eqb}
use Rattle.shape.proofs.Tests.{and-false}
use Rattle.outline.specs.Paths.{same_name}
use Rattle.paths.specs.Tree.{nodes, name_wide, names, firsts, before_blank, name_of, nowhere, named_from, child_of}
use Rattle.paths.proofs.Table.{name_end, line-long, line-ends}

-- one byte of the line and one of the name
none_before : (x b : ℕ) (l n : List ℕ) → eqb x 32 ≡ true → same_name (before_blank (x ∷ l)) (b ∷ n) ≡ false
unfolding same_name
none_before x b l n e = rw e

one-before : (x b : ℕ) (l n : List ℕ) → eqb x 32 ≡ false → same_name (before_blank (x ∷ l)) (b ∷ n) ≡ (eqb x b && same_name (before_blank l) n)
unfolding same_name
one-before x b l n e = rw e

end_before : (x : ℕ) (l : List ℕ) (t : Bool) → eqb x 32 ≡ t → same_name (before_blank (x ∷ l)) [] ≡ t
unfolding same_name
end_before x l true e = rw e
end_before x l false e = rw e

-- a name that is longer than where the line's blank stands is not the line's
too_long : (l name : List ℕ) (j : ℕ) → j < length l → get_or l j 0 ≡ 32 → j < length name → same_name (before_blank l) name ≡ false
too_long [] name j h e k = absurd (omega arith)
too_long (x ∷ l) [] j h e k = absurd (omega arith)
too_long (x ∷ l) (b ∷ name) zero h e k = none_before x b l name (eq-eqb x 32 e)
too_long (x ∷ l) (b ∷ name) (suc j) h e k = go (eqb x 32) refl (too_long l name j (le_of_suc-le-suc h) e (le_of_suc-le-suc k))
  where
    go : (t : Bool) → eqb x 32 ≡ t → same_name (before_blank l) name ≡ false → same_name (before_blank (x ∷ l)) (b ∷ name) ≡ false
    go true f r = none_before x b l name f
    go false f r = one-before x b l name f ∙ and-false (eqb x b) (same_name (before_blank l) name) r

pub name-too-long : (v : ℕ) (name : List ℕ) → v < nodes → name_wide ≤ length name → same_name (name_of v) name ≡ false
unfolding name_of
name-too-long v name h k = too_long (get_or names v []) name name_end (omega (arith, line-long v h)) (line-ends v h) (omega arith)

-- a byte that differs, or a blank, which is in no name
differs : (x b : ℕ) (l n : List ℕ) (t u : Bool) → eqb x b ≡ t → eqb b 32 ≡ u → (not t || u) ≡ true → same_name (before_blank (x ∷ l)) (b ∷ n) ≡ false
differs x b l n t u f g h = go (eqb x 32) refl t u f g h
  where
    go : (w : Bool) → eqb x 32 ≡ w → (t u : Bool) → eqb x b ≡ t → eqb b 32 ≡ u → (not t || u) ≡ true → same_name (before_blank (x ∷ l)) (b ∷ n) ≡ false
    go true e t u f g h = none_before x b l n e
    go false e false u f g h = one-before x b l n e ∙ rw f
    go false e true true f g h = absurd (eqb-false x 32 e (eqb-true x b f ∙ eqb-true b 32 g))
    go false e true false f g h = absurd (false≢true h)

agrees : (x b : ℕ) (l n : List ℕ) (t u : Bool) → eqb x b ≡ t → eqb b 32 ≡ u → (not t || u) ≡ false → same_name (before_blank (x ∷ l)) (b ∷ n) ≡ same_name (before_blank l) n
agrees x b l n false u f g h = absurd (true≢false h)
agrees x b l n true true f g h = absurd (true≢false h)
agrees x b l n true false f g h =
    one-before x b l n (ne_eqb x 32 (λ e. eqb-false b 32 g (sym (eqb-true x b f) ∙ e))) ∙ rw f

module _ (l name : List ℕ) (i : ℕ) (inside : i < length l) where
  pub name-differs : i < length name → (not (eqb (get_or l i 0) (get_or name i 0)) || eqb (get_or name i 0) 32) ≡ true
      → same_name (before_blank (drop i l)) (drop i name) ≡ false
  name-differs h e =
      rw (drop-cons l i 0 inside, drop-cons name i 0 h)
      (differs (get_or l i 0) (get_or name i 0) (drop (suc i) l) (drop (suc i) name) (eqb (get_or l i 0) (get_or name i 0)) (eqb (get_or name i 0) 32) refl refl e)

  pub name-agrees : i < length name → (not (eqb (get_or l i 0) (get_or name i 0)) || eqb (get_or name i 0) 32) ≡ false
      → same_name (before_blank (drop i l)) (drop i name) ≡ same_name (before_blank (drop (i + 1) l)) (drop (i + 1) name)
  name-agrees h e =
      rw (add-one i, drop-cons l i 0 inside, drop-cons name i 0 h)
      (agrees (get_or l i 0) (get_or name i 0) (drop (suc i) l) (drop (suc i) name) (eqb (get_or l i 0) (get_or name i 0)) (eqb (get_or name i 0) 32) refl refl e)

  pub name-ends : length name ≤ i → same_name (before_blank (drop i l)) (drop i name) ≡ eqb (get_or l i 0) 32
  name-ends h =
      rw (drop-cons l i 0 inside, drop_of_length-le name h)
      (end_before (get_or l i 0) (drop (suc i) l) (eqb (get_or l i 0) 32) refl)

-- the nodes from one on up to an end: the next has the name, or it has not and the search goes on, or there is none
module _ (v end : ℕ) (name : List ℕ) where
  pub child-here : v < end → same_name (name_of v) name ≡ true → named_from v (end - v) name ≡ v
  child-here h e = let f : end - v ≡ suc (end - suc v) = omega arith in rw (f, e)

  pub child-further : v < end → same_name (name_of v) name ≡ false → named_from v (end - v) name ≡ named_from (v + 1) (end - (v + 1)) name
  child-further h e =
      let f : end - v ≡ suc (end - suc v) = omega arith in
      rw (add-one v, f, e)

  pub child-nowhere : end ≤ v → named_from v (end - v) name ≡ nowhere
  child-nowhere h = let f : end - v ≡ 0 = omega arith in rw f

pub child-begins : (v first end : ℕ) (name : List ℕ) → end ≡ get_or firsts (v + 1) 0 → first ≡ get_or firsts v 0 → child_of v name ≡ named_from first (end - first) name
unfolding child_of
child-begins v first end name e f = rw (e, f, add-one v)
