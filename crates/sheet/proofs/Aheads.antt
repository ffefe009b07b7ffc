-- What stands at a place, by the tests on its bytes.
-- Assumes nothing.
use mathlib.Core.Path.{◌≡◌, refl, sym}
use mathlib.Core.Bool.{Bool, true, false, ◌&&◌, cond}
use mathlib.Core.List.{List}
use Prim.Native.Nat.{ℕ, ◌+◌}
use native.Mathlib.Omega.{arith}
use lib.Dec.{eqb}
use lib.ListN.{length, get_or, drop}
use borrow.Author.Tests.{eq-eqb, ne_eqb}
use Rattle.shape.specs.Bytes.{is_letter, is_text}
use Rattle.sheet.specs.Grammar.{is_name_byte}
use Rattle.sheet.specs.Reader.{while, next_in}
use Rattle.sheet.specs.declared.reader.Ahead.TheVariants.{Element, Text, Neither}

module _ (s : List ℕ) (p : ℕ) where
  pub text-ahead : is_text (get_or s p 0) ≡ true → Text (p + length (while is_text (drop p s))) ≡ next_in s p
  unfolding next_in
  text-ahead t = rw t

  module _ (no_text : is_text (get_or s p 0) ≡ false) where
    pub other-ahead : (get_or s p 0 ≡ 60 → ⊥) → Neither ≡ next_in s p
    unfolding next_in
    other-ahead n = rw (no_text, ne_eqb (get_or s p 0) 60 n)

    pub no-name-ahead : get_or s p 0 ≡ 60 → is_letter (get_or s (p + 1) 0) ≡ false → Neither ≡ next_in s p
    unfolding next_in
    no-name-ahead e l = rw (no_text, eq-eqb (get_or s p 0) 60 e, l)

    pub element-ahead : get_or s p 0 ≡ 60 → is_letter (get_or s (p + 1) 0) ≡ true → Element (p + 1 + length (while is_name_byte (drop (p + 1) s))) ≡ next_in s p
    unfolding next_in
    element-ahead e l = rw (no_text, eq-eqb (get_or s p 0) 60 e, l)

  -- a text that is told ends where its bytes end; where none is told, none stands
  pub text-told : (end : ℕ) → next_in s p ≡ Text end → (end ≡ p + length (while is_text (drop p s))) × (true ≡ is_text (get_or s p 0))
  unfolding next_in
  text-told end =
      go (is_text (get_or s p 0)) (eqb (get_or s p 0) 60 && is_letter (get_or s (p + 1) 0)) (p + length (while is_text (drop p s))) (p + 1 + length (while is_name_byte (drop (p + 1) s)))
    where
      go : (t u : Bool) (x y : ℕ) → cond t (Text x) (cond u (Element y) Neither) ≡ Text end → (end ≡ x) × (true ≡ t)
      go true u x y e = (cc, refl)
      go false true x y e = absurd (let z : ◌≡◌ {A = ℕ} 0 1 = cc in omega arith)
      go false false x y e = absurd (let z : ◌≡◌ {A = ℕ} 0 1 = cc in omega arith)

  pub no-text-told : ((end : ℕ) → next_in s p ≡ Text end → ⊥) → false ≡ is_text (get_or s p 0)
  no-text-told none = go (is_text (get_or s p 0)) refl
    where
      go : (t : Bool) → is_text (get_or s p 0) ≡ t → false ≡ t
      go true e = absurd (none (p + length (while is_text (drop p s))) (sym (text-ahead e)))
      go false e = refl
