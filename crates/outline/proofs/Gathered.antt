-- The places that the code gathers are the definitions'.
-- Assumes nothing.
use mathlib.Core.Path.{◌≡◌, sym, ap, ◌∙◌}
use mathlib.Core.Bool.{Bool, true, false, cond}
use mathlib.Core.List.{List}
use Rattle.std.specs.Prelude.{Some, None}
use Prim.Native.Nat.{ℕ, ◌+◌, ◌≤◌, ◌<◌}
use native.Mathlib.Numerals.{add-one}
use mathlib.Core.Logic.{◌⊎◌, inl, inr}
use native.Mathlib.Omega.{arith}
use lib.Dec.{eqb}
use lib.ListN.{length, get_or, drop}
use borrow.Author.Tests.{le-leb, lt-leb, lt-ltb, le-ltb}
use Rattle.shape.specs.Bytes.{is_text}
use Rattle.sheet.specs.Grammar.{is_name_byte}
use Rattle.sheet.specs.Reader.{while, next_in}
use Rattle.sheet.specs.declared.reader.Ahead.{Ahead}
use Rattle.sheet.specs.declared.reader.Ahead.TheVariants.{Element, Text, Neither}
use Rattle.sheet.proofs.Aheads.{text-told, no-text-told}
use Rattle.sheet.proofs.While.{while-none}
use Rattle.outline.specs.Rows.{name_at, name_end, has_ccy, inside_at, has_text}
use Rattle.outline.specs.Places.{text_end, parts_of}

pub past_the_end : (s : List ℕ) (a : ℕ) → length s ≤ a → None ≡ parts_of s a
unfolding parts_of
past_the_end s a h = rw (le-leb (length s) a h)

module _ (s : List ℕ) (a to b inside : ℕ) (h : a < length s) (named : to ≡ a + 1 + length (while is_name_byte (drop (a + 1) s)))
    (byte : b ≡ get_or s to 0) (behind : inside ≡ to + cond (eqb b 32) 11 1) where
  to_is : to ≡ name_end s a
  unfolding name_end name_at
  to_is = named ∙ rw (add-one a)

  ccy-is : eqb b 32 ≡ has_ccy s a
  unfolding has_ccy
  ccy-is = ap (λ (x : ℕ). eqb x 32) (byte ∙ ap (λ (i : ℕ). get_or s i 0) to_is)

  inside_is : inside ≡ inside_at s a
  unfolding inside_at
  inside_is = behind ∙ rw (to_is, ccy-is)

  pub cut_off : length s < inside → None ≡ parts_of s a
  unfolding parts_of
  cut_off k = rw (lt-leb (length s) a h, ← inside_is, lt-ltb (length s) inside k)

  gathered : inside ≤ length s → (end : ℕ) (t : Bool) → end ≡ inside + length (while is_text (drop inside s)) → t ≡ is_text (get_or s inside 0)
      → Some (record { to = to; ccy = eqb b 32; inside = inside; text = cond t (Some end) None }) ≡ parts_of s a
  unfolding parts_of text_end has_text
  gathered k end t e is =
      rw (lt-leb (length s) a h, ← inside_is, le-ltb (length s) inside k, e, is, ← to_is, ← ccy-is)

  -- what stands where the content begins says whether there is a text, and where it ends
  module _ (k : inside ≤ length s) (ahead : Ahead) (is : ahead ≡ next_in s inside) where
    pub with-text : (end : ℕ) → ahead ≡ Text end → Some (record { to = to; ccy = eqb b 32; inside = inside; text = Some end }) ≡ parts_of s a
    with-text end e = let told = text-told s inside end (sym is ∙ e) in gathered k end true told.0 told.1

    pub without-text : ((end : ℕ) → ahead ≡ Text end → ⊥) → Some (record { to = to; ccy = eqb b 32; inside = inside; text = None }) ≡ parts_of s a
    without-text others =
        let None-told : false ≡ is_text (get_or s inside 0) = no-text-told s inside (λ end e. others end (is ∙ e)) in
        gathered k inside false (while-none is_text s inside (sym None-told)) None-told

-- an element, and nothing, is no text
pub no-text : (ahead : Ahead) → ((to : ℕ) × (ahead ≡ Element to)) ⊎ (ahead ≡ Neither) → (end : ℕ) → ahead ≡ Text end → ⊥
no-text ahead (inl f) end e = element-no-text f.0 end (sym f.1 ∙ e)
  where
    element-no-text : (to end : ℕ) → Element to ≡ Text end → ⊥
    element-no-text to end q = let z : ◌≡◌ {A = ℕ} 0 1 = cc in omega arith
no-text ahead (inr f) end e = neither-no-text end (sym f ∙ e)
  where
    neither-no-text : (end : ℕ) → Neither ≡ Text end → ⊥
    neither-no-text end q = let z : ◌≡◌ {A = ℕ} 0 1 = cc in omega arith
