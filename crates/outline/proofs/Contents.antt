-- What an element holds: a text where one stands behind its tag, none where a child's `<` does.
-- Assumes nothing.
use Rattle.std.specs.Prelude.{Some, None}
use mathlib.Core.Path.{◌≡◌, refl, ap, ◌∙◌}
use mathlib.Core.Bool.{true, false}
use mathlib.Core.List.{List, [], ◌∷◌, ◌++◌, append_assoc}
use Prim.Native.Nat.{ℕ, ◌≤◌}
use native.Mathlib.Omega.{arith}
use lib.ListN.{length, get_or, drop}
use Rattle.shape.specs.Bytes.{every, is_text}
use Rattle.shape.proofs.Tests.{and_left}
use Rattle.sheet.specs.Grammar.{Element, leaf, parent, Elements, one, more, render, render_all, is_content}
use Rattle.outline.specs.Rows.{inside_at, has_text, text_at}
use Rattle.outline.proofs.Standing.{byte-there, while-stops}
use Rattle.sheet.proofs.Acceptance.Parts.{content-bytes as text-bytes, content-some as text-some}

left-no-text : is_text 60 ≡ false
unfolding is_text
left-no-text = refl

-- whether a text is held is told by the first byte of what stands behind the tag
told-by-first : (s : List ℕ) (a : ℕ) (inner : List ℕ) → drop (inside_at s a) s ≡ inner → has_text s a ≡ is_text (get_or inner 0 0)
unfolding has_text
told-by-first s a inner e = rw (byte-there s (inside_at s a), e)

text-first : (text rest : List ℕ) → every is_text text ≡ true → 1 ≤ length text → is_text (get_or (text ++ rest) 0 0) ≡ true
text-first [] rest g h = absurd (omega arith)
text-first (b ∷ t) rest g h = and_left (is_text b) (every is_text t) g

-- a text that ends at a `<` is read
pub text-read : (s : List ℕ) (a : ℕ) (text rest : List ℕ) → is_content text ≡ true → drop (inside_at s a) s ≡ text ++ (60 ∷ rest) → text_at s a ≡ Some text
unfolding text_at
text-read s a text rest g e =
    let there : has_text s a ≡ true = told-by-first s a (text ++ (60 ∷ rest)) e ∙ text-first text (60 ∷ rest) (text-bytes text g) (text-some text g) in
    rw (there, e, while-stops is_text text 60 rest (text-bytes text g) left-no-text)

-- what elements are written as begins with `<`
mutual
  unfolding render render_all

  element-first : (e : Element) (rest : List ℕ) → get_or (render e ++ rest) 0 0 ≡ 60
  element-first (leaf name None text) rest = refl
  element-first (leaf name (Some ccy) text) rest = refl
  element-first (parent name es) rest = refl

  elements-first : (es : Elements) (rest : List ℕ) → get_or (render_all es ++ rest) 0 0 ≡ 60
  elements-first (one e) rest = element-first e rest
  elements-first (more e es) rest = rw append_assoc (element-first e (render_all es ++ rest))

-- where children stand, no text is read
pub no-text-read : (s : List ℕ) (a : ℕ) (es : Elements) (rest : List ℕ) → drop (inside_at s a) s ≡ render_all es ++ rest → text_at s a ≡ None
unfolding text_at
no-text-read s a es rest e =
    let none-there : has_text s a ≡ false = told-by-first s a (render_all es ++ rest) e ∙ ap is_text (elements-first es rest) ∙ left-no-text in
    rw none-there
