-- The parts of an element as places in the sheet, which is what the code hands on: a part is shown as that part of the sheet.
use Rattle.std.specs.Prelude.{◌||◌, cond, List, ℕ, ◌+◌, leb, ltb, length, drop, Option, Some, None}
use Rattle.std.specs.Option.{option_map}
use Rattle.shape.specs.Bytes.{is_text}
use Rattle.sheet.specs.Reader.{while}
use Rattle.outline.specs.Rows.{name_end, has_ccy, ccy_at, inside_at, has_text, text_at}
use Rattle.outline.specs.declared.Parts.{Parts}
use Rattle.outline.specs.declared.Leaf.{Leaf}

-- where the text bytes from the content on end
unfoldable pub text_end : List ℕ → ℕ → ℕ
text_end s a = inside_at s a + length (while is_text (drop (inside_at s a) s))

-- of the element whose `<` stands at a; none where the sheet ends before its content
unfoldable pub parts_of : List ℕ → ℕ → Option Parts
parts_of s a =
    cond (leb (length s) a || ltb (length s) (inside_at s a)) None
    (Some (record { to = name_end s a; ccy = has_ccy s a; inside = inside_at s a; text = cond (has_text s a) (Some (text_end s a)) None }))

-- an element that holds a text: its Ccy or none, where its text begins, and the text
pub record LeafHeld : Type 0 where
  pub ccy : Option (List ℕ)
  pub inside : ℕ
  pub text : List ℕ

-- what the code's value of it shows
abbrev pub leaf_shown : Option Leaf → Option LeafHeld
leaf_shown None = None
leaf_shown (Some leaf) = Some (record { ccy = option_map (λ x. x.now) leaf.ccy; inside = leaf.inside; text = leaf.text.now })

-- the element whose `<` stands at a, where it holds a text
unfoldable pub leaf_of : List ℕ → ℕ → Option LeafHeld
leaf_of s a = option_map (λ text. record { ccy = ccy_at s a; inside = inside_at s a; text = text }) (text_at s a)
