-- The sheet of document 01, "The sheet", as trees: what an element is, how it is written, which trees are good.
-- A sheet is well formed where it is what a good tree is written as; a text is viable where some well-formed sheet begins with it.
use Rattle.std.specs.Prelude.{◌≡◌, Bool, true, false, ◌&&◌, ◌||◌, List, [], ◌∷◌, ◌++◌, ℕ, suc, ◌+◌, ◌-◌, ◌≤◌, max, leb, length, replicate, Option, Some, None}
use Rattle.shape.specs.Text.{bytes}
use Rattle.shape.specs.Bytes.{every, is_digit, is_letter, is_text}
use Rattle.shape.specs.Patterns.{fits, currency_pattern}

-- An element has a name and holds a text, perhaps with a Ccy, or one or more elements.
mutual
  pub data Element : Type 0 where
    leaf : List ℕ → Option (List ℕ) → List ℕ → Element
    parent : List ℕ → Elements → Element

  pub data Elements : Type 0 where
    one : Element → Elements
    more : Element → Elements → Elements

-- `<Name>`, with its Ccy where it has one, and `</Name>`
abbrev pub opening : List ℕ → Option (List ℕ) → List ℕ
opening name None = bytes "<" ++ (name ++ bytes ">")
opening name (Some ccy) = bytes "<" ++ (name ++ (bytes " Ccy=\"" ++ (ccy ++ bytes "\">")))

abbrev pub closing : List ℕ → List ℕ
closing name = bytes "</" ++ (name ++ bytes ">")

-- what a tree is written as
unfoldable mutual
  pub render : Element → List ℕ
  render (leaf name ccy text) = opening name ccy ++ (text ++ closing name)
  render (parent name es) = opening name None ++ (render_all es ++ closing name)

  pub render_all : Elements → List ℕ
  render_all (one e) = render e
  render_all (more e es) = render e ++ render_all es

-- how many elements a tree has, and how deep they nest
unfoldable mutual
  pub count_of : Element → ℕ
  count_of (leaf name ccy text) = 1
  count_of (parent name es) = suc (count_all es)

  pub count_all : Elements → ℕ
  count_all (one e) = count_of e
  count_all (more e es) = count_of e + count_all es

unfoldable mutual
  pub depth_of : Element → ℕ
  depth_of (leaf name ccy text) = 1
  depth_of (parent name es) = suc (depth_all es)

  pub depth_all : Elements → ℕ
  depth_all (one e) = depth_of e
  depth_all (more e es) = max (depth_of e) (depth_all es)

-- where each element of a tree starts, in the sheet's order, when the tree is written from place i on; and how deep each stands
unfoldable mutual
  pub starts_from : Element → ℕ → List ℕ
  starts_from (leaf name ccy text) i = i ∷ []
  starts_from (parent name es) i = i ∷ starts_all es (i + length (opening name None))

  pub starts_all : Elements → ℕ → List ℕ
  starts_all (one e) i = starts_from e i
  starts_all (more e es) i = starts_from e i ++ starts_all es (i + length (render e))

unfoldable mutual
  pub depths_from : Element → ℕ → List ℕ
  depths_from (leaf name ccy text) d = d ∷ []
  depths_from (parent name es) d = d ∷ depths_all es (suc d)

  pub depths_all : Elements → ℕ → List ℕ
  depths_all (one e) d = depths_from e d
  depths_all (more e es) d = depths_from e d ++ depths_all es d

-- limits
abbrev pub name_most : ℕ
name_most = 35

abbrev pub text_most : ℕ
text_most = 140

abbrev pub depth_most : ℕ
depth_most = 12

abbrev pub element_most : ℕ
element_most = 256

abbrev pub sheet_most : ℕ
sheet_most = 8192

-- a list of 256 places that begins with these and is empty behind them
abbrev pub placed : List ℕ → List ℕ
placed xs = xs ++ replicate (element_most - length xs) 0

-- a byte of a name
unfoldable pub is_name_byte : ℕ → Bool
is_name_byte b = is_letter b || is_digit b

-- 1 to 35 letters or digits, first a letter
unfoldable pub is_name : List ℕ → Bool
is_name [] = false
is_name (b ∷ s) = is_letter b && every is_name_byte s && leb (length (b ∷ s)) name_most

-- three capitals, where a Ccy is given
unfoldable pub is_ccy : Option (List ℕ) → Bool
is_ccy None = true
is_ccy (Some ccy) = fits currency_pattern ccy

-- 1 to 140 bytes of a text
unfoldable pub is_content : List ℕ → Bool
is_content s = leb 1 (length s) && leb (length s) text_most && every is_text s

-- the parts of a tree are good: names, Ccy and texts
unfoldable mutual
  pub good_parts : Element → Bool
  good_parts (leaf name ccy text) = is_name name && is_ccy ccy && is_content text
  good_parts (parent name es) = is_name name && good_all es

  pub good_all : Elements → Bool
  good_all (one e) = good_parts e
  good_all (more e es) = good_parts e && good_all es

-- a good tree: its parts are, it nests at most 12 deep and has at most 256 elements
pub record Good (e : Element) : Type 0 where
  pub parts : good_parts e ≡ true
  pub shallow : depth_of e ≤ depth_most
  pub few : count_of e ≤ element_most

-- the sheet is what a good tree is written as
pub record WellFormed (s : List ℕ) : Type 0 where
  pub tree : Element
  pub good : Good tree
  pub written : s ≡ render tree

-- some well-formed sheet begins with p
pub record Viable (p : List ℕ) : Type 0 where
  pub rest : List ℕ
  pub whole : WellFormed (p ++ rest)
