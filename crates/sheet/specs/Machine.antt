-- The reading of a sheet, byte by byte: one definition that can be worked out. That it is the grammar's reading is proved in `proofs/`.
-- A state knows what may follow, the names of the elements that are open, and the element list so far: how many were begun, and for each
-- where it starts (its `<`) and how deep it stands. The outer element stands at depth 1.
use Rattle.std.specs.Prelude.{Bool, true, false, not, ◌&&◌, cond, List, [], ◌∷◌, ◌++◌, ℕ, suc, ◌-◌, ltb, eqb, length, set, Option, Some, None}
use Prim.Native.Char.{code}
use Rattle.shape.specs.Text.{bytes}
use Rattle.shape.specs.Bytes.{is_letter, is_capital, is_text}
use Rattle.sheet.specs.Grammar.{name_most, text_most, depth_most, element_most, is_name_byte}

-- what was read last, and so what may follow
pub data Mode : Type 0 where
  -- nothing: the outer element's `<` must follow
  outer : Mode
  -- a `<` behind which an element must begin
  begun : Mode
  -- so much of an opening name
  naming : List ℕ → Mode
  -- a blank behind the name: this much of ` Ccy="UAH">` is still to follow, capitals as `^`
  attribute : List ℕ → Mode
  -- a whole opening tag; true where it has a Ccy
  tagged : Bool → Mode
  -- so many bytes of a text
  texting : ℕ → Mode
  -- this much of a closing tag is still to follow
  ending : List ℕ → Mode
  -- a whole child
  between : Mode
  -- a `<` behind a child: a sibling or the parent's closing tag
  turning : Mode
  -- the whole outer element
  whole : Mode

pub record State : Type 0 where
  pub mode : Mode
  pub names : List (List ℕ)
  pub count : ℕ
  pub starts : List ℕ
  pub depths : List ℕ

-- the same state in another mode
abbrev pub goes : State → Mode → State
goes st m = record { mode = m; names = st.names; count = st.count; starts = st.starts; depths = st.depths }

-- an element begins whose `<` stands right before place i; its first letter is b
abbrev pub begins : State → ℕ → ℕ → State
begins st i b = record {
  mode = naming (b ∷ []);
  names = st.names;
  count = suc st.count;
  starts = set st.starts st.count (i - 1);
  depths = set st.depths st.count (suc (length st.names));
}

-- the element that was named is open
abbrev pub opens : State → List ℕ → Mode → State
opens st name m = record { mode = m; names = name ∷ st.names; count = st.count; starts = st.starts; depths = st.depths }

-- the innermost open element, and the state once it is closed
abbrev pub innermost : List (List ℕ) → List ℕ
innermost [] = []
innermost (name ∷ names) = name

abbrev pub outside : List (List ℕ) → List (List ℕ)
outside [] = []
outside (name ∷ names) = names

abbrev pub after_closing : List (List ℕ) → Mode
after_closing [] = whole
after_closing (name ∷ names) = between

abbrev pub closes : State → State
closes st = record { mode = after_closing (outside st.names); names = outside st.names; count = st.count; starts = st.starts; depths = st.depths }

-- an element may begin here: fewer than 256 have
abbrev pub may_begin : State → Bool
may_begin st = ltb st.count element_most

-- the byte that is to follow in ` Ccy="UAH">`: `^` stands for any capital
abbrev pub is_next : ℕ → ℕ → Bool
is_next c b = cond (eqb c (code "^")) (is_capital b) (eqb b c)

-- the first state that passes its test, if one does
abbrev pub when : Bool → State → Option State → Option State
when true st other = Some st
when false st other = other

-- one byte more, at place i: the next state, or none where no well-formed sheet goes on so
unfoldable pub step : State → Mode → ℕ → ℕ → Option State
step st outer i b = when (eqb b (code "<")) (goes st begun) None
step st begun i b = when (is_letter b) (begins st i b) None
step st (naming n) i b =
    when (is_name_byte b && ltb (length n) name_most) (goes st (naming (n ++ (b ∷ []))))
    (when (eqb b (code ">")) (opens st n (tagged false))
    (when (eqb b (code " ")) (opens st n (attribute (bytes "Ccy=\"^^^\">")))
    None))
step st (attribute []) i b = None
step st (attribute (c ∷ [])) i b = when (is_next c b) (goes st (tagged true)) None
step st (attribute (c ∷ d ∷ p)) i b = when (is_next c b) (goes st (attribute (d ∷ p))) None
step st (tagged ccy) i b =
    when (is_text b) (goes st (texting 1))
    (when (eqb b (code "<") && not ccy && ltb (length st.names) depth_most && may_begin st) (goes st begun)
    None)
step st (texting k) i b =
    when (is_text b && ltb k text_most) (goes st (texting (suc k)))
    (when (eqb b (code "<")) (goes st (ending (bytes "/" ++ (innermost st.names ++ bytes ">"))))
    None)
step st (ending []) i b = None
step st (ending (c ∷ [])) i b = when (eqb b c) (closes st) None
step st (ending (c ∷ d ∷ r)) i b = when (eqb b c) (goes st (ending (d ∷ r))) None
step st between i b = when (eqb b (code "<")) (goes st turning) None
step st turning i b =
    when (eqb b (code "/")) (goes st (ending (innermost st.names ++ bytes ">")))
    (when (is_letter b && may_begin st) (begins st i b)
    None)
step st whole i b = None
