-- What the inner functions of the reader find, said of the machine: in any surroundings, reading on from where they began is reading on
-- from where they came to, or a refusal at the place where they stopped.
use Rattle.std.specs.Prelude.{◌≡◌, Bool, true, false, ◌&&◌, List, [], ◌∷◌, ◌++◌, ℕ, suc, ◌+◌, ◌-◌, ◌≤◌, ◌<◌, ltb, length, get_or, take, drop, set, Result, Ok, Err}
use Rattle.shape.specs.Text.{bytes}
use Rattle.shape.specs.Bytes.{is_text}
use Rattle.sheet.specs.Grammar.{name_most, text_most, is_name_byte}
use Rattle.sheet.specs.Machine.{begun, naming, attribute, tagged, texting, ending, State, goes, closes, innermost}
use Rattle.sheet.specs.Answer.{Reading, refused, run}
use Rattle.sheet.specs.declared.parts.Tag.{Tag}
use Rattle.sheet.specs.declared.parts.Refused.{Refused}

-- the machine on what stands from place i on
abbrev pub run_at : List ℕ → State → ℕ → Reading
run_at s st i = run st i (drop i s)

-- the bytes from one place to another
abbrev pub part_of : List ℕ → ℕ → ℕ → List ℕ
part_of s from to = take (to - from) (drop from s)

-- a name from `from` on ends at r: the machine goes that far, and no byte more belongs to the name
pub record NameRead (s : List ℕ) (from r : ℕ) : Type 0 where
  pub longer : from < r
  pub inside : r ≤ length s
  pub short : r ≤ from + name_most
  pub goes_on : (st : State) → run_at s (goes st (naming (get_or s from 0 ∷ []))) (suc from) ≡ run_at s (goes st (naming (part_of s from r))) r
  pub stops : (is_name_byte (get_or s r 0) && ltb (r - from) name_most) ≡ false

-- a text from `from` on ends at r
pub record TextRead (s : List ℕ) (from r : ℕ) : Type 0 where
  pub longer : from < r
  pub inside : r ≤ length s
  pub goes_on : (st : State) → run_at s (goes st (texting 1)) (suc from) ≡ run_at s (goes st (texting (r - from))) r
  pub stops : (is_text (get_or s r 0) && ltb (r - from) text_most) ≡ false

-- from a state at place i reading comes to the next state at the place that is told, or is refused there
abbrev pub Comes : List ℕ → State → ℕ → State → Result ℕ Refused → Type 0
Comes s st i next (Ok p) = (run_at s st i ≡ run_at s next p) × (i < p) × (p ≤ length s)
Comes s st i next (Err e) = run_at s st i ≡ refused e.place

-- a Ccy behind the blank that stands right before `from`
pub record AttributeRead (s : List ℕ) (from : ℕ) (r : Result ℕ Refused) : Type 0 where
  pub comes : (st : State) → Comes s (goes st (attribute (bytes "Ccy=\"^^^\">"))) from (goes st (tagged true)) r

-- a closing tag behind its slash
pub record ClosingRead (s : List ℕ) (at from to : ℕ) (r : Result ℕ Refused) : Type 0 where
  pub comes : (st : State) → Comes s (goes st (ending (part_of s from to ++ bytes ">"))) at (closes st) r

-- an element whose first letter stands at place i was named, and its opening tag is whole
abbrev pub opened : State → ℕ → List ℕ → Bool → State
opened st i name ccy = record {
  mode = tagged ccy;
  names = name ∷ st.names;
  count = suc st.count;
  starts = set st.starts st.count (i - 1);
  depths = set st.depths st.count (suc (length st.names));
}

-- an opening tag after a `<` that stands right before `at`
abbrev pub TagComes : List ℕ → State → ℕ → Result Tag Refused → Type 0
TagComes s st at (Ok r) = run_at s (goes st begun) at ≡ run_at s (opened st at (part_of s at r.to) r.ccy) r.place
TagComes s st at (Err e) = run_at s (goes st begun) at ≡ refused e.place

pub record TagRead (s : List ℕ) (at : ℕ) (r : Result Tag Refused) : Type 0 where
  pub comes : (st : State) → TagComes s st at r
  pub places : (tag : Tag) → r ≡ Ok tag → (at < tag.to) × (tag.to < tag.place) × (tag.place ≤ length s)

-- a text and the closing tag of the innermost element, whose name stands at from..to
pub record LeafRead (s : List ℕ) (inside from to : ℕ) (r : Result ℕ Refused) : Type 0 where
  pub comes : (st : State) (ccy : Bool) → innermost st.names ≡ part_of s from to → Comes s (goes st (tagged ccy)) inside (closes st) r
