-- An element begins wherever the machine may open one: behind nothing, behind an opening tag, or behind a child. The machine reads its opening tag.
-- Assumes nothing.
use Rattle.std.specs.Prelude.{Option, Some, None}
use mathlib.Core.Path.{◌≡◌, refl, ap, ◌∙◌}
use mathlib.Core.Bool.{true, false}
use mathlib.Core.List.{List, [], ◌∷◌}
use Prim.Native.Nat.{ℕ, suc, ◌-◌, ◌<◌}
use Prim.Native.Char.{code}
use native.Mathlib.Omega.{arith}
use lib.Dec.{eqb}
use lib.ListN.{length, set}
use borrow.Author.Tests.{lt-ltb, ne_eqb}
use Rattle.shape.specs.Bytes.{is_letter, is_capital, is_small, is_text}
use Rattle.shape.proofs.Tests.{or_cases, in-range}
use Rattle.sheet.specs.Grammar.{opening, element_most, depth_most, is_name, is_ccy}
use Rattle.sheet.specs.Machine.{Mode, outer, begun, naming, tagged, between, turning, State, goes, opens, begins, step}
use Rattle.sheet.proofs.Acceptance.Passage.{Reads, byte-then, passage-then}
use Rattle.sheet.proofs.Acceptance.Parts.{name-letter, name-bytes, name-short, name-not-empty, given}
use Rattle.sheet.proofs.Acceptance.Tags.{reads-name, reads-tag-end, reads-ccy}

-- an element may begin at place i: its `<` is accepted, and behind it each letter begins the element
pub record MayOpen (st : State) (i : ℕ) : Type 0 where
  pub turn : Mode
  pub less : step st st.mode i (code "<") ≡ Some (goes st turn)
  pub letter : (b : ℕ) → is_letter b ≡ true → step (goes st turn) turn (suc i) b ≡ Some (begins st (suc i) b)

-- a letter is not the `/` of a closing tag
letter-no-slash : (b : ℕ) → is_letter b ≡ true → eqb b (code "/") ≡ false
unfolding is_letter is_capital is_small
letter-no-slash b g = ne_eqb b 47 (λ e. or_cases (is_capital b) (is_small b) g (λ c. omega (arith, in-range 65 90 b c)) (λ c. omega (arith, in-range 97 122 b c)))

-- the outer element, the first child of an open element, and the sibling of a closed one
pub open-outer : (st : State) (i : ℕ) → MayOpen (goes st outer) i
unfolding step
open-outer st i = record { turn = begun; less = refl; letter = λ b g. rw g }

pub open-child : (st : State) (i : ℕ) → length st.names < depth_most → st.count < element_most → MayOpen (goes st (tagged false)) i
unfolding step is_text
open-child st i d c = record { turn = begun; less = rw (lt-ltb (length st.names) depth_most d, lt-ltb st.count element_most c); letter = λ b g. rw g }

pub open-sibling : (st : State) (i : ℕ) → st.count < element_most → MayOpen (goes st between) i
unfolding step
open-sibling st i c = record { turn = turning; less = refl; letter = λ b g. rw (letter-no-slash b g, g, lt-ltb st.count element_most c) }

-- the state once an element at place i has begun
abbrev pub counted : State → ℕ → State
counted st i = record {
  mode = st.mode;
  names = st.names;
  count = suc st.count;
  starts = set st.starts st.count i;
  depths = set st.depths st.count (suc (length st.names));
}

-- the machine counts the element at the place of its `<`
begins-counted : (st : State) (i b : ℕ) → begins st (suc i) b ≡ goes (counted st i) (naming (b ∷ []))
begins-counted st i b = let e : suc i - 1 ≡ i = omega arith in rw e

-- an opening tag, wherever an element may begin
pub reads-opening : (name : List ℕ) (ccy : Option (List ℕ)) (st : State) (i : ℕ) → is_name name ≡ true → is_ccy ccy ≡ true → MayOpen st i
    → Reads st i (opening name ccy) (opens (counted st i) name (tagged (given ccy)))
unfolding is_ccy
reads-opening [] ccy st i g k o = absurd (name-not-empty g)
reads-opening (b ∷ w) None st i g k o =
    byte-then o.less (byte-then (o.letter b (name-letter b w g) ∙ ap Some (begins-counted st i b))
    (passage-then (reads-name w (b ∷ []) (counted st i) (suc (suc i)) (name-bytes b w g) (omega (arith, name-short b w g)))
    (reads-tag-end (b ∷ w) (counted st i) _)))
reads-opening (b ∷ w) (Some ccy) st i g k o =
    byte-then o.less (byte-then (o.letter b (name-letter b w g) ∙ ap Some (begins-counted st i b))
    (passage-then (reads-name w (b ∷ []) (counted st i) (suc (suc i)) (name-bytes b w g) (omega (arith, name-short b w g)))
    (reads-ccy (b ∷ w) ccy (counted st i) _ k)))
