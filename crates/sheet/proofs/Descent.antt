-- An element by its parts: its tag, then a text or its children, then its closing tag. Each lemma is one way out of the reader, or one turn.
-- Assumes nothing.
use mathlib.Core.Path.{◌≡◌, refl, subst, ◌∙◌}
use mathlib.Core.Bool.{Bool, true, false, not, ◌&&◌}
use mathlib.Core.List.{List, [], ◌∷◌, ◌++◌}
use Prim.Native.Nat.{ℕ, suc, ◌+◌, ◌-◌, ◌≤◌, ◌<◌}
use native.Mathlib.Omega.{arith}
use native.Mathlib.Numerals.{add-one}
use lib.Dec.{ltb, eqb}
use lib.ListN.{length, get_or, set, length-set}
use Rattle.shape.proofs.Tests.{and_left, and_right}
use borrow.Author.Tests.{eqb-true, ltb-true, ltb-false, lt-ltb, le-ltb, eq-eqb, ne_eqb}
use Rattle.shape.specs.Text.{bytes}
use Rattle.shape.specs.Bytes.{is_letter, is_text}
use Rattle.sheet.specs.Grammar.{depth_most, element_most}
use Rattle.sheet.specs.Machine.{State, Mode, begun, tagged, ending, between, turning, goes, begins, closes, after_closing, innermost, step}
use Rattle.sheet.specs.Answer.{refused}
use Rattle.sheet.specs.declared.parts.Tag.{Tag}
use Rattle.sheet.specs.declared.parts.Refused.{Refused}
use Rattle.std.specs.Prelude.{Result, Ok, Err, Some, None}
use Rattle.sheet.specs.declared.element.Came.{Came}
use Rattle.sheet.specs.Parts.{run_at, part_of, TagRead, LeafRead}
use Rattle.sheet.specs.Element.{came_of, may_hold, state_of, ElementRead}
use Rattle.sheet.proofs.Runs.{refusal, run-go, run-stop}
use Rattle.sheet.proofs.Ends.{inside as in-sheet}

-- a refusal is nothing that was read
pub not-read : {A : Type 0} {e : Refused} {x : A} → ◌≡◌ {A = Result A Refused} (Err e) (Ok x) → ⊥
not-read q = let z : ◌≡◌ {A = ℕ} 0 1 = cc in omega arith

-- what was read is that element
abbrev pub Places : ℕ → ℕ → ℕ → Came → Type 0
Places long at count r = (at < r.place) × (r.place ≤ long) × (count < r.count) × (r.count ≤ element_most)

pub read-so : (x y : Came) (long at count : ℕ) → ◌≡◌ {A = Result Came Refused} (Ok y) (Ok x) → Places long at count y → Places long at count x
read-so x y long at count e p = let same : y ≡ x = cc in subst (Places long at count) same p

-- the levels that are left below, as the machine and as the code count them
levels : (n left : ℕ) → n + left ≡ suc depth_most → ltb n depth_most ≡ ltb 1 left
levels n left e = go (ltb 1 left) refl
  where
    go : (t : Bool) → ltb 1 left ≡ t → ltb n depth_most ≡ t
    go true h = let k = ltb-true 1 left h in lt-ltb n depth_most (omega arith)
    go false h = let k = ltb-false 1 left h in le-ltb n depth_most (omega arith)

-- behind an opening tag: no text, and no child may begin
tagged-refused : (st : State) (ccy : Bool) (i b left : ℕ) → length st.names + left ≡ suc depth_most → is_text b ≡ false → may_hold b ccy left st.count ≡ false
    → step st (tagged ccy) i b ≡ None
unfolding step
tagged-refused st ccy i b left e t h = rw (t, levels (length st.names) left e, h)

tagged-child : (st : State) (ccy : Bool) (i b left : ℕ) → length st.names + left ≡ suc depth_most → is_text b ≡ false → may_hold b ccy left st.count ≡ true
    → step st (tagged ccy) i b ≡ Some (goes st begun)
unfolding step
tagged-child st ccy i b left e t h = rw (t, levels (length st.names) left e, h)

-- where a child may begin, there is its `<`, a level below, and room
pub may-hold-parts : (b : ℕ) (ccy : Bool) (left n : ℕ) → may_hold b ccy left n ≡ true → (b ≡ 60) × (1 < left) × (n < element_most)
may-hold-parts b ccy left n e =
    let three = and_left (eqb b 60 && not ccy && ltb 1 left) (ltb n element_most) e in (
      eqb-true b 60 (and_left (eqb b 60) (not ccy) (and_left (eqb b 60 && not ccy) (ltb 1 left) three)),
      ltb-true 1 left (and_right (eqb b 60 && not ccy) (ltb 1 left) three),
      ltb-true n element_most (and_right (eqb b 60 && not ccy && ltb 1 left) (ltb n element_most) e),
    )

-- behind a child
pub between-refused : (st : State) (i b : ℕ) → (b ≡ 60 → ⊥) → step st between i b ≡ None
unfolding step
between-refused st i b e = rw (ne_eqb b 60 e)

pub between-taken : (st : State) (i b : ℕ) → b ≡ 60 → step st between i b ≡ Some (goes st turning)
unfolding step
between-taken st i b e = rw (eq-eqb b 60 e)

pub turning-closes : (st : State) (i b : ℕ) → b ≡ 47 → step st turning i b ≡ Some (goes st (ending (innermost st.names ++ bytes ">")))
unfolding step
turning-closes st i b e = rw (eq-eqb b 47 e)

pub turning-full : (st : State) (i b : ℕ) → (b ≡ 47 → ⊥) → element_most ≤ st.count → step st turning i b ≡ None
unfolding step
turning-full st i b e h = go (is_letter b)
  where
    go : (t : Bool) → Rattle.sheet.specs.Machine.when (eqb b 47) (goes st (ending (innermost st.names ++ bytes ">"))) (Rattle.sheet.specs.Machine.when (t && ltb st.count element_most) (begins st i b) None) ≡ None
    go true = rw (ne_eqb b 47 e, le-ltb st.count element_most h)
    go false = rw (ne_eqb b 47 e)

-- a sibling begins as a first child does
pub sibling-step : (st : State) (i b : ℕ) → (b ≡ 47 → ⊥) → st.count < element_most → step st turning i b ≡ step st begun i b
unfolding step
sibling-step st i b e h = go (is_letter b)
  where
    go : (t : Bool) → Rattle.sheet.specs.Machine.when (eqb b 47) (goes st (ending (innermost st.names ++ bytes ">"))) (Rattle.sheet.specs.Machine.when (t && ltb st.count element_most) (begins st i b) None) ≡ Rattle.sheet.specs.Machine.when t (begins st i b) None
    go true = rw (ne_eqb b 47 e, lt-ltb st.count element_most h)
    go false = rw (ne_eqb b 47 e)

-- the element's tag was not read
pub untagged : (s : List ℕ) (at left count : ℕ) (starts depths : List ℕ) (e : Refused) → TagRead s at (Err e)
    → length starts ≡ element_most → length depths ≡ element_most → ElementRead s at left count starts depths (Err e) starts depths
untagged s at left count starts depths e tag ls ld = record {
  comes = λ names h. tag.comes (state_of begun names count starts depths);
  places = λ came w. absurd (not-read w);
  long-starts = ls;
  long-depths = ld;
}

-- the element's tag was read
module _ (s : List ℕ) (at left count : ℕ) (starts depths : List ℕ) (r : Tag) (tag : TagRead s at (Ok r)) (few : count < element_most)
    (ls : length starts ≡ element_most) (ld : length depths ≡ element_most) where
  abbrev name : List ℕ
  name = part_of s at r.to

  abbrev starts' : List ℕ
  starts' = set starts count (at - 1)

  abbrev depths' : List ℕ
  depths' = set depths count (depth_most + 1 - left)

  abbrev tag_state : List (List ℕ) → State
  tag_state names = state_of (tagged r.ccy) (name ∷ names) (count + 1) starts' depths'

  entered : (names : List (List ℕ)) → length names + left ≡ depth_most → run_at s (state_of begun names count starts depths) at ≡ run_at s (tag_state names) r.place
  entered names h =
      let deep : depth_most + 1 - left ≡ suc (length names) = omega arith in
      rw (add-one count, deep) (tag.comes (state_of begun names count starts depths))

  stops : (p : ℕ) → ((names : List (List ℕ)) → length names + left ≡ depth_most → run_at s (tag_state names) r.place ≡ refused p)
      → ElementRead s at left count starts depths (refusal p) starts' depths'
  stops p f = record {
    comes = λ names h. entered names h ∙ f names h;
    places = λ came e. absurd (not-read e);
    long-starts = length-set starts count (at - 1) ∙ ls;
    long-depths = length-set depths count (depth_most + 1 - left) ∙ ld;
  }

  -- it holds a text
  pub with-text : (w : Result ℕ Refused) → LeafRead s r.place at r.to w → ElementRead s at left count starts depths (came_of w (count + 1)) starts' depths'
  with-text (Ok p) q =
      let ahead = q.comes (tag_state []) r.ccy refl in
      let places = tag.places r refl in
      record {
        comes = λ names h. entered names h ∙ (q.comes (tag_state names) r.ccy refl).0;
        places = λ came e.
            read-so came (record { place = p; count = count + 1 }) (length s) at count e (omega arith, ahead.2, omega arith, omega arith);
        long-starts = length-set starts count (at - 1) ∙ ls;
        long-depths = length-set depths count (depth_most + 1 - left) ∙ ld;
      }
  with-text (Err e) q = stops e.place (λ names h. q.comes (tag_state names) r.ccy refl)

  -- it holds neither a text nor a child
  pub with_nothing : is_text (get_or s r.place 0) ≡ false → may_hold (get_or s r.place 0) r.ccy left (count + 1) ≡ false
      → ElementRead s at left count starts depths (refusal r.place) starts' depths'
  with_nothing t e =
      stops r.place (λ names h. run-stop s (tag_state names) r.place refl
      (tagged-refused (tag_state names) r.ccy r.place (get_or s r.place 0) left (omega arith) t e))

  -- its first child begins
  pub first-child : is_text (get_or s r.place 0) ≡ false → may_hold (get_or s r.place 0) r.ccy left (count + 1) ≡ true → get_or s r.place 0 ≡ 60
      → (names : List (List ℕ)) → length names + left ≡ depth_most
      → run_at s (state_of begun names count starts depths) at ≡ run_at s (state_of begun (name ∷ names) (count + 1) starts' depths') (r.place + 1)
  first-child t e b names h =
      rw (add-one r.place)
      (entered names h
      ∙ run-go s (tag_state names) r.place (state_of begun (name ∷ names) (count + 1) starts' depths') (in-sheet s r.place 59 b)
      (tagged-child (tag_state names) r.ccy r.place (get_or s r.place 0) left (omega arith) t e))
