-- The children of an element, one after the other. What came before is any reading X that has been brought to where a child begins.
-- Assumes nothing.
use mathlib.Core.Path.{◌≡◌, refl, ap, ◌∙◌}
use mathlib.Core.List.{List, [], ◌∷◌, ◌++◌}
use Prim.Native.Nat.{ℕ, ◌+◌, ◌-◌, ◌≤◌, ◌<◌}
use native.Mathlib.Omega.{arith}
use native.Mathlib.Numerals.{add-one}
use lib.ListN.{length, get_or, set}
use Rattle.shape.specs.Text.{bytes}
use Rattle.sheet.specs.Grammar.{depth_most, element_most}
use Rattle.sheet.specs.Machine.{State, Mode, begun, ending, between, turning, after_closing, step}
use Rattle.sheet.specs.Answer.{Reading, refused}
use Rattle.sheet.specs.declared.parts.Tag.{Tag}
use Rattle.sheet.specs.declared.parts.Refused.{Refused}
use Rattle.std.specs.Prelude.{Result, Ok, Err, Some}
use Rattle.sheet.specs.declared.element.Came.{Came}
use Rattle.sheet.specs.Parts.{run_at, part_of, ClosingRead}
use Rattle.sheet.specs.Element.{came_of, state_of, ElementRead}
use Rattle.sheet.proofs.Runs.{refusal, run-go, run-stop, run-same}
use Rattle.sheet.proofs.Ends.{inside as in-sheet}
use Rattle.sheet.proofs.Descent.{not-read, read-so, between-refused, between-taken, turning-closes, turning-full, sibling-step}

-- in any surroundings that leave so many levels, the reading X is a refusal at p, or the machine from a state at place i
abbrev pub RefusedAt : ℕ → (List (List ℕ) → Reading) → ℕ → Type 0
RefusedAt left X p = (names : List (List ℕ)) → length names + left ≡ depth_most → X names ≡ refused p

abbrev pub Reaches : List ℕ → ℕ → (List (List ℕ) → Reading) → (List (List ℕ) → State) → ℕ → Type 0
Reaches s left X st i = (names : List (List ℕ)) → length names + left ≡ depth_most → X names ≡ run_at s (st names) i

module _ (s : List ℕ) (left : ℕ) (name : List ℕ) (X : List (List ℕ) → Reading) (i seen : ℕ) (starts depths : List ℕ)
    (so_far : Reaches s left X (λ names. state_of begun (name ∷ names) seen starts depths) i) (deep : 1 < left)
    (starts' depths' : List ℕ) where
  -- the child is refused
  pub child-refused : (e : Refused) → ElementRead s i (left - 1) seen starts depths (Err e) starts' depths' → RefusedAt left X e.place
  child-refused e child names h = so_far names h ∙ child.comes (name ∷ names) (omega arith)

  module _ (came : Came) (child : ElementRead s i (left - 1) seen starts depths (Ok came) starts' depths') where
    abbrev behind_it : Mode → List (List ℕ) → State
    behind_it m names = state_of m (name ∷ names) came.count starts' depths'

    -- the child is whole
    behind : Reaches s left X (behind_it between) came.place
    behind names h = so_far names h ∙ child.comes (name ∷ names) (omega arith)

    -- no `<` behind it
    pub no_more : (get_or s came.place 0 ≡ 60 → ⊥) → RefusedAt left X came.place
    no_more e names h =
        behind names h ∙ run-stop s (behind_it between names) came.place refl (between-refused (behind_it between names) came.place (get_or s came.place 0) e)

    module _ (more : get_or s came.place 0 ≡ 60) where
      turned : Reaches s left X (behind_it turning) (came.place + 1)
      turned names h =
          rw (add-one came.place)
          (behind names h
          ∙ run-go s (behind_it between names) came.place (behind_it turning names) (in-sheet s came.place 59 more)
          (between-taken (behind_it between names) came.place (get_or s came.place 0) more))

      -- too many elements
      pub too_many : (get_or s (came.place + 1) 0 ≡ 47 → ⊥) → came.count ≡ element_most → RefusedAt left X (came.place + 1)
      too_many e f names h =
          turned names h
          ∙ run-stop s (behind_it turning names) (came.place + 1) refl (turning-full (behind_it turning names) (came.place + 1) (get_or s (came.place + 1) 0) e (omega arith))

      -- a sibling
      pub sibling : (get_or s (came.place + 1) 0 ≡ 47 → ⊥) → came.count < element_most → Reaches s left X (behind_it begun) (came.place + 1)
      unfolding step
      sibling e f names h =
          turned names h
          ∙ run-same s (behind_it turning names) (behind_it begun names) (came.place + 1) refl refl
          (sibling-step (behind_it turning names) (came.place + 1) (get_or s (came.place + 1) 0) e f)

      -- the closing tag
      module _ (from to : ℕ) (is_name : name ≡ part_of s from to) (slash : get_or s (came.place + 1) 0 ≡ 47) where
        slashed : Reaches s left X (behind_it (ending (part_of s from to ++ bytes ">"))) (came.place + 1 + 1)
        slashed names h =
            rw (add-one (came.place + 1))
            (turned names h
            ∙ run-go s (behind_it turning names) (came.place + 1) (behind_it (ending (part_of s from to ++ bytes ">")) names) (in-sheet s (came.place + 1) 46 slash)
            (turning-closes (behind_it turning names) (came.place + 1) (get_or s (came.place + 1) 0) slash
            ∙ ap (λ (n : List ℕ). Some (behind_it (ending (n ++ bytes ">")) names)) is_name))

        pub closed : (p : ℕ) → ClosingRead s (came.place + 1 + 1) from to (Ok p)
            → Reaches s left X (λ names. state_of (after_closing names) names came.count starts' depths') p
        closed p q names h = slashed names h ∙ (q.comes (behind_it between names)).0

        pub not-closed : (p : ℕ) → ClosingRead s (came.place + 1 + 1) from to (refusal p) → RefusedAt left X p
        not-closed p q names h = slashed names h ∙ q.comes (behind_it between names)

-- the reading of an element from behind its `<`
abbrev pub whence : List ℕ → ℕ → ℕ → List ℕ → List ℕ → List (List ℕ) → Reading
whence s at count starts depths names = run_at s (state_of begun names count starts depths) at

-- the same from its first child on, once its tag was read
abbrev pub within : List ℕ → ℕ → ℕ → ℕ → List ℕ → List ℕ → Tag → List (List ℕ) → Reading
within s at left count starts depths r names =
    run_at s
    (state_of begun (part_of s at r.to ∷ names) (count + 1) (set starts count (at - 1)) (set depths count (depth_most + 1 - left)))
    (r.place + 1)

-- what it is in the end
module _ (s : List ℕ) (at left count : ℕ) (starts depths starts' depths' : List ℕ) (ls : length starts' ≡ element_most) (ld : length depths' ≡ element_most) where
  pub ends-refused : (p : ℕ) → RefusedAt left (whence s at count starts depths) p → ElementRead s at left count starts depths (refusal p) starts' depths'
  ends-refused p f = record { comes = f; places = λ came e. absurd (not-read e); long-starts = ls; long-depths = ld }

  pub ends-whole : (p seen : ℕ) → at < p → p ≤ length s → count < seen → seen ≤ element_most
      → Reaches s left (whence s at count starts depths) (λ names. state_of (after_closing names) names seen starts' depths') p
      → ElementRead s at left count starts depths (Ok (record { place = p; count = seen })) starts' depths'
  ends-whole p seen a b c d f = record {
    comes = f;
    places = λ came e. read-so came (record { place = p; count = seen }) (length s) at count e (a, b, c, d);
    long-starts = ls;
    long-depths = ld;
  }

-- a closing tag ends after where it begins
pub closing-places : (s : List ℕ) (at from to p : ℕ) → ClosingRead s at from to (Ok p) → (at < p) × (p ≤ length s)
closing-places s at from to p q = let c = q.comes (state_of begun [] 0 [] []) in (c.1, c.2)

-- a child of an element was read. The element is read from `at` on, where its name begins, which ends at `to`
pub record Turn (s : List ℕ) (at left count : ℕ) (starts depths : List ℕ) (to : ℕ) (child : Result Came Refused) (starts' depths' : List ℕ) : Type 0 where
  pub i : ℕ
  pub seen : ℕ
  pub starts_before : List ℕ
  pub depths_before : List ℕ
  pub behind : at < i
  pub more : count < seen
  pub deep : 1 < left
  pub so_far : Reaches s left (whence s at count starts depths) (λ names. state_of begun (part_of s at to ∷ names) seen starts_before depths_before) i
  pub read : ElementRead s i (left - 1) seen starts_before depths_before child starts' depths'

-- the ways out of the element with a child or after one
module _ (s : List ℕ) (at left count : ℕ) (starts depths : List ℕ) (to : ℕ) (starts' depths' : List ℕ) where
  abbrev Ends : Result Came Refused → Type 0
  Ends r = ElementRead s at left count starts depths r starts' depths'

  -- the child is refused
  pub in-child : (e : Refused) → Turn s at left count starts depths to (Err e) starts' depths' → Ends (Err e)
  in-child e turn =
      ends-refused s at left count starts depths starts' depths' turn.read.long-starts turn.read.long-depths e.place
      (child-refused s left (part_of s at to) (whence s at count starts depths) turn.i turn.seen turn.starts_before turn.depths_before
      turn.so_far turn.deep starts' depths' e turn.read)

  module _ (came : Came) (turn : Turn s at left count starts depths to (Ok came) starts' depths') where
    refused-at : (p : ℕ) → RefusedAt left (whence s at count starts depths) p → Ends (refusal p)
    refused-at p f = ends-refused s at left count starts depths starts' depths' turn.read.long-starts turn.read.long-depths p f

    -- no `<` stands after the child
    pub after-child : (get_or s came.place 0 ≡ 60 → ⊥) → Ends (refusal came.place)
    after-child e =
        refused-at came.place
        (no_more s left (part_of s at to) (whence s at count starts depths) turn.i turn.seen turn.starts_before turn.depths_before
        turn.so_far turn.deep starts' depths' came turn.read e)

    module _ (next : get_or s came.place 0 ≡ 60) where
      -- there are too many elements
      pub in-sibling : (get_or s (came.place + 1) 0 ≡ 47 → ⊥) → came.count ≡ element_most → Ends (refusal (came.place + 1))
      in-sibling e f =
          refused-at (came.place + 1)
          (too_many s left (part_of s at to) (whence s at count starts depths) turn.i turn.seen turn.starts_before turn.depths_before
          turn.so_far turn.deep starts' depths' came turn.read next e f)

      -- the closing tag, read or refused
      pub in-closing : get_or s (came.place + 1) 0 ≡ 47 → (w : Result ℕ Refused) → ClosingRead s (came.place + 1 + 1) at to w → Ends (came_of w came.count)
      in-closing slash (Ok k) q =
          let p = turn.read.places came refl in
          let after = turn.behind in
          let more = turn.more in
          let near = closing-places s (came.place + 1 + 1) at to k q in
          ends-whole s at left count starts depths starts' depths' turn.read.long-starts turn.read.long-depths k came.count
          (omega arith) near.1 (omega arith) p.3
          (closed s left (part_of s at to) (whence s at count starts depths) turn.i turn.seen turn.starts_before turn.depths_before
          turn.so_far turn.deep starts' depths' came turn.read next at to refl slash k q)
      in-closing slash (Err e) q =
          refused-at e.place
          (not-closed s left (part_of s at to) (whence s at count starts depths) turn.i turn.seen turn.starts_before turn.depths_before
          turn.so_far turn.deep starts' depths' came turn.read next at to refl slash e.place q)
