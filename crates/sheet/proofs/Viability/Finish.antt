-- From every state that holds, some bytes lead to a whole sheet: x for a name or a text, AAA for a Ccy, and the closing tags.
-- Assumes nothing.
use Rattle.std.specs.Prelude.{Option, Some, None}
use mathlib.Core.Path.{◌≡◌, refl}
use mathlib.Core.Bool.{Bool, true, false}
use mathlib.Core.List.{List, [], ◌∷◌, ◌++◌}
use Prim.Native.Nat.{ℕ, suc}
use Prim.Native.Char.{code}
use lib.Dec.{eqb}
use borrow.Author.Tests.{eq-eqb}
use Rattle.shape.specs.Text.{bytes}
use Rattle.shape.specs.Bytes.{is_digit, is_capital, is_small, is_letter, is_text}
use Rattle.sheet.specs.Grammar.{is_name_byte}
use Rattle.sheet.specs.Machine.{Mode, outer, begun, naming, attribute, tagged, texting, ending, between, turning, whole}
use Rattle.sheet.specs.Machine.{State, step, when, innermost, outside, after_closing, is_next}
use Rattle.sheet.proofs.Acceptance.Parts.{given}
use Rattle.sheet.proofs.Viability.Written.{Grown, grown, state, Holds}
use Rattle.sheet.proofs.Viability.Written.{at-outer, at-begun, at-naming, at-attribute, at-tagged, at-texting, at-ending, at-between, at-turning, at-whole}

-- some bytes lead from the state, at place i, to a whole sheet
pub data Finishes : State → ℕ → Type 0 where
  there : {st : State} {i : ℕ} → st.mode ≡ whole → Finishes st i
  byte : {st next : State} {i : ℕ} (b : ℕ) → step st st.mode i b ≡ Some next → Finishes next (suc i) → Finishes st i

-- a test that holds makes the step
passes : {made : State} (t : Bool) (other : Option State) → t ≡ true → when t made other ≡ Some made
passes t other e = rw e

-- a byte that may follow in ` Ccy="UAH">`
follower : (c : ℕ) → (b : ℕ) × (is_next c b ≡ true)
unfolding is_capital
follower c = choose (eqb c (code "^")) refl
  where
    choose : (t : Bool) → eqb c (code "^") ≡ t → (b : ℕ) × (is_next c b ≡ true)
    choose true e = (code "A", rw e)
    choose false e = (c, rw (e, eq-eqb c c refl))

module _ (c : ℕ) (ss ds : List ℕ) where
  -- what is left of a closing tag closes the element
  rest-of-tag-closes : (ns : List (List ℕ)) (d : ℕ) (r : List ℕ) (i : ℕ)
      → ((j : ℕ) → Finishes (state (after_closing (outside ns)) (outside ns) c ss ds) j) → Finishes (state (ending (d ∷ r)) ns c ss ds) i
  unfolding step
  rest-of-tag-closes ns d [] i then = byte d (passes (eqb d d) None (eq-eqb d d refl)) (then (suc i))
  rest-of-tag-closes ns d (f ∷ r) i then = byte d (passes (eqb d d) None (eq-eqb d d refl)) (rest-of-tag-closes ns f r (suc i) then)

  name-closes : (n : List ℕ) (ns : List (List ℕ)) (i : ℕ)
      → ((j : ℕ) → Finishes (state (after_closing (outside ns)) (outside ns) c ss ds) j) → Finishes (state (ending (n ++ bytes ">")) ns c ss ds) i
  name-closes [] ns i then = rest-of-tag-closes ns (code ">") [] i then
  name-closes (b ∷ n) ns i then = rest-of-tag-closes ns b (n ++ bytes ">") i then

  -- one open element after the other is closed, innermost first
  open-elements-close : (ns : List (List ℕ)) (i : ℕ) → Finishes (state (after_closing ns) ns c ss ds) i
  unfolding step
  open-elements-close [] i = there refl
  open-elements-close (n ∷ ns) i =
      byte (code "<") refl (byte (code "/") refl (name-closes n (n ∷ ns) (suc (suc i)) (λ j. open-elements-close ns j)))

  ending-finishes : (d : ℕ) (r : List ℕ) (ns : List (List ℕ)) (i : ℕ) → Finishes (state (ending (d ∷ r)) ns c ss ds) i
  ending-finishes d r ns i = rest-of-tag-closes ns d r i (λ j. open-elements-close (outside ns) j)

  texting-finishes : (k : ℕ) (ns : List (List ℕ)) (i : ℕ) → Finishes (state (texting k) ns c ss ds) i
  unfolding step is_text
  texting-finishes k ns i = byte (code "<") refl (ending-finishes (code "/") (innermost ns ++ bytes ">") ns (suc i))

  tagged-finishes : (has : Bool) (ns : List (List ℕ)) (i : ℕ) → Finishes (state (tagged has) ns c ss ds) i
  unfolding step is_text
  tagged-finishes has ns i = byte (code "x") refl (texting-finishes 1 ns (suc i))

  attribute-finishes : (d : ℕ) (r : List ℕ) (ns : List (List ℕ)) (i : ℕ) → Finishes (state (attribute (d ∷ r)) ns c ss ds) i
  unfolding step
  attribute-finishes d [] ns i =
      byte (follower d).0 (passes (is_next d (follower d).0) None (follower d).1) (tagged-finishes true ns (suc i))
  attribute-finishes d (f ∷ r) ns i =
      byte (follower d).0 (passes (is_next d (follower d).0) None (follower d).1) (attribute-finishes f r ns (suc i))

  naming-finishes : (n : List ℕ) (ns : List (List ℕ)) (i : ℕ) → Finishes (state (naming n) ns c ss ds) i
  unfolding step is_name_byte is_letter is_digit is_capital is_small
  naming-finishes n ns i = byte (code ">") refl (tagged-finishes false (n ∷ ns) (suc i))

begun-finishes : (ns : List (List ℕ)) (c : ℕ) (ss ds : List ℕ) (i : ℕ) → Finishes (state begun ns c ss ds) i
unfolding step is_letter is_capital is_small
begun-finishes ns c ss ds i = byte (code "x") refl (naming-finishes (suc c) _ _ (bytes "x") ns (suc i))

outer-finishes : (ns : List (List ℕ)) (c : ℕ) (ss ds : List ℕ) (i : ℕ) → Finishes (state outer ns c ss ds) i
unfolding step
outer-finishes ns c ss ds i = byte (code "<") refl (begun-finishes ns c ss ds (suc i))

-- behind a child, some element is open
between-finishes : {q : List ℕ} {ns : List (List ℕ)} {c : ℕ} → Grown q ns c → (ss ds : List ℕ) (i : ℕ) → Finishes (state between ns c ss ds) i
between-finishes (grown {n} {ns} place name es good room depth) ss ds i = open-elements-close _ ss ds (n ∷ ns) i

turning-finishes : {q : List ℕ} {ns : List (List ℕ)} {c : ℕ} → Grown q ns c → (ss ds : List ℕ) (i : ℕ) → Finishes (state turning ns c ss ds) i
unfolding step
turning-finishes (grown {n} {ns} place name es good room depth) ss ds i =
    byte (code "/") refl (name-closes _ ss ds n (n ∷ ns) (suc i) (λ j. open-elements-close _ ss ds ns j))

-- whatever was read so far, the sheet can be finished
pub finishes : {m : Mode} {p : List ℕ} {ns : List (List ℕ)} {c : ℕ} → Holds m p ns c → (ss ds : List ℕ) (i : ℕ) → Finishes (state m ns c ss ds) i
finishes (at-outer {ns} {c} room) ss ds i = outer-finishes ns c ss ds i
finishes (at-begun {ns} {c} room) ss ds i = begun-finishes ns c ss ds i
finishes (at-naming {n} {ns} {c} room name) ss ds i = naming-finishes (suc c) ss ds n ns i
finishes (at-attribute {n} {r} {d} {c} {ns} room name tags) ss ds i = attribute-finishes (suc c) ss ds d r (n ∷ ns) i
finishes (at-tagged {n} {ns} {c} room name ccy capitals) ss ds i = tagged-finishes (suc c) ss ds (given ccy) (n ∷ ns) i
finishes (at-texting {n} {ns} {c} {k} room name ccy capitals text content size) ss ds i = texting-finishes (suc c) ss ds k (n ∷ ns) i
finishes (at-ending {n} {r} {d} {total} {ns} place e good depth number few written) ss ds i = ending-finishes total ss ds d r (n ∷ ns) i
finishes (at-between g few) ss ds i = between-finishes g ss ds i
finishes (at-turning g few) ss ds i = turning-finishes g ss ds i
finishes (at-whole w) ss ds i = there refl
