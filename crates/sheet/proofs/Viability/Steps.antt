-- Each step keeps what holds: the bytes read so far and one more lead to the next state. One lemma for each mode.
-- Assumes nothing.
use Rattle.std.specs.Prelude.{Option, Some, None}
use mathlib.Core.Path.{◌≡◌, refl, subst, ◌∙◌}
use mathlib.Core.Bool.{Bool, true, false, not, ◌&&◌, false≢true}
use mathlib.Core.List.{List, [], ◌∷◌, ◌++◌, append_assoc}
use Rattle.std.proofs.lemmas.Option.{none-some, same_Some}
use Prim.Native.Nat.{ℕ, suc, ◌+◌, ◌≤◌}
use Prim.Native.Char.{code}
use native.Mathlib.Omega.{arith}
use lib.Dec.{ltb, eqb}
use lib.ListN.{length, length-append}
use borrow.Author.Tests.{eqb-true, ltb-true}
use Rattle.shape.specs.Text.{bytes}
use Rattle.shape.specs.Bytes.{is_letter, is_text}
use Rattle.shape.proofs.Tests.{and_left, and_right}
use Rattle.sheet.specs.Grammar.{Element, leaf, opening, render, render_all, count_of, count_all, depth_of}
use Rattle.sheet.specs.Grammar.{name_most, text_most, depth_most, element_most, is_name_byte, is_name, is_ccy, is_content, good_parts}
use Rattle.sheet.specs.Machine.{Mode, outer, begun, naming, attribute, tagged, texting, ending, between, turning}
use Rattle.sheet.specs.Machine.{State, step, when, is_next}
use Rattle.sheet.proofs.Acceptance.Parts.{given}
use Rattle.sheet.proofs.Viability.Written.{Place, inside, behind, Grown, grown, Room, Follows, ends, goes, Tag, state, Holds, Leads}
use Rattle.sheet.proofs.Viability.Written.{at-outer, at-begun, at-naming, at-attribute, at-tagged, at-texting, at-ending, at-between, at-turning, at-whole}
use Rattle.sheet.proofs.Viability.Growing.{name-grows, content-grows}
use Rattle.sheet.proofs.Viability.Tags.{spelled, tag-with-ccy, one-byte-on, closed, regrouped, turned}

-- if the step is made, the bytes lead to the state that it makes
abbrev pub Kept : List ℕ → Option State → Type 0
Kept p o = (next : State) → o ≡ Some next → Leads p next

kept-none : {p : List ℕ} → Kept p None
kept-none next e = absurd (none-some next e)

-- a step by a test, by two tests, by a byte
kept-when : {p : List ℕ} (t : Bool) (made : State) (other : Option State) → (t ≡ true → Leads p made) → Kept p other → Kept p (when t made other)
kept-when {p} true made other yes-made no_other next e = subst (Leads p) (same_Some made next e) (yes-made refl)
kept-when false made other yes-made no_other next e = no_other next e

kept-both : {p : List ℕ} (t u : Bool) (made : State) (other : Option State) → (t ≡ true → u ≡ true → Leads p made) → Kept p other
    → Kept p (when (t && u) made other)
kept-both t u made other yes-made no_other = kept-when (t && u) made other (λ e. yes-made (and_left t u e) (and_right t u e)) no_other

kept_byte : (p : List ℕ) (b k : ℕ) (made : State) (other : Option State) → Leads (p ++ (k ∷ [])) made → Kept (p ++ (b ∷ [])) other
    → Kept (p ++ (b ∷ [])) (when (eqb b k) made other)
kept_byte p b k made other leads no_other = kept-when (eqb b k) made other (λ e. rw (eqb-true b k e) leads) no_other

-- four tests that hold together hold each
each_of : (t u v w : Bool) → (t && u && v && w) ≡ true → (t ≡ true) × (u ≡ true) × (v ≡ true) × (w ≡ true)
each_of true true true true e = (refl, refl, refl, refl)
each_of true true true false e = absurd (false≢true e)
each_of true true false w e = absurd (false≢true e)
each_of true false v w e = absurd (false≢true e)
each_of false u v w e = absurd (false≢true e)

module _ (ss ds : List ℕ) (i b : ℕ) (q : List ℕ) (ns : List (List ℕ)) (c : ℕ) where
  outer-keeps : Room q ns c → Kept (q ++ (b ∷ [])) (step (state outer ns c ss ds) outer i b)
  unfolding step
  outer-keeps room = kept_byte q b (code "<") _ None (at-begun room) kept-none

  -- an element's first letter stands behind its `<`
  named : Room q ns c → is_letter b ≡ true → Holds (naming (b ∷ [])) ((q ++ bytes "<") ++ (b ∷ [])) ns (suc c)
  unfolding is_name
  named room letter = rw (append_assoc q (bytes "<") (b ∷ [])) (at-naming {n = b ∷ []} room (rw letter))

  begun-keeps : Room q ns c → Kept ((q ++ bytes "<") ++ (b ∷ [])) (step (state begun ns c ss ds) begun i b)
  unfolding step
  begun-keeps room = kept-when (is_letter b) _ None (λ letter. named room letter) kept-none

  module _ (n : List ℕ) (room : Room q ns c) (name : is_name n ≡ true) where
    name-goes-on : is_name_byte b ≡ true → ltb (length n) name_most ≡ true
        → Holds (naming (n ++ (b ∷ []))) ((q ++ (bytes "<" ++ n)) ++ (b ∷ [])) ns (suc c)
    name-goes-on fit short =
        let longer = name-grows n b name fit (ltb-true (length n) name_most short) in
        rw (append_assoc q (bytes "<" ++ n) (b ∷ [])) (at-naming room longer)

    tag-ends : Holds (tagged false) ((q ++ (bytes "<" ++ n)) ++ bytes ">") (n ∷ ns) (suc c)
    unfolding is_ccy
    tag-ends = rw (append_assoc q (bytes "<" ++ n) (bytes ">")) (at-tagged room name None refl)

    naming-keeps : Kept ((q ++ (bytes "<" ++ n)) ++ (b ∷ [])) (step (state (naming n) ns (suc c) ss ds) (naming n) i b)
    unfolding step
    naming-keeps =
        kept-both (is_name_byte b) (ltb (length n) name_most) _ _ name-goes-on
        (kept_byte (q ++ (bytes "<" ++ n)) b (code ">") _ _ tag-ends
        (kept_byte (q ++ (bytes "<" ++ n)) b (code " ") _ None (at-attribute room name (λ t f. spelled q n t f))
        kept-none))

    module _ (p : List ℕ) (d : ℕ) where
      last-of-attribute-keeps : ((t : List ℕ) → Follows (d ∷ []) t → Tag p q n t)
          → Kept (p ++ (b ∷ [])) (step (state (attribute (d ∷ [])) (n ∷ ns) (suc c) ss ds) (attribute (d ∷ [])) i b)
      unfolding step
      last-of-attribute-keeps tags = kept-when (is_next d b) _ None (λ e. tag-with-ccy room name (tags (b ∷ []) (goes e ends))) kept-none

      attribute-keeps : (f : ℕ) (r : List ℕ) → ((t : List ℕ) → Follows (d ∷ f ∷ r) t → Tag p q n t)
          → Kept (p ++ (b ∷ [])) (step (state (attribute (d ∷ f ∷ r)) (n ∷ ns) (suc c) ss ds) (attribute (d ∷ f ∷ r)) i b)
      unfolding step
      attribute-keeps f r tags =
          kept-when (is_next d b) _ None (λ e. at-attribute room name (λ t g. one-byte-on b t (tags (b ∷ t) (goes e g)))) kept-none

    -- a child begins behind an opening tag that has no Ccy
    child-begins : (ccy : Option (List ℕ))
        → (eqb b (code "<") && not (given ccy) && ltb (suc (length ns)) depth_most && ltb (suc c) element_most) ≡ true
        → Holds begun ((q ++ opening n ccy) ++ (b ∷ [])) (n ∷ ns) (suc c)
    child-begins None e =
        let tests = each_of (eqb b (code "<")) true (ltb (suc (length ns)) depth_most) (ltb (suc c) element_most) e in
        let few = ltb-true (suc c) element_most tests.3 in
        let shallow = ltb-true (suc (length ns)) depth_most tests.2 in
        rw (eqb-true b (code "<") tests.0) (at-begun (record { place = inside room.place name; few = few; shallow = shallow }))
    child-begins (Some ccy) e =
        absurd (false≢true (each_of (eqb b (code "<")) false (ltb (suc (length ns)) depth_most) (ltb (suc c) element_most) e).1)

    module _ (ccy : Option (List ℕ)) (capitals : is_ccy ccy ≡ true) where
      text-begins : is_text b ≡ true → Holds (texting 1) ((q ++ opening n ccy) ++ (b ∷ [])) (n ∷ ns) (suc c)
      unfolding is_content
      text-begins fit = rw (append_assoc q (opening n ccy) (b ∷ [])) (at-texting room name ccy capitals (b ∷ []) (rw fit) refl)

      tagged-keeps : Kept ((q ++ opening n ccy) ++ (b ∷ [])) (step (state (tagged (given ccy)) (n ∷ ns) (suc c) ss ds) (tagged (given ccy)) i b)
      unfolding step
      tagged-keeps =
          kept-when (is_text b) _ _ text-begins
          (kept-when (eqb b (code "<") && not (given ccy) && ltb (suc (length ns)) depth_most && ltb (suc c) element_most) _ None (child-begins ccy)
          kept-none)

      module _ (text : List ℕ) (k : ℕ) (content : is_content text ≡ true) (size : length text ≡ k) where
        text-goes-on : is_text b ≡ true → ltb k text_most ≡ true
            → Holds (texting (suc k)) ((q ++ (opening n ccy ++ text)) ++ (b ∷ [])) (n ∷ ns) (suc c)
        text-goes-on fit short =
            let left = ltb-true k text_most short in
            let longer = content-grows text b content fit (omega arith) in
            let more : length (text ++ (b ∷ [])) ≡ suc k = rw length-append (omega arith) in
            rw (append_assoc q (opening n ccy ++ text) (b ∷ []), append_assoc (opening n ccy) text (b ∷ []))
            (at-texting room name ccy capitals (text ++ (b ∷ [])) longer more)

        text-ends : Holds (ending (bytes "/" ++ (n ++ bytes ">"))) ((q ++ (opening n ccy ++ text)) ++ bytes "<") (n ∷ ns) (suc c)
        unfolding good_parts depth_of count_of render
        text-ends =
            let number : suc c ≡ c + 1 = omega arith in
            let written = regrouped q (opening n ccy) text (n ++ bytes ">") in
            at-ending room.place (leaf n ccy text) (rw (name, capitals, content)) (omega arith) number (omega arith) written

        texting-keeps : Kept ((q ++ (opening n ccy ++ text)) ++ (b ∷ [])) (step (state (texting k) (n ∷ ns) (suc c) ss ds) (texting k) i b)
        unfolding step
        texting-keeps =
            kept-both (is_text b) (ltb k text_most) _ _ text-goes-on
            (kept_byte (q ++ (opening n ccy ++ text)) b (code "<") _ None text-ends
            kept-none)

  module _ (p n : List ℕ) (d total : ℕ) (place : Place q ns c) (e : Element) (good : good_parts e ≡ true)
      (depth : depth_of e + length ns ≤ depth_most) (number : total ≡ c + count_of e) (few : total ≤ element_most) where
    last-of-ending-keeps : p ++ (d ∷ []) ≡ q ++ render e
        → Kept (p ++ (b ∷ [])) (step (state (ending (d ∷ [])) (n ∷ ns) total ss ds) (ending (d ∷ [])) i b)
    unfolding step
    last-of-ending-keeps written = kept_byte p b d _ None (rw (written, number) (closed place e good depth (omega arith))) kept-none

    ending-keeps : (f : ℕ) (r : List ℕ) → p ++ (d ∷ f ∷ r) ≡ q ++ render e
        → Kept (p ++ (b ∷ [])) (step (state (ending (d ∷ f ∷ r)) (n ∷ ns) total ss ds) (ending (d ∷ f ∷ r)) i b)
    unfolding step
    ending-keeps f r written =
        kept_byte p b d _ None (at-ending place e good depth number few (append_assoc p (d ∷ []) (f ∷ r) ∙ written)) kept-none

  between-keeps : Grown q ns c → c ≤ element_most → Kept (q ++ (b ∷ [])) (step (state between ns c ss ds) between i b)
  unfolding step
  between-keeps g few = kept_byte q b (code "<") _ None (at-turning g few) kept-none

turning-keeps : {q : List ℕ} {ns : List (List ℕ)} {c : ℕ} (ss ds : List ℕ) (i b : ℕ) → Grown q ns c → c ≤ element_most
    → Kept ((q ++ bytes "<") ++ (b ∷ [])) (step (state turning ns c ss ds) turning i b)
unfolding step
turning-keeps ss ds i b (grown {q} {n} {ns} {c} place name es goods room depths) few =
    let front : List ℕ = q ++ (opening n None ++ render_all es) in
    let total : ℕ = suc c + count_all es in
    let here : Place front (n ∷ ns) total = behind (grown place name es goods room depths) in
    kept_byte (front ++ bytes "<") b (code "/") _ _ (turned n es place name goods depths few)
    (kept-both (is_letter b) (ltb total element_most) _ None
    (λ letter left. named ss ds i b front (n ∷ ns) total (record { place = here; few = ltb-true total element_most left; shallow = room }) letter)
    kept-none)

-- every step keeps what holds
pub keeps : {m : Mode} {p : List ℕ} {ns : List (List ℕ)} {c : ℕ} (ss ds : List ℕ) (i b : ℕ) → Holds m p ns c
    → Kept (p ++ (b ∷ [])) (step (state m ns c ss ds) m i b)
unfolding step
keeps ss ds i b (at-outer {q} {ns} {c} room) = outer-keeps ss ds i b q ns c room
keeps ss ds i b (at-begun {q} {ns} {c} room) = begun-keeps ss ds i b q ns c room
keeps ss ds i b (at-naming {q} {n} {ns} {c} room name) = naming-keeps ss ds i b q ns c n room name
keeps ss ds i b (at-attribute {p} {q} {n} {r = []} {d} {c} {ns} room name tags) =
    last-of-attribute-keeps ss ds i b q ns c n room name p d tags
keeps ss ds i b (at-attribute {p} {q} {n} {r = f ∷ r} {d} {c} {ns} room name tags) =
    attribute-keeps ss ds i b q ns c n room name p d f r tags
keeps ss ds i b (at-tagged {q} {n} {ns} {c} room name ccy capitals) = tagged-keeps ss ds i b q ns c n room name ccy capitals
keeps ss ds i b (at-texting {q} {n} {ns} {c} {k} room name ccy capitals text content size) =
    texting-keeps ss ds i b q ns c n room name ccy capitals text k content size
keeps ss ds i b (at-ending {p} {q} {n} {r = []} {d} {c} {total} {ns} place e good depth number few written) =
    last-of-ending-keeps ss ds i b q ns c p n d total place e good depth number few written
keeps ss ds i b (at-ending {p} {q} {n} {r = f ∷ r} {d} {c} {total} {ns} place e good depth number few written) =
    ending-keeps ss ds i b q ns c p n d total place e good depth number few f r written
keeps ss ds i b (at-between {q} {ns} {c} g few) = between-keeps ss ds i b q ns c g few
keeps ss ds i b (at-turning g few) = turning-keeps ss ds i b g few
keeps ss ds i b (at-whole w) = kept-none
