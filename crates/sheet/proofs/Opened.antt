-- An opening tag, and a leaf's text with its closing tag, put together from their parts.
-- Assumes nothing.
use mathlib.Core.Path.{◌≡◌, refl, sym, ap, subst, ◌∙◌}
use mathlib.Core.Bool.{Bool, true, false, ◌&&◌, false≢true}
use mathlib.Core.List.{List, [], ◌∷◌, ◌++◌}
use Prim.Native.Nat.{ℕ, suc, ◌+◌, ◌-◌, ◌≤◌, ◌<◌}
use native.Mathlib.Omega.{arith}
use native.Mathlib.Numerals.{add-one}
use lib.Dec.{ltb}
use lib.ListN.{length, get_or, length-append, get_or-eq_default}
use borrow.Author.Tests.{ltb-true, ltb-false, ne_eqb}
use Rattle.shape.specs.Text.{bytes}
use Rattle.shape.specs.Bytes.{is_digit, is_capital, is_small, is_letter, is_text}
use Rattle.sheet.specs.Grammar.{is_name_byte, name_most, text_most}
use Rattle.sheet.specs.Machine.{State, Mode, begun, naming, attribute, tagged, texting, ending, goes, begins, opens, closes, innermost, step}
use Rattle.sheet.specs.declared.parts.Tag.{Tag}
use Rattle.sheet.specs.declared.parts.Refused.{Refused}
use Rattle.std.specs.Prelude.{Result, Ok, Err, Some, None}
use Rattle.sheet.specs.Parts.{run_at, part_of, Comes, opened, NameRead, TextRead, AttributeRead, ClosingRead, TagRead, LeafRead}
use Rattle.sheet.proofs.Runs.{refusal, run-go, run-stop, part_length}
use Rattle.sheet.proofs.Ends.{inside}

-- no letter
begun-refused : (st : State) (m : Mode) (i b : ℕ) → is_letter b ≡ false → step (goes st m) begun i b ≡ None
unfolding step
begun-refused st m i b e = rw e

begun-taken : (st : State) (m : Mode) (i b : ℕ) → is_letter b ≡ true → step (goes st m) begun i b ≡ Some (begins st i b)
unfolding step
begun-taken st m i b e = rw e

zero-no-letter : is_letter 0 ≡ false
unfolding is_letter is_capital is_small
zero-no-letter = refl

-- a letter stands within the sheet
pub letter-inside : (s : List ℕ) (i : ℕ) → is_letter (get_or s i 0) ≡ true → i < length s
letter-inside s i e = go (ltb i (length s)) refl
  where
    go : (t : Bool) → ltb i (length s) ≡ t → i < length s
    go true h = ltb-true i (length s) h
    go false h = absurd (false≢true (sym zero-no-letter ∙ rw (get_or-eq_default s 0 (ltb-false i (length s) h)) at e))

-- the byte behind a name
name-closed : (st : State) (m : Mode) (n : List ℕ) (i b : ℕ) → b ≡ 62 → step (goes st m) (naming n) i b ≡ Some (opens st n (tagged false))
unfolding step is_name_byte is_letter is_capital is_small is_digit
name-closed st m n i b e = rw e

name-blank : (st : State) (m : Mode) (n : List ℕ) (i b : ℕ) → b ≡ 32 → step (goes st m) (naming n) i b ≡ Some (opens st n (attribute (bytes "Ccy=\"^^^\">")))
unfolding step is_name_byte is_letter is_capital is_small is_digit
name-blank st m n i b e = rw e

name-refused : (st : State) (m : Mode) (n : List ℕ) (i b : ℕ) → (is_name_byte b && ltb (length n) name_most) ≡ false → (b ≡ 62 → ⊥) → (b ≡ 32 → ⊥) → step (goes st m) (naming n) i b ≡ None
unfolding step
name-refused st m n i b e p q = rw (e, ne_eqb b 62 p, ne_eqb b 32 q)

-- a refusal is no tag, and a tag that was read is that one
no-tag : {p : ℕ} {t : Tag} → ◌≡◌ {A = Result Tag Refused} (refusal p) (Ok t) → ⊥
no-tag e = let z : ◌≡◌ {A = ℕ} 0 1 = cc in omega arith

same-tag : (t u : Tag) (s : List ℕ) (at : ℕ) → ◌≡◌ {A = Result Tag Refused} (Ok t) (Ok u)
    → (at < t.to) × (t.to < t.place) × (t.place ≤ length s) → (at < u.to) × (u.to < u.place) × (u.place ≤ length s)
same-tag t u s at e p =
    let same : t ≡ u = cc in
    subst (λ (x : Tag). (at < x.to) × (x.to < x.place) × (x.place ≤ length s)) same p

module _ (s : List ℕ) (at : ℕ) where
  pub tag-unnamed : is_letter (get_or s at 0) ≡ false → TagRead s at (refusal at)
  tag-unnamed e = record {
    comes = λ st. run-stop s (goes st begun) at refl (begun-refused st begun at (get_or s at 0) e);
    places = λ t f. absurd (no-tag f);
  }

  module _ (to : ℕ) (letter : is_letter (get_or s at 0) ≡ true) (name : NameRead s at to) where
    -- the machine has read the name
    named : (st : State) → run_at s (goes st begun) at ≡ run_at s (goes (begins st at (get_or s at 0)) (naming (part_of s at to))) to
    named st =
        run-go s (goes st begun) at (begins st at (get_or s at 0)) (letter-inside s at letter) (begun-taken st begun at (get_or s at 0) letter)
        ∙ name.goes_on (begins st at (get_or s at 0))

    pub tag-plain : get_or s to 0 ≡ 62 → TagRead s at (Ok (record { to = to; ccy = false; place = to + 1 }))
    tag-plain e =
        let h = inside s to 61 e in
        record {
          comes = λ st.
              rw (add-one to)
              (named st
              ∙ run-go s (goes (begins st at (get_or s at 0)) (naming (part_of s at to))) to (opened st at (part_of s at to) false) h
              (name-closed (begins st at (get_or s at 0)) (naming (part_of s at to)) (part_of s at to) to (get_or s to 0) e));
          places = λ t f. same-tag (record { to = to; ccy = false; place = to + 1 }) t s at f (name.longer, omega arith, omega arith);
        }

    pub tag-broken : (get_or s to 0 ≡ 62 → ⊥) → (get_or s to 0 ≡ 32 → ⊥) → TagRead s at (refusal to)
    tag-broken p q = record {
      comes = λ st.
          named st
          ∙ run-stop s (goes (begins st at (get_or s at 0)) (naming (part_of s at to))) to refl
          (name-refused (begins st at (get_or s at 0)) (naming (part_of s at to)) (part_of s at to) to (get_or s to 0)
          (rw (part_length s at to name.inside) name.stops) p q);
      places = λ t f. absurd (no-tag f);
    }

    -- the machine has read the blank
    blank : get_or s to 0 ≡ 32 → (st : State) → run_at s (goes st begun) at ≡ run_at s (goes (opened st at (part_of s at to) true) (attribute (bytes "Ccy=\"^^^\">"))) (to + 1)
    blank e st =
        rw (add-one to)
        (named st
        ∙ run-go s (goes (begins st at (get_or s at 0)) (naming (part_of s at to))) to (goes (opened st at (part_of s at to) true) (attribute (bytes "Ccy=\"^^^\">"))) (inside s to 31 e)
        (name-blank (begins st at (get_or s at 0)) (naming (part_of s at to)) (part_of s at to) to (get_or s to 0) e))

    pub tag-with-ccy : (p : ℕ) → get_or s to 0 ≡ 32 → AttributeRead s (to + 1) (Ok p) → TagRead s at (Ok (record { to = to; ccy = true; place = p }))
    tag-with-ccy p e r =
        let ahead = r.comes (opened (record { mode = begun; names = []; count = 0; starts = []; depths = [] }) at [] true) in
        record {
          comes = λ st. blank e st ∙ (r.comes (opened st at (part_of s at to) true)).0;
          places = λ t f. same-tag (record { to = to; ccy = true; place = p }) t s at f (name.longer, omega arith, ahead.2);
        }

    pub tag-without-ccy : (p : ℕ) → get_or s to 0 ≡ 32 → AttributeRead s (to + 1) (refusal p) → TagRead s at (refusal p)
    tag-without-ccy p e r = record {
      comes = λ st. blank e st ∙ r.comes (opened st at (part_of s at to) true);
      places = λ t f. absurd (no-tag f);
    }

-- reading that came from further back
comes-later : (s : List ℕ) (st mid next : State) (i j : ℕ) (r : Result ℕ Refused) → run_at s st i ≡ run_at s mid j → i < j → Comes s mid j next r → Comes s st i next r
comes-later s st mid next i j (Ok p) e h c = (e ∙ c.0, omega arith, c.2)
comes-later s st mid next i j (Err p) e h c = e ∙ c

-- the bytes behind a text
text-closed : (st : State) (m : Mode) (k i b : ℕ) → b ≡ 60 → step (goes st m) (texting k) i b ≡ Some (goes st (ending (bytes "/" ++ (innermost st.names ++ bytes ">"))))
unfolding step is_text
text-closed st m k i b e = rw e

text-refused : (st : State) (m : Mode) (k i b : ℕ) → (is_text b && ltb k text_most) ≡ false → (b ≡ 60 → ⊥) → step (goes st m) (texting k) i b ≡ None
unfolding step
text-refused st m k i b e p = rw (e, ne_eqb b 60 p)

slash-taken : (st : State) (m : Mode) (r : List ℕ) (i b : ℕ) → 0 < length r → b ≡ 47 → step (goes st m) (ending (bytes "/" ++ r)) i b ≡ Some (goes st (ending r))
unfolding step
slash-taken st m [] i b h e = absurd (omega arith)
slash-taken st m (c ∷ r) i b h e = rw e

slash-refused : (st : State) (m : Mode) (r : List ℕ) (i b : ℕ) → (b ≡ 47 → ⊥) → step (goes st m) (ending (bytes "/" ++ r)) i b ≡ None
unfolding step
slash-refused st m [] i b e = rw (ne_eqb b 47 e)
slash-refused st m (c ∷ r) i b e = rw (ne_eqb b 47 e)

tagged-text : (st : State) (m : Mode) (ccy : Bool) (i b : ℕ) → is_text b ≡ true → step (goes st m) (tagged ccy) i b ≡ Some (goes st (texting 1))
unfolding step
tagged-text st m ccy i b e = rw e

module _ (s : List ℕ) (at from to end : ℕ) (h : at < length s) (content : is_text (get_or s at 0) ≡ true) (text : TextRead s at end) where
  -- the machine has read the text
  texted : (st : State) (ccy : Bool) → run_at s (goes st (tagged ccy)) at ≡ run_at s (goes st (texting (end - at))) end
  texted st ccy =
      run-go s (goes st (tagged ccy)) at (goes st (texting 1)) h (tagged-text st (tagged ccy) ccy at (get_or s at 0) content) ∙ text.goes_on st

  pub leaf-broken : (get_or s end 0 ≡ 60 → ⊥) → LeafRead s at from to (refusal end)
  leaf-broken p = record {
    comes = λ st ccy e. texted st ccy ∙ run-stop s (goes st (texting (end - at))) end refl (text-refused st (texting (end - at)) (end - at) end (get_or s end 0) text.stops p);
  }

  module _ (closed : get_or s end 0 ≡ 60) where
    -- the machine has read the `<` behind the text
    turned : (st : State) (ccy : Bool) → innermost st.names ≡ part_of s from to
        → run_at s (goes st (tagged ccy)) at ≡ run_at s (goes st (ending (bytes "/" ++ (part_of s from to ++ bytes ">")))) (suc end)
    turned st ccy e =
        texted st ccy
        ∙ run-go s (goes st (texting (end - at))) end (goes st (ending (bytes "/" ++ (part_of s from to ++ bytes ">")))) (inside s end 59 closed)
        (text-closed st (texting (end - at)) (end - at) end (get_or s end 0) closed ∙ ap (λ (n : List ℕ). Some (goes st (ending (bytes "/" ++ (n ++ bytes ">"))))) e)

    pub leaf-open : (get_or s (end + 1) 0 ≡ 47 → ⊥) → LeafRead s at from to (refusal (end + 1))
    leaf-open p = record {
      comes = λ st ccy e.
          rw (add-one end)
          (turned st ccy e
          ∙ run-stop s (goes st (ending (bytes "/" ++ (part_of s from to ++ bytes ">")))) (suc end) refl
          (slash-refused st (ending (bytes "/" ++ (part_of s from to ++ bytes ">"))) (part_of s from to ++ bytes ">") (suc end) (get_or s (suc end) 0) (rw (add-one end) at p)));
    }

    pub leaf-ends : (r : Result ℕ Refused) → get_or s (end + 1) 0 ≡ 47 → ClosingRead s (end + 2) from to r → LeafRead s at from to r
    leaf-ends r e q = record {
      comes = λ st ccy i. comes-later s (goes st (tagged ccy)) (goes st (ending (part_of s from to ++ bytes ">"))) (closes st) at (end + 2) r
          (slashed st ccy i) (omega arith) (q.comes st);
    }
      where
        slashed : (st : State) (ccy : Bool) → innermost st.names ≡ part_of s from to
            → run_at s (goes st (tagged ccy)) at ≡ run_at s (goes st (ending (part_of s from to ++ bytes ">"))) (end + 2)
        slashed st ccy i =
            let long : 0 < length (part_of s from to ++ bytes ">") = rw (length-append (part_of s from to) (bytes ">")) (omega arith) in
            let there : end + 2 ≡ suc (suc end) = omega arith in
            let slash : get_or s (suc end) 0 ≡ 47 = rw (add-one end) at e in
            rw there
            (turned st ccy i
            ∙ run-go s (goes st (ending (bytes "/" ++ (part_of s from to ++ bytes ">")))) (suc end) (goes st (ending (part_of s from to ++ bytes ">"))) (inside s (suc end) 46 slash)
            (slash-taken st (ending (bytes "/" ++ (part_of s from to ++ bytes ">"))) (part_of s from to ++ bytes ">") (suc end) (get_or s (suc end) 0) long slash))
