-- The machine reads the parts of an element: the rest of its name, a Ccy, a text, a closing tag.
-- Assumes nothing.
use mathlib.Core.Path.{◌≡◌, refl, ap}
use mathlib.Core.Bool.{Bool, true, false, ◌&&◌, false≢true}
use mathlib.Core.List.{List, [], ◌∷◌, ◌++◌, append_assoc, append-nil}
use Prim.Native.Nat.{ℕ, suc, ◌+◌, ◌≤◌}
use Prim.Native.Char.{code}
use native.Mathlib.Omega.{arith}
use native.Mathlib.Nat.{add-zero}
use lib.ListN.{length, length-append}
use borrow.Author.Tests.{lt-ltb, eq-eqb}
use Rattle.shape.specs.Text.{bytes}
use Rattle.shape.specs.Bytes.{every, is_digit, is_letter, is_capital, is_small, is_text}
use Rattle.shape.specs.Patterns.{fits, within, currency_pattern}
use Rattle.shape.proofs.Tests.{and_left, and_right}
use Rattle.sheet.specs.Grammar.{closing, name_most, text_most, is_name_byte, is_content}
use Rattle.sheet.specs.Machine.{naming, attribute, tagged, texting, ending, between, whole, State, goes, opens, closes, after_closing, step}
use Rattle.sheet.proofs.Acceptance.Parts.{content-bytes, content-some, content-short}
use Rattle.sheet.proofs.Acceptance.Passage.{Reads, nothing_read, byte-then, passage-then, same-passage}

-- the bytes of a name that follow a part of it
pub reads-name : (w n : List ℕ) (st : State) (i : ℕ) → every is_name_byte w ≡ true → length n + length w ≤ name_most
    → Reads (goes st (naming n)) i w (goes st (naming (n ++ w)))
unfolding step
reads-name [] n st i g h = rw append-nil (nothing_read (goes st (naming n)) i)
reads-name (b ∷ w) n st i g h =
    let e : n ++ (b ∷ []) ++ w ≡ n ++ (b ∷ w) = append_assoc n (b ∷ []) w in
    byte-then {mid = goes st (naming (n ++ (b ∷ [])))}
    (rw (and_left (is_name_byte b) (every is_name_byte w) g, lt-ltb (length n) name_most (omega arith)))
    (rw e at (reads-name w (n ++ (b ∷ [])) st (suc i) (and_right (is_name_byte b) (every is_name_byte w) g) (simp length-append (omega arith))))

-- behind the name the tag ends, and the element is open
pub reads-tag-end : (n : List ℕ) (st : State) (i : ℕ) → Reads (goes st (naming n)) i (bytes ">") (opens st n (tagged false))
unfolding step is_name_byte is_letter is_capital is_small is_digit
reads-tag-end n st i = byte-then refl (nothing_read (opens st n (tagged false)) (suc i))

-- behind the name stands a blank, and a Ccy must follow
reads-blank : (n : List ℕ) (st : State) (i : ℕ) → Reads (goes st (naming n)) i (bytes " ") (opens st n (attribute (bytes "Ccy=\"^^^\">")))
unfolding step is_name_byte is_letter is_capital is_small is_digit
reads-blank n st i = byte-then refl (nothing_read (opens st n (attribute (bytes "Ccy=\"^^^\">"))) (suc i))

-- a Ccy of three capitals, and the end of the tag
reads-attribute : (a b c : ℕ) (st : State) (i : ℕ) → is_capital a ≡ true → is_capital b ≡ true → is_capital c ≡ true
    → Reads (goes st (attribute (bytes "Ccy=\"^^^\">"))) i (bytes "Ccy=\"" ++ (a ∷ b ∷ c ∷ bytes "\">")) (goes st (tagged true))
unfolding step
reads-attribute a b c st i p q r =
    byte-then refl (byte-then refl (byte-then refl (byte-then refl (byte-then refl
    (byte-then {mid = goes st (attribute (bytes "^^\">"))} (rw p)
    (byte-then {mid = goes st (attribute (bytes "^\">"))} (rw q)
    (byte-then {mid = goes st (attribute (bytes "\">"))} (rw r)
    (byte-then refl (byte-then refl (nothing_read (goes st (tagged true)) _))))))))))

-- a blank and a Ccy stand behind the name, and the element is open
pub reads-ccy : (n ccy : List ℕ) (st : State) (i : ℕ) → fits currency_pattern ccy ≡ true
    → Reads (goes st (naming n)) i (bytes " Ccy=\"" ++ (ccy ++ bytes "\">")) (opens st n (tagged true))
unfolding fits within currency_pattern
reads-ccy n [] st i g = absurd (false≢true g)
reads-ccy n (a ∷ []) st i g = absurd (false≢true (and_right (is_capital a) false g))
reads-ccy n (a ∷ b ∷ []) st i g = absurd (false≢true (and_right (is_capital b) false (and_right (is_capital a) (is_capital b && false) g)))
reads-ccy n (a ∷ b ∷ c ∷ []) st i g =
    let g1 : is_capital b && (is_capital c && true) ≡ true = and_right (is_capital a) (is_capital b && (is_capital c && true)) g in
    let g2 : is_capital c && true ≡ true = and_right (is_capital b) (is_capital c && true) g1 in
    passage-then (reads-blank n st i)
    (reads-attribute a b c (opens st n (tagged true)) (i + 1) (and_left (is_capital a) (is_capital b && (is_capital c && true)) g) (and_left (is_capital b) (is_capital c && true) g1) (and_left (is_capital c) true g2))
reads-ccy n (a ∷ b ∷ c ∷ d ∷ s) st i g =
    absurd (false≢true (and_right (is_capital c) false (and_right (is_capital b) (is_capital c && false) (and_right (is_capital a) (is_capital b && (is_capital c && false)) g))))

-- the bytes of a text that follow k of them
reads-text-from : (s : List ℕ) (k : ℕ) (st : State) (i : ℕ) → every is_text s ≡ true → k + length s ≤ text_most
    → Reads (goes st (texting k)) i s (goes st (texting (k + length s)))
unfolding step
reads-text-from [] k st i g h = rw add-zero (nothing_read (goes st (texting k)) i)
reads-text-from (b ∷ s) k st i g h =
    byte-then {mid = goes st (texting (suc k))}
    (rw (and_left (is_text b) (every is_text s) g, lt-ltb k text_most (omega arith)))
    (same-passage (reads-text-from s (suc k) st (suc i) (and_right (is_text b) (every is_text s) g) (omega arith)) refl (ap (λ (m : ℕ). goes st (texting m)) (omega arith)))

-- a text, behind an opening tag
pub reads-text : (s : List ℕ) (ccy : Bool) (st : State) (i : ℕ) → is_content s ≡ true → Reads (goes st (tagged ccy)) i s (goes st (texting (length s)))
unfolding step
reads-text [] ccy st i g = absurd (omega (arith, content-some [] g))
reads-text (b ∷ s) ccy st i g =
    let t : every is_text (b ∷ s) ≡ true = content-bytes (b ∷ s) g in
    byte-then {mid = goes st (texting 1)}
    (rw (and_left (is_text b) (every is_text s) t))
    (same-passage (reads-text-from s 1 st (suc i) (and_right (is_text b) (every is_text s) t) (omega (arith, content-short (b ∷ s) g))) refl (ap (λ (m : ℕ). goes st (texting m)) (omega arith)))

-- what is left of a closing tag
reads-closing : (r : List ℕ) (c : ℕ) (st : State) (i : ℕ) → Reads (goes st (ending (r ++ (c ∷ [])))) i (r ++ (c ∷ [])) (closes st)
unfolding step
reads-closing [] c st i = byte-then (rw (eq-eqb c c refl)) (nothing_read (closes st) (suc i))
reads-closing (b ∷ []) c st i = byte-then (rw (eq-eqb b b refl)) (reads-closing [] c st (suc i))
reads-closing (b ∷ d ∷ r) c st i = byte-then (rw (eq-eqb b b refl)) (reads-closing (d ∷ r) c st (suc i))

-- the closing tag behind a text, and the one behind the last child
pub reads-text-end : (name : List ℕ) (k : ℕ) (st : State) (i : ℕ) → Reads (opens st name (texting k)) i (closing name) (goes st (after_closing st.names))
unfolding step is_text
reads-text-end name k st i = byte-then refl (reads-closing (bytes "/" ++ name) (code ">") (opens st name whole) (suc i))

pub reads-children-end : (name : List ℕ) (st : State) (i : ℕ) → Reads (opens st name between) i (closing name) (goes st (after_closing st.names))
unfolding step
reads-children-end name st i = byte-then refl (byte-then refl (reads-closing name (code ">") (opens st name whole) (suc (suc i))))
