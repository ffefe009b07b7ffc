-- The part of a sheet that is shown for a field is its text: each text that a field holds stands in the sheet where it is said to.
-- Assumes nothing.
use Rattle.std.specs.Prelude.{ℕ, Option, Some, None}
use mathlib.Core.Path.{◌≡◌, refl, sym, ap, ◌∙◌, fun_ext}
use mathlib.Core.Bool.{Bool, true, false, cond, false≢true}
use mathlib.Core.List.{List, [], ◌∷◌, ◌++◌, map}
use Prim.Native.Nat.{ℕ, zero, suc, ◌+◌, ◌-◌, ◌≤◌, ◌<◌}
use native.Mathlib.Omega.{arith}
use lib.Dec.{eqb, leb}
use lib.ListN.{length, get_or, drop, replicate, get_or-eq_default}
use borrow.Author.Tests.{leb-true, le-leb, leb-false}
use Rattle.shape.specs.Bytes.{is_text}
use Rattle.table.specs.declared.Kind.{Kind}
use Rattle.table.proofs.Lines.{get_d_any}
use Rattle.sheet.specs.Reader.{while, shown_at}
use Rattle.sheet.proofs.While.{take_while, while-inside}
use Rattle.outline.specs.Rows.{ccy_at, inside_at, has_text, text_at}
use Rattle.outline.specs.Paths.{characters_of}
use Rattle.message.specs.declared.found.Spot.{Spot}
use Rattle.message.specs.Fields.{Field, fields_most}
use Rattle.message.specs.Held.{Held, missing, once, doubled}
use Rattle.message.specs.Message.{text_in, start_in, length_in, spot_in, numbered, message_from}
use Rattle.message.specs.Received.{no_spot, by_number, shown_in}
use Rattle.message.specs.Seen.{held_at}

-- what a field holds stands in the sheet
abbrev pub Stands : List ℕ → Held → Type 0
Stands s h = shown_at s (start_in h) (length_in h) ≡ text_in h

-- at the sheet's front there is always a part of no bytes
pub no_part : (s : List ℕ) → shown_at s 0 0 ≡ []
unfolding shown_at
no_part s = let h : 0 + 0 ≤ length s = omega arith in rw (le-leb (0 + 0) (length s) h)

pub missing-stands : (s : List ℕ) → Stands s missing
unfolding start_in length_in text_in
missing-stands s = no_part s

pub doubled-stands : (s : List ℕ) → Stands s doubled
unfolding start_in length_in text_in
doubled-stands s = no_part s

-- behind the sheet's end there is no text
no_text : (s : List ℕ) (a : ℕ) → length s ≤ inside_at s a → has_text s a ≡ false
unfolding has_text is_text
no_text s a h = rw (get_or-eq_default s 0 h)

text-within : (s : List ℕ) (a : ℕ) → has_text s a ≡ true → inside_at s a ≤ length s
text-within s a e = go (leb (inside_at s a) (length s)) refl
  where
    go : (t : Bool) → leb (inside_at s a) (length s) ≡ t → inside_at s a ≤ length s
    go true f = leb-true (inside_at s a) (length s) f
    go false f = absurd (false≢true (sym (no_text s a (omega (arith, leb-false (inside_at s a) (length s) f))) ∙ e))

-- the text of the element at a place stands where its content begins
part-read : (s : List ℕ) (i : ℕ) → i ≤ length s → shown_at s i (length (while is_text (drop i s))) ≡ while is_text (drop i s)
unfolding shown_at
part-read s i h = rw (le-leb (i + length (while is_text (drop i s))) (length s) (while-inside is_text s i h)) (take_while is_text (drop i s))

pub element-stands : (s : List ℕ) (a : ℕ) → Stands s (once (ccy_at s a) (inside_at s a) (text_at s a))
unfolding text_at start_in length_in text_in characters_of
element-stands s a = go (has_text s a) refl
  where
    go : (t : Bool) → has_text s a ≡ t → Stands s (once (ccy_at s a) (inside_at s a) (cond t (Some (while is_text (drop (inside_at s a) s))) None))
    go true e = part-read s (inside_at s a) (text-within s a e)
    go false e = no_part s

pub seen_stands : (s : List ℕ) (count start : ℕ) → Stands s (held_at s count start)
unfolding held_at
seen_stands s count start = go (eqb count 0) (eqb count 1)
  where
    go : (t u : Bool) → Stands s (cond t missing (cond u (once (ccy_at s start) (inside_at s start) (text_at s start)) doubled))
    go true u = missing-stands s
    go false true = element-stands s start
    go false false = doubled-stands s

-- what holds of what each field holds holds by number
each_stands : (s : List ℕ) (g : Field → Held) → ((f : Field) → Stands s (g f)) → (fields : List Field) (k : ℕ) → Stands s (get_or (map g fields) k missing)
each_stands s g st [] k = missing-stands s
each_stands s g st (f ∷ fields) zero = st f
each_stands s g st (f ∷ fields) (suc k) = each_stands s g st fields k

pub all-stand : (s : List ℕ) (g : Field → Held) → ((f : Field) → Stands s (g f)) → (fields : List Field) (k : ℕ) → Stands s (numbered (map g fields) k)
all-stand s g st fields zero = missing-stands s
all-stand s g st fields (suc k) = each_stands s g st fields k

-- an array by number has at each number what is said of that field
none-have : (n k : ℕ) → get_or (replicate n no_spot) k no_spot ≡ no_spot
none-have zero k = refl
none-have (suc n) zero = refl
none-have (suc n) (suc k) = none-have n k

spots-have : (held : List Held) (n k : ℕ) → get_or (map spot_in held ++ replicate n no_spot) k no_spot ≡ spot_in (get_or held k missing)
unfolding start_in length_in
spots-have [] n k = none-have n k
spots-have (h ∷ held) n zero = refl
spots-have (h ∷ held) n (suc k) = spots-have held n k

by_number_lem : (held : List Held) (k : ℕ) → get_or (by_number (map spot_in held)) k no_spot ≡ spot_in (numbered held k)
unfolding start_in length_in
by_number_lem held zero = refl
by_number_lem held (suc k) = spots-have held (fields_most - length (map spot_in held)) k

module _ (s : List ℕ) (held : List Held) (st : (k : ℕ) → Stands s (numbered held k)) where
  -- the part that is shown for a number is the text of the field with that number
  pub shown-is-text : (k : ℕ) → shown_in s (by_number (map spot_in held)) k ≡ text_in (numbered held k)
  unfolding shown_in
  shown-is-text k = rw (by_number_lem held k) (st k)

  -- so a message may be made of the parts or of the texts
  pub message-shown : (kind : Kind) (currency : Option ℕ)
      → message_from kind (shown_in s (by_number (map spot_in held))) currency ≡ message_from kind (λ (k : ℕ). text_in (numbered held k)) currency
  message-shown kind currency = ap (λ (text : ℕ → List ℕ). message_from kind text currency) (fun_ext shown-is-text)

-- the part that is shown for a number is that of the spot that the array has for it; where it has none, nothing
pub spot-shown : (s : List ℕ) (spots : List Spot) (k : ℕ) (spot other : Spot) → spot ≡ get_or spots k other → k < length spots
    → shown_at s spot.start spot.length ≡ shown_in s spots k
unfolding shown_in
spot-shown s spots k spot other e h = rw (e, get_d_any spots k other no_spot h)

pub none-shown : (s : List ℕ) (spots : List Spot) (k : ℕ) → length spots ≤ k → [] ≡ shown_in s spots k
unfolding shown_in
none-shown s spots k h = rw (get_or-eq_default spots no_spot h) (sym (no_part s))
