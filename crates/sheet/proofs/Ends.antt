-- Past the end of a sheet stands 0, which is no byte of a name, of a text or of a tag.
-- Assumes nothing.
use mathlib.Core.Path.{◌≡◌, refl, sym, ◌∙◌}
use mathlib.Core.Bool.{Bool, true, false, false≢true}
use mathlib.Core.List.{List}
use Prim.Native.Nat.{ℕ, suc, ◌≤◌, ◌<◌}
use native.Mathlib.Omega.{arith}
use lib.Dec.{ltb}
use lib.ListN.{length, get_or, get_or-eq_default}
use borrow.Author.Tests.{ltb-true, ltb-false}
use Rattle.shape.specs.Bytes.{is_digit, is_capital, is_small, is_letter, is_text}
use Rattle.sheet.specs.Grammar.{is_name_byte}
use Rattle.sheet.specs.Parts.{NameRead, TextRead}
use Rattle.sheet.proofs.Names.{NameTo, TextTo, name-ends, text-ends}

zero-no-name : is_name_byte 0 ≡ false
unfolding is_name_byte is_letter is_capital is_small is_digit
zero-no-name = refl

zero-no-text : is_text 0 ≡ false
unfolding is_text
zero-no-text = refl

pub name-at-end : (s : List ℕ) (from i : ℕ) → NameTo s from i → length s ≤ i → NameRead s from i
name-at-end s from i r h = name-ends s from i r (rw (get_or-eq_default s 0 h, zero-no-name))

pub text-at-end : (s : List ℕ) (from i : ℕ) → TextTo s from i → length s ≤ i → TextRead s from i
text-at-end s from i r h = text-ends s from i r (rw (get_or-eq_default s 0 h, zero-no-text))

-- where a byte stands that is not 0, the sheet has not ended
pub inside : (s : List ℕ) (i b : ℕ) → get_or s i 0 ≡ suc b → i < length s
inside s i b e = go (ltb i (length s)) refl
  where
    go : (t : Bool) → ltb i (length s) ≡ t → i < length s
    go true h = ltb-true i (length s) h
    go false h = absurd (let z : 0 ≡ suc b = sym (get_or-eq_default s 0 (ltb-false i (length s) h)) ∙ e in omega arith)

-- a text byte stands within the sheet
pub text-inside : (s : List ℕ) (i : ℕ) → is_text (get_or s i 0) ≡ true → i < length s
text-inside s i e = go (ltb i (length s)) refl
  where
    go : (t : Bool) → ltb i (length s) ≡ t → i < length s
    go true h = ltb-true i (length s) h
    go false h = absurd (false≢true (sym zero-no-text ∙ rw (get_or-eq_default s 0 (ltb-false i (length s) h)) at e))
