-- Names and texts, byte after byte.
-- Assumes nothing.
use mathlib.Core.Path.{◌≡◌, ◌∙◌}
use mathlib.Core.Bool.{true, false, ◌&&◌}
use mathlib.Core.List.{List, [], ◌∷◌, ◌++◌}
use Prim.Native.Nat.{ℕ, suc, ◌+◌, ◌-◌, ◌≤◌, ◌<◌}
use native.Mathlib.Omega.{arith}
use native.Mathlib.Numerals.{add-one}
use lib.Dec.{ltb}
use lib.ListN.{length, get_or}
use borrow.Author.Tests.{lt-ltb, le-ltb}
use Rattle.shape.specs.Bytes.{is_text}
use Rattle.shape.proofs.Tests.{and-false}
use Rattle.sheet.specs.Grammar.{name_most, text_most, is_name_byte}
use Rattle.sheet.specs.Machine.{State, naming, texting, goes}
use Rattle.sheet.specs.Parts.{run_at, part_of, NameRead, TextRead}
use Rattle.sheet.proofs.Runs.{run-go, part-more, part_length, name-taken, text-taken}

part-one : (s : List ℕ) (from : ℕ) → from < length s → part_of s from (from + 1) ≡ get_or s from 0 ∷ []
part-one s from h =
    let none : from - from ≡ 0 = omega arith in
    rw (add-one from) (part-more s from from (omega arith) h ∙ rw none)

-- a name has been read up to i
pub record NameTo (s : List ℕ) (from i : ℕ) : Type 0 where
  pub longer : from < i
  pub inside : i ≤ length s
  pub short : i ≤ from + name_most
  pub goes_on : (st : State) → run_at s (goes st (naming (get_or s from 0 ∷ []))) (suc from) ≡ run_at s (goes st (naming (part_of s from i))) i

pub name-begins : (s : List ℕ) (from : ℕ) → from < length s → NameTo s from (from + 1)
name-begins s from h = record {
  longer = omega arith;
  inside = omega arith;
  short = omega arith;
  goes_on = λ st. rw (part-one s from h, add-one from);
}

module _ (s : List ℕ) (from i : ℕ) (so_far : NameTo s from i) where
  pub name-goes : i < length s → i - from < name_most → is_name_byte (get_or s i 0) ≡ true → NameTo s from (i + 1)
  name-goes h k e = record {
    longer = omega arith;
    inside = omega arith;
    short = omega arith;
    goes_on = λ st.
        so_far.goes_on st
        ∙ run-go s (goes st (naming (part_of s from i))) i (goes st (naming (part_of s from i ++ (get_or s i 0 ∷ [])))) h
        (name-taken (goes st (naming (part_of s from i))) (part_of s from i) i (get_or s i 0)
        (rw (e, part_length s from i (omega arith)) (lt-ltb (i - from) name_most k)))
        ∙ rw (add-one i, part-more s from i (omega arith) h);
  }

  pub name-ends : (is_name_byte (get_or s i 0) && ltb (i - from) name_most) ≡ false → NameRead s from i
  name-ends e = record { longer = so_far.longer; inside = so_far.inside; short = so_far.short; goes_on = so_far.goes_on; stops = e }

  pub name-full : name_most ≤ i - from → NameRead s from i
  name-full h = name-ends (and-false (is_name_byte (get_or s i 0)) (ltb (i - from) name_most) (le-ltb (i - from) name_most h))

-- a text has been read up to i
pub record TextTo (s : List ℕ) (from i : ℕ) : Type 0 where
  pub longer : from < i
  pub inside : i ≤ length s
  pub goes_on : (st : State) → run_at s (goes st (texting 1)) (suc from) ≡ run_at s (goes st (texting (i - from))) i

pub text-begins : (s : List ℕ) (from : ℕ) → from < length s → TextTo s from (from + 1)
text-begins s from h =
    let one : from + 1 - from ≡ 1 = omega arith in
    record { longer = omega arith; inside = omega arith; goes_on = λ st. rw (one, add-one from) }

module _ (s : List ℕ) (from i : ℕ) (so_far : TextTo s from i) where
  pub text-goes : i < length s → i - from < text_most → is_text (get_or s i 0) ≡ true → TextTo s from (i + 1)
  text-goes h k e =
      let more : i + 1 - from ≡ suc (i - from) = omega arith in
      record {
        longer = omega arith;
        inside = omega arith;
        goes_on = λ st.
            so_far.goes_on st
            ∙ run-go s (goes st (texting (i - from))) i (goes st (texting (suc (i - from)))) h
            (text-taken (goes st (texting (i - from))) (i - from) i (get_or s i 0) (rw e (lt-ltb (i - from) text_most k)))
            ∙ rw (more, add-one i);
      }

  pub text-ends : (is_text (get_or s i 0) && ltb (i - from) text_most) ≡ false → TextRead s from i
  text-ends e = record { longer = so_far.longer; inside = so_far.inside; goes_on = so_far.goes_on; stops = e }

  pub text-full : text_most ≤ i - from → TextRead s from i
  text-full h = text-ends (and-false (is_text (get_or s i 0)) (ltb (i - from) text_most) (le-ltb (i - from) text_most h))
