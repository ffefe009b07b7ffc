-- A name and a text as they are counted: the bytes in front that pass a test, as many as a name or a text may have.
-- Assumes nothing.
use mathlib.Core.Path.{◌≡◌, refl, sym, ap, ◌∙◌}
use mathlib.Core.Bool.{Bool, true, false}
use mathlib.Core.List.{List}
use Prim.Native.Nat.{ℕ, zero, suc, ◌+◌, ◌-◌, ◌≤◌, ◌<◌}
use native.Mathlib.Omega.{arith}
use native.Mathlib.Nat.{add-zero}
use lib.Dec.{ltb}
use lib.ListN.{length, get_or}
use borrow.Author.Tests.{ltb-true, ltb-false}
use Rattle.std.specs.List.{prefix_len}
use Rattle.std.proofs.lemmas.List.Sums.{prefix_len-le-length, prefix_len_passes, prefix_len_stops}
use Rattle.shape.specs.Bytes.{is_text}
use Rattle.sheet.specs.Grammar.{is_name_byte, name_most, text_most}
use Rattle.sheet.specs.Parts.{part_of, NameRead, TextRead}
use Rattle.sheet.proofs.Runs.{part-at, part_length}
use Rattle.sheet.proofs.Names.{NameTo, name-begins, name-goes, name-ends, name-full, TextTo, text-begins, text-goes, text-ends, text-full}
use Rattle.sheet.proofs.Ends.{name-at-end, text-at-end}

-- the bytes from one place on that pass a test, up to another place
module _ (f : ℕ → Bool) (s : List ℕ) (from to : ℕ) (inside : to ≤ length s) where
  abbrev run : ℕ
  run = prefix_len f (part_of s from to)

  run-short : run ≤ to - from
  run-short = omega (arith, prefix_len-le-length f (part_of s from to), part_length s from to inside)

  run-passes : (k : ℕ) → k < run → f (get_or s (from + k) 0) ≡ true
  run-passes k h = ap f (sym (part-at s from to k (omega (arith, run-short)))) ∙ prefix_len_passes f (part_of s from to) k 0 h

  run-stops : run < to - from → f (get_or s (from + run) 0) ≡ false
  run-stops h =
      ap f (sym (part-at s from to run h)) ∙ prefix_len_stops f (part_of s from to) 0 (omega (arith, part_length s from to inside))

-- from the byte after the first one on, up to the most that there may be or the sheet's end
module _ (s : List ℕ) (from to : ℕ) (here : from < length s) (longer : from < to) (inside : to ≤ length s) where
  abbrev names : ℕ
  names = prefix_len is_name_byte (part_of s (from + 1) to)

  abbrev texts : ℕ
  texts = prefix_len is_text (part_of s (from + 1) to)

  name-so-far : to ≤ from + name_most → (k : ℕ) → k ≤ names → NameTo s from (from + 1 + k)
  name-so-far most zero h = rw (add-zero (from + 1)) (name-begins s from here)
  name-so-far most (suc k) h =
      let short = run-short is_name_byte s (from + 1) to inside in
      let next : from + 1 + suc k ≡ from + 1 + k + 1 = omega arith in
      rw next
      (name-goes s from (from + 1 + k) (name-so-far most k (omega arith)) (omega arith) (omega arith)
      (run-passes is_name_byte s (from + 1) to inside k (omega arith)))

  text-so-far : to ≤ from + text_most → (k : ℕ) → k ≤ texts → TextTo s from (from + 1 + k)
  text-so-far most zero h = rw (add-zero (from + 1)) (text-begins s from here)
  text-so-far most (suc k) h =
      let short = run-short is_text s (from + 1) to inside in
      let next : from + 1 + suc k ≡ from + 1 + k + 1 = omega arith in
      rw next
      (text-goes s from (from + 1 + k) (text-so-far most k (omega arith)) (omega arith) (omega arith)
      (run-passes is_text s (from + 1) to inside k (omega arith)))

  pub name-counted : to ≤ from + name_most → (to < length s → to ≡ from + name_most) → NameRead s from (from + 1 + names)
  name-counted most full = go (ltb names (to - (from + 1))) refl
    where
      so_far : NameTo s from (from + 1 + names)
      so_far = name-so-far most names (omega arith)

      at_most : names ≤ to - (from + 1)
      at_most = run-short is_name_byte s (from + 1) to inside

      go : (t : Bool) → ltb names (to - (from + 1)) ≡ t → NameRead s from (from + 1 + names)
      go true e =
          name-ends s from (from + 1 + names) so_far
          (rw (run-stops is_name_byte s (from + 1) to inside (ltb-true names (to - (from + 1)) e)))
      go false e = last (ltb to (length s)) refl
        where
          all : to ≡ from + 1 + names
          all = omega (arith, at_most, ltb-false names (to - (from + 1)) e)

          last : (t : Bool) → ltb to (length s) ≡ t → NameRead s from (from + 1 + names)
          last true q = name-full s from (from + 1 + names) so_far (omega (arith, all, full (ltb-true to (length s) q)))
          last false q = name-at-end s from (from + 1 + names) so_far (omega (arith, all, ltb-false to (length s) q))

  pub text-counted : to ≤ from + text_most → (to < length s → to ≡ from + text_most) → TextRead s from (from + 1 + texts)
  text-counted most full = go (ltb texts (to - (from + 1))) refl
    where
      so_far : TextTo s from (from + 1 + texts)
      so_far = text-so-far most texts (omega arith)

      at_most : texts ≤ to - (from + 1)
      at_most = run-short is_text s (from + 1) to inside

      go : (t : Bool) → ltb texts (to - (from + 1)) ≡ t → TextRead s from (from + 1 + texts)
      go true e =
          text-ends s from (from + 1 + texts) so_far
          (rw (run-stops is_text s (from + 1) to inside (ltb-true texts (to - (from + 1)) e)))
      go false e = last (ltb to (length s)) refl
        where
          all : to ≡ from + 1 + texts
          all = omega (arith, at_most, ltb-false texts (to - (from + 1)) e)

          last : (t : Bool) → ltb to (length s) ≡ t → TextRead s from (from + 1 + texts)
          last true q = text-full s from (from + 1 + texts) so_far (omega (arith, all, full (ltb-true to (length s) q)))
          last false q = text-at-end s from (from + 1 + texts) so_far (omega (arith, all, ltb-false to (length s) q))
