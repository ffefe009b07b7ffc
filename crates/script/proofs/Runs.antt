-- How far the definitions of places reach, and where a text ends that is one byte shorter. Texts of two lengths are two texts.
-- Assumes nothing.
use mathlib.Core.Path.{◌≡◌, refl, sym, ap, ◌∙◌}
use mathlib.Core.Bool.{Bool, true, false, not, ◌&&◌, cond}
use mathlib.Core.List.{List, [], ◌∷◌, ◌++◌}
use Prim.Native.Nat.{ℕ, suc, ◌+◌, ◌-◌, ◌≤◌, ◌<◌}
use native.Mathlib.Omega.{arith}
use lib.Dec.{eqb}
use lib.ListN.{length, get_or, take, drop, length-take, length-drop}
use lib.Seq.{drop-cons, take-suc, take-length}
use borrow.Author.Tests.{ne_eqb}
use Rattle.shape.proofs.Tests.{and-false}
use Rattle.script.specs.Places.{is_blank, run, skip_blanks, word_end, found, line_end, text_end, is_same}

pub run_short : (f : ℕ → Bool) (s : List ℕ) → run f s ≤ length s
run_short f [] = omega arith
run_short f (b ∷ s) = by-test (f b) (run_short f s)
  where
    by-test : (t : Bool) → run f s ≤ length s → cond t (suc (run f s)) 0 ≤ suc (length s)
    by-test true h = omega arith
    by-test false h = omega arith

-- a place within a text leads to one that is no earlier and within it
module _ (f : ℕ → Bool) (s : List ℕ) (i : ℕ) where
  pub run-within : i ≤ length s → i + run f (drop i s) ≤ length s
  run-within h = omega (arith, run_short f (drop i s), length-drop i s)

module _ (s : List ℕ) (i : ℕ) where
  pub blanks-within : i ≤ length s → skip_blanks s i ≤ length s
  unfolding skip_blanks
  blanks-within h = run-within is_blank s i h

  pub word-within : i ≤ length s → word_end s i ≤ length s
  unfolding word_end
  word-within h = run-within (λ (b : ℕ). not (is_blank b)) s i h

  pub word-behind : i ≤ word_end s i
  unfolding word_end
  word-behind = omega arith

-- a line ends within the text, and no earlier than it begins
module _ (s : List ℕ) (i : ℕ) where
  pub line-behind : i ≤ line_end s i
  unfolding line_end found
  line-behind = omega arith

  pub line-within : i ≤ length s → line_end s i ≤ length s
  unfolding line_end found
  line-within h = run-within (λ (b : ℕ). not (eqb b 10)) s i h

-- a text of another length is another text
pub other_length : (p s : List ℕ) → (length p ≡ length s → ⊥) → is_same p s ≡ false
unfolding is_same
other_length [] [] h = absurd (h refl)
other_length [] (b ∷ s) h = refl
other_length (a ∷ p) [] h = refl
other_length (a ∷ p) (b ∷ s) h = and-false (eqb a b) (is_same p s) (other_length p s (λ e. h (ap suc e)))

-- a blank behind a text does not move its end
blank-behind : (s : List ℕ) (b : ℕ) → is_blank b ≡ true → text_end (s ++ (b ∷ [])) ≡ text_end s
unfolding text_end
blank-behind [] b e = rw e
blank-behind (a ∷ s) b e = rw (blank-behind s b e)

-- a byte that is no blank is the last
byte-behind : (s : List ℕ) (b : ℕ) → is_blank b ≡ false → text_end (s ++ (b ∷ [])) ≡ suc (length s)
unfolding text_end
byte-behind [] b e = rw e
byte-behind (a ∷ s) b e = rw (byte-behind s b e, ne_eqb (suc (length s)) 0 (λ h. omega arith), and-false (is_blank a) false refl)

module _ (s : List ℕ) (end : ℕ) where
  last_byte : 0 < end → end ≤ length s → take end s ≡ take (end - 1) s ++ (get_or s (end - 1) 0 ∷ [])
  last_byte h l = let e : suc (end - 1) ≡ end = omega arith in ap (λ (n : ℕ). take n s) (sym e) ∙ take-suc s (end - 1) 0 (omega arith)

  pub end-blank : 0 < end → end ≤ length s → is_blank (get_or s (end - 1) 0) ≡ true → text_end (take end s) ≡ text_end (take (end - 1) s)
  end-blank h l e = ap text_end (last_byte h l) ∙ blank-behind (take (end - 1) s) (get_or s (end - 1) 0) e

  pub end-byte : 0 < end → end ≤ length s → is_blank (get_or s (end - 1) 0) ≡ false → text_end (take end s) ≡ end
  end-byte h l e =
      ap text_end (last_byte h l) ∙ byte-behind (take (end - 1) s) (get_or s (end - 1) 0) e
      ∙ simp length-take (omega arith)

  pub end_none : end ≤ 0 → text_end (take end s) ≡ end
  unfolding text_end
  end_none h = let e : end ≡ 0 = omega arith in rw e

pub ruleset ends = (end-blank, end-byte, end_none, take-length)

-- a text ends within itself
pub text-within : (s : List ℕ) → text_end s ≤ length s
unfolding text_end
text-within [] = omega arith
text-within (b ∷ s) = by-test (is_blank b && eqb (text_end s) 0) (text-within s)
  where
    by-test : (t : Bool) → text_end s ≤ length s → cond t 0 (suc (text_end s)) ≤ suc (length s)
    by-test true h = omega arith
    by-test false h = omega arith
