-- The answer to a whole sheet: its length, its first `<`, the outer element, and nothing behind it.
-- Assumes nothing.
use mathlib.Core.Path.{◌≡◌, refl, ◌∙◌}
use mathlib.Core.List.{List, []}
use Prim.Native.Nat.{ℕ, ◌≤◌, ◌<◌}
use lib.ListN.{length, get_or, drop_of_length-le}
use borrow.Author.Tests.{le-leb, lt-leb, eq-eqb, ne_eqb}
use lib.Seq.{drop-cons}
use Rattle.sheet.specs.Grammar.{depth_most, sheet_most}
use Rattle.sheet.specs.Machine.{State, outer, begun, whole, goes, step}
use Rattle.sheet.specs.Answer.{accepted, refused, run, empty_list, start, reading_of}
use Rattle.sheet.specs.declared.element.Came.{Came}
use Rattle.sheet.specs.declared.parts.Refused.{Refused}
use Rattle.std.specs.Prelude.{Ok, Err, Some, None}
use Rattle.sheet.specs.Parts.{run_at}
use Rattle.sheet.specs.Element.{state_of, ElementRead}
use Rattle.sheet.proofs.Runs.{run-go, run-stop, run_none}
use Rattle.sheet.proofs.Ends.{inside as in-sheet}

pub too_long : (s : List ℕ) → sheet_most < length s → reading_of s ≡ refused sheet_most
unfolding reading_of
too_long s h = rw (lt-leb (length s) sheet_most h)

outer-refused : (i b : ℕ) → (b ≡ 60 → ⊥) → step start outer i b ≡ None
unfolding step
outer-refused i b e = rw (ne_eqb b 60 e)

outer-taken : (i b : ℕ) → b ≡ 60 → step start outer i b ≡ Some (goes start begun)
unfolding step
outer-taken i b e = rw (eq-eqb b 60 e)

whole-refused : (st : State) (i b : ℕ) → step st whole i b ≡ None
unfolding step
whole-refused st i b = refl

module _ (s : List ℕ) (short : length s ≤ sheet_most) where
  read_short : reading_of s ≡ run_at s start 0
  unfolding reading_of
  read_short = rw (le-leb (length s) sheet_most short)

  pub unbegun : (get_or s 0 0 ≡ 60 → ⊥) → reading_of s ≡ refused 0
  unbegun e = read_short ∙ run-stop s start 0 refl (outer-refused 0 (get_or s 0 0) e)

  module _ (first : get_or s 0 0 ≡ 60) where
    begins-so : reading_of s ≡ run_at s (state_of begun [] 0 empty_list empty_list) 1
    begins-so = read_short ∙ run-go s start 0 (goes start begun) (in-sheet s 0 59 first) (outer-taken 0 (get_or s 0 0) first)

    pub outer-stopped : (e : Refused) (starts depths : List ℕ) → ElementRead s 1 depth_most 0 empty_list empty_list (Err e) starts depths
        → reading_of s ≡ refused e.place
    outer-stopped e starts depths outermost = begins-so ∙ outermost.comes [] refl

    module _ (came : Came) (starts depths : List ℕ) (outermost : ElementRead s 1 depth_most 0 empty_list empty_list (Ok came) starts depths) where
      behind : reading_of s ≡ run_at s (state_of whole [] came.count starts depths) came.place
      behind = begins-so ∙ outermost.comes [] refl

      pub bytes-behind : came.place < length s → reading_of s ≡ refused came.place
      bytes-behind h =
          behind
          ∙ rw (drop-cons s came.place 0 h) (run_none (state_of whole [] came.count starts depths) came.place (get_or s came.place 0) _ (whole-refused (state_of whole [] came.count starts depths) came.place (get_or s came.place 0)))

      pub all_read : length s ≤ came.place → reading_of s ≡ accepted came.count starts depths
      unfolding run
      all_read h = behind ∙ rw (drop_of_length-le s h)
