-- What one turn of taking values does: the definition, one want further on.
-- Assumes nothing.
use Rattle.std.specs.Prelude.{ℕ, Option, Some, None}
use mathlib.Core.Path.{◌≡◌, ◌∙◌}
use mathlib.Core.List.{List, [], ◌∷◌}
use Prim.Native.Nat.{ℕ, ◌+◌, ◌≤◌, ◌<◌}
use native.Mathlib.Omega.{arith}
use native.Mathlib.Numerals.{add-one}
use lib.ListN.{length, get_or, drop, set, replicate, drop_of_length-le}
use lib.Seq.{drop-cons}
use Rattle.script.specs.Places.{skip_blanks, word_end, word_at, next_word}
use Rattle.script.specs.Said.{value_of}
use Rattle.script.specs.declared.values.Want.{Want}
use Rattle.script.specs.declared.Word.{Word}
use Rattle.script.specs.declared.Word.TheVariants.{Blank, Room, Nobody, Owner, Direct, Indirect, Provider, Open, Close, Set, Submit, Back, Read, Slip, Unknown}
use Rattle.script.specs.Words.{values_most, word_of, wants}
use Rattle.script.specs.Lines.{took_all, took_some, going, take_from, taken, line_of}
use Rattle.script.proofs.Runs.{word-behind, word-within, blanks-within}

drop-next : (wanted : List Want) (count : ℕ) (w : Want) → count < length wanted → drop count wanted ≡ get_or wanted count w ∷ drop (count + 1) wanted
drop-next wanted count w h = rw add-one (drop-cons wanted count w h)

module _ (wanted : List Want) (s : List ℕ) (count : ℕ) (w : Want) (values : List ℕ) (rest : ℕ) where
  take-turn : count < length wanted
      → take_from (drop count wanted) s count values rest
      ≡ going (value_of (get_or wanted count w) (word_at s rest))
      (λ (n : ℕ). take_from (drop (count + 1) wanted) s (count + 1) (set values count n) (next_word s rest))
      (took_some count values rest)
  unfolding take_from
  take-turn h = rw (drop-next wanted count w h)

  pub take_on : (n : ℕ) → count < length wanted → value_of (get_or wanted count w) (word_at s rest) ≡ Some n
      → take_from (drop count wanted) s count values rest
      ≡ take_from (drop (count + 1) wanted) s (count + 1) (set values count n) (next_word s rest)
  take_on n h e = take-turn h ∙ rw e

  pub take-stop : count < length wanted → value_of (get_or wanted count w) (word_at s rest) ≡ None
      → take_from (drop count wanted) s count values rest ≡ took_some count values rest
  take-stop h e = take-turn h ∙ rw e

  pub take-end : length wanted ≤ count → take_from (drop count wanted) s count values rest ≡ took_all count values rest
  unfolding take_from
  take-end h = rw (drop_of_length-le wanted h)

-- no word wants more than a line has room for
pub wants_few : (word : Word) → length (wants word) ≤ values_most
unfolding wants
wants_few Blank = omega arith
wants_few Room = omega arith
wants_few Nobody = omega arith
wants_few Owner = omega arith
wants_few Direct = omega arith
wants_few Indirect = omega arith
wants_few Provider = omega arith
wants_few Open = omega arith
wants_few Close = omega arith
wants_few Set = omega arith
wants_few Submit = omega arith
wants_few Back = omega arith
wants_few Read = omega arith
wants_few Slip = omega arith
wants_few Unknown = omega arith

-- the next word begins within the text
pub next-within : (s : List ℕ) (i : ℕ) → i ≤ length s → next_word s i ≤ length s
next-within s i h = blanks-within s (word_end s i) (word-within s i h)

from-within : (wanted : List Want) (s : List ℕ) (count : ℕ) (values : List ℕ) (rest : ℕ) → rest ≤ length s
    → (take_from wanted s count values rest).rest ≤ length s
unfolding take_from
from-within [] s count values rest h = h
from-within (w ∷ wanted) s count values rest h =
    by_value (value_of w (word_at s rest))
    (λ n. from-within wanted s (count + 1) (set values count n) (next_word s rest) (next-within s rest h))
  where
    by_value : (v : Option ℕ)
        → ((n : ℕ) → (take_from wanted s (count + 1) (set values count n) (next_word s rest)).rest ≤ length s)
        → (going v (λ (n : ℕ). take_from wanted s (count + 1) (set values count n) (next_word s rest)) (took_some count values rest)).rest
        ≤ length s
    by_value (Some n) further = further n
    by_value None further = h

-- what is taken ends within the text
pub taken-within : (wanted : List Want) (s : List ℕ) (from : ℕ) → from ≤ length s → (taken wanted s from).rest ≤ length s
unfolding taken
taken-within wanted s from h = from-within wanted s 0 (replicate values_most 0) from h

-- what is left of a line begins within it
pub rest-within : (s : List ℕ) → (line_of s).rest ≤ length s
unfolding line_of
rest-within s =
    taken-within (wants (word_of (word_at s (skip_blanks s 0)))) s (next_word s (skip_blanks s 0))
    (next-within s (skip_blanks s 0) (blanks-within s 0 (omega arith)))

pub ruleset takes = (take_on, take-stop, take-end, next-within, word-behind, word-within, blanks-within)

pub ruleset within = (next-within, word-behind, word-within, blanks-within)
