-- A line of a lesson: its word, and the values that the words behind it say.
-- A line is good where its word is known and exactly what the word asks for stands behind it.
use Rattle.std.specs.Prelude.{Bool, true, false, not, ◌&&◌, List, [], ◌∷◌, ℕ, ◌+◌, ◌%◌, eqb, length, set, replicate, Option, Some, None}
use Rattle.script.specs.Places.{skip_blanks, word_at, next_word}
use Rattle.script.specs.Said.{value_of}
use Rattle.script.specs.Words.{values_most, word_of, wants}
use Rattle.script.specs.declared.Word.{Word}
use Rattle.script.specs.declared.Word.TheVariants.{Blank, Room, Nobody, Owner, Direct, Indirect, Provider, Open, Close, Set, Submit, Back, Read, Slip, Unknown}
use Rattle.script.specs.declared.Line.{Line}
use Rattle.script.specs.declared.values.Taken.{Taken}
use Rattle.script.specs.declared.values.Want.{Want}

-- what was taken so far, as all of it or up to a word that does not say what is wanted
abbrev pub took_all : ℕ → List ℕ → ℕ → Taken
took_all count values rest = record { all = true; count = count; values = values; rest = rest }

abbrev pub took_some : ℕ → List ℕ → ℕ → Taken
took_some count values rest = record { all = false; count = count; values = values; rest = rest }

-- a value and what is taken behind it, or what was taken so far
abbrev pub going : Option ℕ → (ℕ → Taken) → Taken → Taken
going (Some n) behind so_far = behind n
going None behind so_far = so_far

-- takes a value for each want from the words at a place, up to the first word that does not say what is wanted
unfoldable pub take_from : List Want → List ℕ → ℕ → List ℕ → ℕ → Taken
take_from [] s count values rest = took_all count values rest
take_from (want ∷ wanted) s count values rest =
    going (value_of want (word_at s rest))
    (λ (n : ℕ). take_from wanted s (count + 1) (set values count n) (next_word s rest))
    (took_some count values rest)

-- the same from nothing: at most `values_most` values, zeros behind the last
unfoldable pub taken : List Want → List ℕ → ℕ → Taken
taken wanted s from = take_from wanted s 0 (replicate values_most 0) from

-- nothing stands behind what was taken
abbrev pub is_last : Taken → List ℕ → Bool
is_last t s = eqb t.rest (length s)

-- the line has exactly what its word asks for: open a seat and two sums for each bank, every other word its values, and nothing behind them.
-- Only submit and slip have a rest, and that of slip is not empty. A line that says nothing is good, an unknown word is not
unfoldable pub is_whole : Word → Taken → List ℕ → Bool
is_whole Blank t s = true
is_whole Room t s = t.all && is_last t s
is_whole Nobody t s = t.all && is_last t s
is_whole Owner t s = t.all && is_last t s
is_whole Direct t s = t.all && is_last t s
is_whole Indirect t s = t.all && is_last t s
is_whole Provider t s = t.all && is_last t s
is_whole Open t s = eqb (t.count % 2) 1 && is_last t s
is_whole Close t s = t.all && is_last t s
is_whole Set t s = t.all && is_last t s
is_whole Submit t s = t.all
is_whole Back t s = t.all && is_last t s
is_whole Read t s = t.all && is_last t s
is_whole Slip t s = not (is_last t s)
is_whole Unknown t s = false

-- a line by its word and what was taken behind it
abbrev pub line_with : List ℕ → Word → Taken → Line
line_with s word t =
    record { word = word; good = is_whole word t s; count = t.count; values = t.values; rest = t.rest }

-- the line whose first word stands at a place
abbrev pub line_at : List ℕ → ℕ → Line
line_at s start = line_with s (word_of (word_at s start)) (taken (wants (word_of (word_at s start))) s (next_word s start))

-- the line that a text is
unfoldable pub line_of : List ℕ → Line
line_of s = line_at s (skip_blanks s 0)
