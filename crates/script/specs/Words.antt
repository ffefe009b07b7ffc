-- The words that a line may begin with, and what each wants behind it.
use Rattle.std.specs.Prelude.{Bool, ◌||◌, cond, List, [], ◌∷◌, ◌++◌, ℕ, suc, eqb, get_or, replicate}
use Prim.Native.Char.{code}
use Rattle.shape.specs.Text.{bytes}
use Rattle.script.specs.Places.{is_same}
use Rattle.script.specs.declared.values.Want.{Want}
use Rattle.script.specs.declared.values.Want.TheVariants.{Number, Sum, Date, Answer, Instant, Limit}
use Rattle.script.specs.declared.Word.{Word}
use Rattle.script.specs.declared.Word.TheVariants.{Blank, Room, Nobody, Owner, Direct, Indirect, Provider, Open, Close, Set, Submit, Back, Read, Slip, Unknown}

-- the words for the room and its banks, and those for the calls
abbrev pub room_names : List (List ℕ × Word)
room_names =
    (bytes "room", Room) ∷ (bytes "nobody", Nobody) ∷ (bytes "owner", Owner) ∷ (bytes "direct", Direct)
    ∷ (bytes "indirect", Indirect) ∷ (bytes "provider", Provider) ∷ []

abbrev pub call_names : List (List ℕ × Word)
call_names =
    (bytes "open", Open) ∷ (bytes "close", Close) ∷ (bytes "set", Set) ∷ (bytes "submit", Submit)
    ∷ (bytes "back", Back) ∷ (bytes "read", Read) ∷ (bytes "slip", Slip) ∷ []

-- the word with this name
abbrev pub named : List (List ℕ × Word) → List ℕ → Word
named [] s = Unknown
named (n ∷ names) s = cond (is_same n.0 s) n.1 (named names s)

-- the line says nothing: there is no word, or the first one begins with `#`
abbrev pub is_silent : List ℕ → Bool
is_silent s = eqb (get_or s 0 0) 0 || eqb (get_or s 0 0) (code "#")

unfoldable pub word_of : List ℕ → Word
word_of s = cond (is_silent s) Blank (named (room_names ++ call_names) s)

-- the most sums of an open, two for each bank; and the most values of a line, which are an open's seat and its sums
abbrev pub sums_most : ℕ
sums_most = 34

abbrev pub values_most : ℕ
values_most = suc sums_most

-- what a word wants behind it, a value from each word: open as many sums as there are, up to `sums_most`; submit and slip leave the rest
unfoldable pub wants : Word → List Want
wants Blank = []
wants Room = []
wants Nobody = []
-- CODE instant|ordinary
wants Owner = Number ∷ Instant ∷ []
-- CODE HEAD instant|ordinary
wants Direct = Number ∷ Number ∷ Instant ∷ []
wants Indirect = Number ∷ Number ∷ Instant ∷ []
wants Provider = Number ∷ Number ∷ Instant ∷ []
-- SEAT SUM SUM ..
wants Open = Number ∷ replicate sums_most Sum
-- SEAT OPENING
wants Close = Number ∷ Number ∷ []
-- SEAT OPENING OWNER ACCOUNT OUT IN LTK LPO
wants Set = Number ∷ Number ∷ Number ∷ Number ∷ Answer ∷ Answer ∷ Sum ∷ Limit ∷ []
-- SEAT OPENING SENDER DATE SHEET
wants Submit = Number ∷ Number ∷ Number ∷ Date ∷ []
-- SEAT OPENING
wants Back = Number ∷ Number ∷ []
-- SEAT OPENING OWNER ACCOUNT
wants Read = Number ∷ Number ∷ Number ∷ Number ∷ []
-- HEX
wants Slip = []
wants Unknown = []
