-- Places in a text: where its blanks, its words and its lines end. Blanks are the bytes up to 32: space, tab, carriage return, line feed.
-- A place past the end is its own answer, so that everything is said of any place.
use Rattle.std.specs.Prelude.{Bool, true, false, not, ◌&&◌, cond, List, [], ◌∷◌, ℕ, suc, ◌+◌, ◌-◌, leb, eqb, take, drop}
use Prim.Native.Char.{code}

unfoldable pub is_blank : ℕ → Bool
is_blank b = leb b (code " ")

-- how many bytes in front pass the test
abbrev pub run : (ℕ → Bool) → List ℕ → ℕ
run f [] = 0
run f (b ∷ s) = cond (f b) (suc (run f s)) 0

-- the first place from i on that holds no blank, or the end
unfoldable pub skip_blanks : List ℕ → ℕ → ℕ
skip_blanks s i = i + run is_blank (drop i s)

-- the first place from i on that holds a blank, or the end
unfoldable pub word_end : List ℕ → ℕ → ℕ
word_end s i = i + run (λ (b : ℕ). not (is_blank b)) (drop i s)

-- the first place from i on that holds the byte, or the end
unfoldable pub found : List ℕ → ℕ → ℕ → ℕ
found s i byte = i + run (λ (b : ℕ). not (eqb b byte)) (drop i s)

-- where a line ends that begins at i: at the next line feed, or at the end
unfoldable pub line_end : List ℕ → ℕ → ℕ
line_end s i = found s i (code "\n")

-- the word that begins at i, empty at the end; and where the next one begins
abbrev pub word_at : List ℕ → ℕ → List ℕ
word_at s i = take (word_end s i - i) (drop i s)

abbrev pub next_word : List ℕ → ℕ → ℕ
next_word s i = skip_blanks s (word_end s i)

-- where a text ends without the blanks behind it
unfoldable pub text_end : List ℕ → ℕ
text_end [] = 0
text_end (b ∷ s) = cond (is_blank b && eqb (text_end s) 0) 0 (suc (text_end s))

-- the two texts are the same
unfoldable pub is_same : List ℕ → List ℕ → Bool
is_same [] [] = true
is_same [] (b ∷ s) = false
is_same (a ∷ name) [] = false
is_same (a ∷ name) (b ∷ s) = eqb a b && is_same name s
