-- Writing bytes into a buffer from a place on, as far as there is room. Where there is none left, a byte changes nothing and the place stays.
use Rattle.std.specs.Prelude.{cond, ◌≡◌, List, [], ◌∷◌, ℕ, zero, suc, ltb, length, set, get_or}
use Rattle.outline.specs.Rows.{name_at}

-- the place behind one byte
abbrev pub behind : List ℕ → ℕ → ℕ
behind out n = cond (ltb n (length out)) (suc n) n

-- the buffer and the place once the bytes w stand from n on
unfoldable pub written : List ℕ → ℕ → List ℕ → List ℕ
written out n [] = out
written out n (b ∷ w) = written (set out n b) (behind out n) w

unfoldable pub written_to : List ℕ → ℕ → List ℕ → ℕ
written_to out n [] = n
written_to out n (b ∷ w) = written_to (set out n b) (behind out n) w

-- a function that was given out and n wrote w: what it left, and the place that it says
pub record Wrote (out : List ℕ) (n : ℕ) (w : List ℕ) (left : List ℕ) (to : ℕ) : Type 0 where
  pub buffer : left ≡ written out n w
  pub place : to ≡ written_to out n w

-- the names of the elements that start at the first places of a stack, the last of them first
abbrev pub names_of : List ℕ → List ℕ → ℕ → List (List ℕ)
names_of s stack zero = []
names_of s stack (suc level) = name_at s (get_or stack level 0) ∷ names_of s stack level
