-- A text at the first place where a byte stands in it.
use Rattle.std.specs.Prelude.{ℕ, ◌+◌, ◌==◌, List, [], take, drop, Option, Some, None, position}

-- the place, if there is one
abbrev pub place_of : ℕ → List ℕ → Option ℕ
place_of b s = position (λ x. x == b) s

-- what stands before a place, or all
abbrev pub before_at : List ℕ → Option ℕ → List ℕ
before_at s (Some i) = take i s
before_at s None = s

-- what stands after a place, or nothing
abbrev pub after_at : List ℕ → Option ℕ → List ℕ
after_at s (Some i) = drop (i + 1) s
after_at s None = []

-- what stands before the byte, or all where there is none
abbrev pub before : ℕ → List ℕ → List ℕ
before b s = before_at s (place_of b s)

-- what stands after it, or nothing
abbrev pub after : ℕ → List ℕ → List ℕ
after b s = after_at s (place_of b s)
