-- Two values that may not be given, compared: what the rows of the check table say of codes and dates.
use Rattle.std.specs.Prelude.{Bool, false, ℕ, eqb, Option, Some, None}

-- both are given, and are the same
unfoldable pub agree : Option ℕ → Option ℕ → Bool
agree (Some a) (Some b) = eqb a b
agree (Some a) None = false
agree None b = false

-- 0 where nothing is given
unfoldable pub or_zero : Option ℕ → ℕ
or_zero (Some a) = a
or_zero None = 0
