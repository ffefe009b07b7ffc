-- The name of an element as a part of the sheet.
-- Assumes nothing.
use mathlib.Core.Path.{◌≡◌}
use mathlib.Core.List.{List, []}
use Prim.Native.Nat.{ℕ, suc, ◌+◌, ◌-◌, ◌≤◌}
use native.Mathlib.Omega.{arith}
use native.Mathlib.Numerals.{add-one}
use lib.ListN.{length, take, drop, drop_of_length-le}
use Rattle.sheet.specs.Grammar.{is_name_byte}
use Rattle.sheet.specs.Reader.{while}
use Rattle.sheet.proofs.While.{take_while}
use Rattle.outline.specs.Rows.{name_at}

-- from behind its `<` to where its bytes end; behind the sheet's end there is none
pub name-part : (s : List ℕ) (a to : ℕ) → to ≡ a + 1 + length (while is_name_byte (drop (a + 1) s)) → take (to - (a + 1)) (drop (a + 1) s) ≡ name_at s a
unfolding name_at
name-part s a to e =
    let f : to - (a + 1) ≡ length (while is_name_byte (drop (a + 1) s)) = omega arith in
    rw (f, ← add-one a) (take_while is_name_byte (drop (a + 1) s))

pub no_name : (s : List ℕ) (a : ℕ) → length s ≤ a → [] ≡ name_at s a
unfolding name_at
no_name s a h = let k : length s ≤ suc a = omega arith in rw (drop_of_length-le s k)
