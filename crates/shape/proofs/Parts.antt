-- What a part `&s[a..]` is: the code counts its bytes, the definitions drop.
-- Assumes nothing.
use mathlib.Core.Path.{◌≡◌}
use mathlib.Core.List.{List}
use Prim.Native.Nat.{ℕ, ◌-◌}
use native.Mathlib.Nat.{le_of_eq}
use lib.ListN.{length, take, drop, length-drop}
use lib.Seq.{take_all}

pub rest : (a : ℕ) (s : List ℕ) → take (length s - a) (drop a s) ≡ drop a s
rest a s = take_all (length s - a) (drop a s) (le_of_eq (length-drop a s))
