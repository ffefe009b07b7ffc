-- The part of a sheet from a place on, of a length: empty where the sheet is too short, else those bytes.
-- Assumes nothing.
use mathlib.Core.Path.{◌≡◌}
use mathlib.Core.List.{List, []}
use Prim.Native.Nat.{ℕ, ◌+◌, ◌-◌, ◌≤◌, ◌<◌}
use native.Mathlib.Omega.{arith}
use lib.ListN.{length, take, drop}
use borrow.Author.Tests.{le-leb, lt-leb}
use Rattle.sheet.specs.Reader.{shown_at}

module _ (s : List ℕ) (a n : ℕ) where
  pub part-short : length s < a + n → [] ≡ shown_at s a n
  unfolding shown_at
  part-short h = rw (lt-leb (a + n) (length s) h)

  pub part-whole : a + n ≤ length s → take ((a + n) - a) (drop a s) ≡ shown_at s a n
  unfolding shown_at
  part-whole h =
      let width : (a + n) - a ≡ n = omega arith in
      rw (le-leb (a + n) (length s) h, width)

  pub part-there : a + n ≤ length s → shown_at s a n ≡ take n (drop a s)
  unfolding shown_at
  part-there h = rw (le-leb (a + n) (length s) h)
