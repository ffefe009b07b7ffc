-- The checks of a kind as ranges of numbers. A test that computes compares the two for every number of the table.
-- Assumes nothing.
use mathlib.Core.Path.{◌≡◌, refl, sym}
use mathlib.Core.Bool.{Bool, true, false, not, ◌&&◌, ◌||◌}
use Prim.Native.Nat.{ℕ, suc, ◌<◌, ◌≤◌}
use native.Mathlib.Omega.{arith}
use lib.Dec.{eqb, leb}
use Rattle.shape.specs.Bytes.{every}
use Rattle.table.specs.Checks.{checks_most, from, rejecting, order_of, is_in, runs}
use Rattle.table.specs.declared.Kind.{Kind}
use Rattle.table.specs.declared.Kind.TheVariants.{Pacs008, Camt050, Pacs028, Pacs002}
use Rattle.table.proofs.Rules.{counted, runs-in-table, rejecting-runs}

-- both tests say the same
abbrev pub alike : Bool → Bool → Bool
alike true t = t
alike false t = not t

alike-true : (s t : Bool) → alike s t ≡ true → s ≡ t
alike-true true true e = refl
alike-true true false e = sym e
alike-true false true e = e
alike-true false false e = refl

-- law: tests that say the same of each number up to m say the same there
pub alike-to : (m : ℕ) (f g : ℕ → Bool) → every (λ (x : ℕ). alike (f x) (g x)) (from 0 (suc m)) ≡ true → (n : ℕ) → n ≤ m → f n ≡ g n
alike-to m f g t n h = alike-true (f n) (g n) (counted (λ (x : ℕ). alike (f x) (g x)) 0 (suc m) t n (omega arith) (omega arith))

pub pacs-008-ranges : (n : ℕ) → n ≤ checks_most
    → runs Pacs008 n ≡ (leb 1 n && leb n 3 || leb 5 n && leb n 8 || eqb n 17 || leb 25 n && leb n 34)
unfolding runs order_of
pacs-008-ranges =
    alike-to checks_most (runs Pacs008) (λ (x : ℕ). leb 1 x && leb x 3 || leb 5 x && leb x 8 || eqb x 17 || leb 25 x && leb x 34) refl

pub camt-050-ranges : (n : ℕ) → n ≤ checks_most → runs Camt050 n ≡ (leb 1 n && leb n 7 || leb 12 n && leb n 24)
unfolding runs order_of
camt-050-ranges = alike-to checks_most (runs Camt050) (λ (x : ℕ). leb 1 x && leb x 7 || leb 12 x && leb x 24) refl

pub pacs-028-ranges : (n : ℕ) → n ≤ checks_most → runs Pacs028 n ≡ (leb 1 n && leb n 3 || leb 5 n && leb n 11)
unfolding runs order_of
pacs-028-ranges = alike-to checks_most (runs Pacs028) (λ (x : ℕ). leb 1 x && leb x 3 || leb 5 x && leb x 11) refl

pub pacs-002-ranges : (n : ℕ) → n ≤ checks_most
    → runs Pacs002 n ≡ (leb 1 n && leb n 3 || leb 5 n && leb n 7 || leb 20 n && leb n 24 || leb 35 n)
unfolding runs order_of
pacs-002-ranges =
    alike-to checks_most (runs Pacs002) (λ (x : ℕ). leb 1 x && leb x 3 || leb 5 x && leb x 7 || leb 20 x && leb x 24 || leb 35 x) refl

pub rejecting-ranges : (n : ℕ) → n ≤ checks_most → is_in n rejecting ≡ (leb 20 n && leb n 24 || eqb n 36 || eqb n 37)
rejecting-ranges =
    alike-to checks_most (λ (x : ℕ). is_in x rejecting) (λ (x : ℕ). leb 20 x && leb x 24 || eqb x 36 || eqb x 37) refl

-- law: a test that holds of the table's numbers alone fails past the last one
pub none-past : (t : Bool) (n : ℕ) → (t ≡ true → n ≤ checks_most) → checks_most < n → t ≡ false
none-past true n f h = absurd (past (f refl))
  where
    past : n ≤ checks_most → ⊥
    past l = omega arith
none-past false n f h = refl

-- so no kind has such a check, and no transfer is rejected by one
pub none_above : (kind : Kind) (n : ℕ) → checks_most < n → runs kind n ≡ false
none_above kind n = none-past (runs kind n) n (λ e. (runs-in-table kind n e).1)

pub none-rejecting-above : (n : ℕ) → checks_most < n → is_in n rejecting ≡ false
none-rejecting-above n = none-past (is_in n rejecting) n (λ e. (runs-in-table Pacs002 n (rejecting-runs n e)).1)
