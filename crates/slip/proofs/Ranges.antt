-- The checks that a slip may name as ranges of numbers. A test that computes compares the two for every check.
-- Assumes nothing.
use mathlib.Core.Path.{◌≡◌, refl}
use mathlib.Core.Bool.{◌&&◌, ◌||◌}
use Prim.Native.Nat.{ℕ, ◌≤◌}
use lib.Dec.{eqb, leb}
use Rattle.table.specs.Checks.{checks_most, is_in}
use Rattle.table.proofs.Ranges.{alike-to}
use Rattle.slip.specs.Meaning.{pacs008_checks, camt050_checks, pacs028_checks, pacs002_checks}

pub pacs-008-ranges : (n : ℕ) → n ≤ checks_most
    → is_in n pacs008_checks ≡ (eqb n 3 || leb 5 n && leb n 8 || eqb n 17 || leb 20 n && leb n 34)
pacs-008-ranges =
    alike-to checks_most (λ (x : ℕ). is_in x pacs008_checks) (λ (x : ℕ). eqb x 3 || leb 5 x && leb x 8 || eqb x 17 || leb 20 x && leb x 34) refl

pub camt-050-ranges : (n : ℕ) → n ≤ checks_most → is_in n camt050_checks ≡ (leb 3 n && leb n 7 || leb 12 n && leb n 24)
camt-050-ranges = alike-to checks_most (λ (x : ℕ). is_in x camt050_checks) (λ (x : ℕ). leb 3 x && leb x 7 || leb 12 x && leb x 24) refl

pub pacs-028-ranges : (n : ℕ) → n ≤ checks_most → is_in n pacs028_checks ≡ (eqb n 3 || leb 5 n && leb n 11)
pacs-028-ranges = alike-to checks_most (λ (x : ℕ). is_in x pacs028_checks) (λ (x : ℕ). eqb x 3 || leb 5 x && leb x 11) refl

pub pacs-002-ranges : (n : ℕ) → n ≤ checks_most
    → is_in n pacs002_checks ≡ (eqb n 3 || leb 5 n && leb n 7 || leb 20 n && leb n 24 || leb 35 n && leb n 37)
pacs-002-ranges =
    alike-to checks_most (λ (x : ℕ). is_in x pacs002_checks)
    (λ (x : ℕ). eqb x 3 || leb 5 x && leb x 7 || leb 20 x && leb x 24 || leb 35 x && leb x 37) refl
