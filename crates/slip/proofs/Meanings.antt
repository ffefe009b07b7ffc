-- What a slip may say: a test of the whole table holds of whatever the table may say, six bytes may say what five may and more, and no slip
-- may name a check past the last one.
-- Assumes nothing.
use mathlib.Core.Path.{◌≡◌, refl, sym}
use mathlib.Core.Bool.{Bool, true, false, ◌&&◌, ◌||◌, or_assoc, false≢true}
use mathlib.Core.List.{List, [], ◌∷◌, ◌++◌}
use Prim.Native.Nat.{ℕ, ◌<◌}
use lib.Dec.{leb, eqb}
use borrow.Author.Tests.{leb-true, eqb-true}
use Rattle.shape.specs.Bytes.{every}
use Rattle.shape.proofs.Tests.{and_left, and_right, or_cases}
use Rattle.table.specs.Checks.{checks_most, is_in}
use Rattle.table.proofs.Rules.{of_entry}
use Rattle.table.proofs.Ranges.{none-past}
use Rattle.slip.specs.declared.Form.TheVariants.{SixBytes}
use Rattle.slip.specs.Meaning.{Saying, either_says, six_alone_says, sayings, says_in, measures}

-- a test of a kind and a status with each of their checks
abbrev pub of_saying : (ℕ → ℕ → ℕ → Bool) → Saying → Bool
of_saying f x = every (f x.kind x.status) x.checks

-- law: what is tested of each line of a table holds of whatever the table may say
pub of-sayings : (f : ℕ → ℕ → ℕ → Bool) (xs : List Saying) → every (of_saying f) xs ≡ true
    → (kind status check : ℕ) → says_in xs kind status check ≡ true → f kind status check ≡ true
of-sayings f [] t kind status check e = absurd (false≢true e)
of-sayings f (x ∷ xs) t kind status check e =
    or_cases (eqb kind x.kind && eqb status x.status && is_in check x.checks) (says_in xs kind status check) e
    here (of-sayings f xs (and_right (of_saying f x) (every (of_saying f) xs) t) kind status check)
  where
    here : (eqb kind x.kind && eqb status x.status && is_in check x.checks) ≡ true → f kind status check ≡ true
    here h =
        let pair = and_left (eqb kind x.kind && eqb status x.status) (is_in check x.checks) h in
        let first = eqb-true kind x.kind (and_left (eqb kind x.kind) (eqb status x.status) pair) in
        let second = eqb-true status x.status (and_right (eqb kind x.kind) (eqb status x.status) pair) in
        let inside = and_right (eqb kind x.kind && eqb status x.status) (is_in check x.checks) h in
        rw (first, second)
        (of_entry (f x.kind x.status) x.checks (and_left (of_saying f x) (every (of_saying f) xs) t) check inside)

-- law: two tables one after the other may say what either may
pub says_both : (xs ys : List Saying) (kind status check : ℕ)
    → says_in (xs ++ ys) kind status check ≡ (says_in xs kind status check || says_in ys kind status check)
says_both [] ys kind status check = refl
says_both (x ∷ xs) ys kind status check =
    let here = eqb kind x.kind && eqb status x.status && is_in check x.checks in
    rw (says_both xs ys kind status check) (sym (or_assoc here (says_in xs kind status check) (says_in ys kind status check)))

-- six bytes may say what either form may, and what they alone may
pub says_in_six : (kind status check : ℕ)
    → (says_in either_says kind status check || says_in six_alone_says kind status check) ≡ says_in (measures SixBytes).sayings kind status check
unfolding sayings
says_in_six kind status check = sym (says_both either_says six_alone_says kind status check)

-- law: a table whose checks are all in the table of checks says nothing with a check past the last one
says-none-past : (xs : List Saying) → every (of_saying (λ (k s c : ℕ). leb c checks_most)) xs ≡ true
    → (kind status check : ℕ) → checks_most < check → says_in xs kind status check ≡ false
says-none-past xs t kind status check =
    none-past (says_in xs kind status check) check
    (λ e. leb-true check checks_most (of-sayings (λ (k s c : ℕ). leb c checks_most) xs t kind status check e))

pub either-none-past : (kind status check : ℕ) → checks_most < check → says_in either_says kind status check ≡ false
unfolding either_says
either-none-past = says-none-past either_says refl

pub six-alone-none-past : (kind status check : ℕ) → checks_most < check → says_in six_alone_says kind status check ≡ false
unfolding six_alone_says
six-alone-none-past = says-none-past six_alone_says refl
