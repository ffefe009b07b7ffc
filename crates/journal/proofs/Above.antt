-- Taking LTK from the balance, or adding it to the amount: the same test; and so with turnover and LPO. What is available is covered by
-- the balance.
-- Assumes nothing.
use mathlib.Core.Path.{◌≡◌, refl, sym}
use mathlib.Core.Bool.{Bool, true, false, ◌&&◌}
use Prim.Native.Nat.{ℕ, ◌+◌, ◌-◌, ◌<◌, ◌≤◌}
use native.Mathlib.Omega.{arith}
use lib.Dec.{ltb}
use borrow.Author.Tests.{lt-ltb, le-ltb, ltb-true, ltb-false}
use Rattle.layout.specs.declared.rows.Account.{Account}
use Rattle.journal.specs.Limits.{available_below}

pub below-limit : (b l n : ℕ) → b < l → true ≡ ltb b (l + n)
below-limit b l n h = sym (lt-ltb b (l + n) (omega arith))

pub above-limit : (b l n : ℕ) → l ≤ b → ltb (b - l) n ≡ ltb b (l + n)
above-limit b l n h = go (ltb (b - l) n) refl
  where
    go : (t : Bool) → ltb (b - l) n ≡ t → t ≡ ltb b (l + n)
    go true e = sym (lt-ltb b (l + n) (omega (arith, ltb-true (b - l) n e)))
    go false e = sym (le-ltb b (l + n) (omega (arith, ltb-false (b - l) n e)))

-- an amount that is not above what is available is not above the balance
pub available-covers : (a : Account) (amount : ℕ) → available_below a amount ≡ false → amount ≤ a.balance
unfolding available_below
available-covers a amount e =
    let most : a.settings.ltk + amount ≤ a.balance = ltb-false a.balance (a.settings.ltk + amount) e in
    omega arith

-- LPO as it is stored, turnover, amount: no LPO or one of 0; turnover above it already; else what is left is compared
pub limit-none : (l t n : ℕ) → l ≤ 1 → false ≡ (ltb 1 l && ltb (l - 1) (t + n))
limit-none l t n h = rw (le-ltb 1 l h)

pub limit-passed : (l t n : ℕ) → 1 < l → l - 1 < t → true ≡ (ltb 1 l && ltb (l - 1) (t + n))
limit-passed l t n h k = rw (lt-ltb 1 l h, lt-ltb (l - 1) (t + n) (omega arith))

pub limit-left : (l t n : ℕ) → 1 < l → t ≤ l - 1 → ltb (l - 1 - t) n ≡ (ltb 1 l && ltb (l - 1) (t + n))
limit-left l t n h k = rw (lt-ltb 1 l h) (above-limit (l - 1) t n k)
