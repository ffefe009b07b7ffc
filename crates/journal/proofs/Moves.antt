-- What the code that works a step forward or back asks of the accounts that it changes, and of the place of the last step.
-- Assumes nothing.
use mathlib.Core.Path.{◌≡◌, sym, ap, ◌∙◌}
use mathlib.Core.Bool.{true}
use mathlib.Core.List.{List}
use Prim.Native.Nat.{ℕ, ◌-◌, ◌≤◌, ◌<◌}
use native.Mathlib.Omega.{arith}
use borrow.Author.Tests.{eq-eqb, ne_eqb}
use Rattle.slip.specs.Meaning.{steps}
use Rattle.layout.specs.declared.rows.Account.{Account}
use Rattle.layout.specs.declared.rows.Step.{Step}
use Rattle.layout.specs.Seat.{accounts, account_of, with_account}
use Rattle.layout.proofs.Seats.{account-other}
use Rattle.journal.specs.Low.{low_most, Low}
use Rattle.journal.specs.Steps.{set_kind, amount_most, moves, step_fits}
use Rattle.journal.proofs.StepLaws.{set-account, moved-within}

-- an account has room above it also where another account was put in before it was read
pub other-balance : (s t : List ℕ) (i j : ℕ) (a r : Account) → Low s → j < accounts → (i ≡ j → ⊥) → t ≡ with_account s i r → a ≡ account_of t j
    → a.balance ≤ low_most
other-balance s t i j a r low b apart put e =
    rw (e ∙ ap (λ (u : List ℕ). account_of u j) put ∙ account-other s i j r low.long b apart) (low.balances j b)

-- the accounts that a fit step names, by the tests as the code makes them: a set its own, a step that moves money both sides
pub set-named : (x : Step) → step_fits x ≡ true → x.kind ≡ set_kind → x.account < accounts
set-named x fits sets = set-account x fits (eq-eqb x.kind set_kind sets)

pub sides-named : (x : Step) → step_fits x ≡ true → (x.kind ≡ set_kind → ⊥) → true ≡ moves x
    → (x.debit < accounts) × (x.credit < accounts) × (x.amount ≤ amount_most)
sides-named x fits other moving = moved-within x fits (ne_eqb x.kind set_kind other) (sym moving)

-- the last step has a place
pub last-below : (n : ℕ) → 1 ≤ n → n ≤ steps → n - 1 < steps
last-below n some most = omega arith
