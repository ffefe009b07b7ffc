-- How high the numbers of a seat can be behind n steps: an account opens with at most 10^15, and a step adds at most one amount to a
-- balance and to a turnover. Behind the 24 steps of a journal both are far below what their types hold.
-- Assumes nothing.
use mathlib.Core.Path.{◌≡◌, sym, subst}
use mathlib.Core.Bool.{Bool, true, false, cond}
use mathlib.Core.List.{List}
use Prim.Native.Nat.{ℕ, suc, ◌+◌, ◌*◌, ◌≤◌, ◌<◌}
use native.Mathlib.Omega.{arith}
use lib.Dec.{eqb}
use lib.ListN.{length}
use Rattle.slip.specs.Meaning.{steps}
use Rattle.layout.specs.declared.rows.Account.{Account}
use Rattle.layout.specs.declared.rows.Step.{Step}
use Rattle.layout.specs.Seat.{accounts, seat_long, head_of, account_of}
use Rattle.journal.specs.Steps.{sum_most, amount_most, step_fits}
use Rattle.journal.specs.Working.{settled, debited, credited, turned, stepped}
use Rattle.journal.specs.Low.{Low}
use Rattle.journal.proofs.Changed.{Sort, sets, rests, turns, transfers, sort, after, stepped-length, stepped-account}

pub record Grown (n : ℕ) (s : List ℕ) : Type 0 where
  pub long : length s ≡ seat_long
  pub balances : (i : ℕ) → i < accounts → (account_of s i).balance ≤ sum_most + n * amount_most
  pub turnovers : (i : ℕ) → i < accounts → (account_of s i).turnover ≤ n * amount_most

-- an account with one amount more at most
abbrev Near : Account → Account → Type 0
Near a c = (c.balance ≤ a.balance + amount_most) × (c.turnover ≤ a.turnover + amount_most)

near : (x : Step) (j : ℕ) (a : Account) → Sort x → Near a (after x j a)
unfolding after
near x j a (sets k b) = rw k (go (eqb x.account j))
  where
    go : (t : Bool) → Near a (cond t (settled x.given a) a)
    go true = (omega arith, omega arith)
    go false = (omega arith, omega arith)
near x j a (rests k n) = rw (k, n) (omega arith, omega arith)
near x j a (turns k n q b m) = rw (k, n, q) (go (eqb x.debit j))
  where
    go : (t : Bool) → Near a (cond t (turned x.amount a) a)
    go true = (omega arith, omega arith)
    go false = (omega arith, omega arith)
near x j a (transfers k n q b c m) = rw (k, n, q) (go (eqb x.credit j) (eqb x.debit j))
  where
    go : (t u : Bool) → Near a (cond t (credited x.amount (cond u (debited x.amount a) a)) (cond u (debited x.amount a) a))
    go true true = (omega arith, omega arith)
    go true false = (omega arith, omega arith)
    go false true = (omega arith, omega arith)
    go false false = (omega arith, omega arith)

pub grown-more : (x : Step) (n : ℕ) (s : List ℕ) → Grown n s → step_fits x ≡ true → (head_of s).steps < steps → Grown (suc n) (stepped x s)
grown-more x n s g e b =
    record {
      long = stepped-length x s g.long e b;
      balances = λ (i : ℕ) (c : i < accounts).
          let here : Near (account_of s i) (account_of (stepped x s) i) = beside i c in
          let most : (account_of s i).balance ≤ sum_most + n * amount_most = g.balances i c in
          omega arith;
      turnovers = λ (i : ℕ) (c : i < accounts).
          let here : Near (account_of s i) (account_of (stepped x s) i) = beside i c in
          let most : (account_of s i).turnover ≤ n * amount_most = g.turnovers i c in
          omega arith;
    }
  where
    beside : (i : ℕ) → i < accounts → Near (account_of s i) (account_of (stepped x s) i)
    beside i c =
        subst (λ (a : Account). Near (account_of s i) a) (sym (stepped-account x s g.long e b i c)) (near x i (account_of s i) (sort x e))

pub grown-low : (n : ℕ) (s : List ℕ) → n ≤ steps → Grown n s → Low s
grown-low n s h g =
    record {
      long = g.long;
      balances = λ (i : ℕ) (c : i < accounts).
          let most : (account_of s i).balance ≤ sum_most + n * amount_most = g.balances i c in
          omega arith;
      turnovers = λ (i : ℕ) (c : i < accounts).
          let most : (account_of s i).turnover ≤ n * amount_most = g.turnovers i c in
          omega arith;
    }
