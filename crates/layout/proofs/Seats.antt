-- The laws of a seat: a row that was put is read again, every other row is as it was, and a seat is its head, its accounts and its steps.
-- Each law asks only for the bounds that it needs.
-- Assumes nothing.
use mathlib.Core.Path.{◌≡◌, sym, ap, ◌∙◌}
use mathlib.Core.List.{List, ◌++◌}
use Prim.Native.Nat.{ℕ, ◌+◌, ◌*◌, ◌≤◌, ◌<◌}
use native.Mathlib.Omega.{arith}
use lib.ListN.{length}
use Rattle.slip.specs.Meaning.{steps}
use Rattle.layout.specs.declared.rows.Head.{Head}
use Rattle.layout.specs.declared.rows.Account.{Account}
use Rattle.layout.specs.declared.rows.Step.{Step}
use Rattle.layout.specs.Parts.{part}
use Rattle.layout.specs.Rows.{head_long, head_row, head_in, account_long, account_row, account_in, step_long, step_row, step_in}
use Rattle.layout.specs.Seat.{
  accounts,
  account_from,
  step_from,
  seat_long,
  head_of,
  with_head,
  account_of,
  with_account,
  step_of,
  with_step,
}
use Rattle.layout.proofs.Parts.{
  part_length,
  put-length,
  part-put,
  part-put-before,
  part-put-behind,
  part-add,
  part-whole,
  row_other,
  rows_agree,
}
use Rattle.layout.proofs.RowLaws.{
  head-length,
  account-length,
  step-length,
  head_read,
  account-read,
  step-read,
  same_head,
  same-account,
  same_step,
}

-- the rows lie within the seat
account-within : (s : List ℕ) (i : ℕ) → length s ≡ seat_long → i < accounts → account_from i + account_long ≤ length s
account-within s i l h = omega arith

step-within : (s : List ℕ) (k : ℕ) → length s ≡ seat_long → k < steps → step_from k + step_long ≤ length s
step-within s k l h = omega arith

-- a seat stays as long as it was
pub with-head-length : (s : List ℕ) (h : Head) → length s ≡ seat_long → length (with_head s h) ≡ seat_long
unfolding with_head
with-head-length s h l = put-length s 0 head_long (head_row h) (head-length h) (omega arith) ∙ l

pub with-account-length : (s : List ℕ) (i : ℕ) (a : Account) → length s ≡ seat_long → i < accounts → length (with_account s i a) ≡ seat_long
unfolding with_account
with-account-length s i a l b = put-length s (account_from i) account_long (account_row a) (account-length a) (account-within s i l b) ∙ l

pub with-step-length : (s : List ℕ) (k : ℕ) (x : Step) → length s ≡ seat_long → k < steps → length (with_step s k x) ≡ seat_long
unfolding with_step
with-step-length s k x l b = put-length s (step_from k) step_long (step_row x) (step-length x) (step-within s k l b) ∙ l

-- a row that was put is read again
pub head-got : (s : List ℕ) (h : Head) → length s ≡ seat_long → head_of (with_head s h) ≡ h
unfolding head_of with_head
head-got s h l = ap head_in (part-put s 0 head_long (head_row h) (omega arith) (head-length h)) ∙ head_read h

pub account-got : (s : List ℕ) (i : ℕ) (a : Account) → length s ≡ seat_long → i < accounts → account_of (with_account s i a) i ≡ a
unfolding account_of with_account
account-got s i a l b =
    ap account_in (part-put s (account_from i) account_long (account_row a) (account-within s i l b) (account-length a)) ∙ account-read a

pub step-got : (s : List ℕ) (k : ℕ) (x : Step) → length s ≡ seat_long → k < steps → step_of (with_step s k x) k ≡ x
unfolding step_of with_step
step-got s k x l b =
    ap step_in (part-put s (step_from k) step_long (step_row x) (step-within s k l b) (step-length x)) ∙ step-read x

-- another row of the same sort is as it was
pub account-other : (s : List ℕ) (i j : ℕ) (a : Account) → length s ≡ seat_long → j < accounts → (i ≡ j → ⊥)
    → account_of (with_account s i a) j ≡ account_of s j
unfolding account_of with_account
account-other s i j a l b apart =
    ap account_in (row_other s head_long account_long i j (account_row a) apart (account-length a) (account-within s j l b))

pub step_other : (s : List ℕ) (k m : ℕ) (x : Step) → length s ≡ seat_long → m < steps → (k ≡ m → ⊥)
    → step_of (with_step s k x) m ≡ step_of s m
unfolding step_of with_step
step_other s k m x l b apart =
    ap step_in (row_other s (account_from accounts) step_long k m (step_row x) apart (step-length x) (step-within s m l b))

-- a row of another sort is as it was
pub head-past-account : (s : List ℕ) (i : ℕ) (a : Account) → length s ≡ seat_long → head_of (with_account s i a) ≡ head_of s
unfolding head_of with_account
head-past-account s i a l = ap head_in (part-put-before s (account_from i) account_long (account_row a) 0 head_long (omega arith) (omega arith))

pub head-past-step : (s : List ℕ) (k : ℕ) (x : Step) → length s ≡ seat_long → head_of (with_step s k x) ≡ head_of s
unfolding head_of with_step
head-past-step s k x l = ap head_in (part-put-before s (step_from k) step_long (step_row x) 0 head_long (omega arith) (omega arith))

pub account-past-head : (s : List ℕ) (i : ℕ) (h : Head) → account_of (with_head s h) i ≡ account_of s i
unfolding account_of with_head
account-past-head s i h =
    ap account_in (part-put-behind s 0 head_long (head_row h) (account_from i) account_long (omega arith) (head-length h))

pub account-past-step : (s : List ℕ) (i k : ℕ) (x : Step) → length s ≡ seat_long → i < accounts
    → account_of (with_step s k x) i ≡ account_of s i
unfolding account_of with_step
account-past-step s i k x l b =
    ap account_in
    (part-put-before s (step_from k) step_long (step_row x) (account_from i) account_long (omega arith) (account-within s i l b))

pub step-past-head : (s : List ℕ) (k : ℕ) (h : Head) → step_of (with_head s h) k ≡ step_of s k
unfolding step_of with_head
step-past-head s k h = ap step_in (part-put-behind s 0 head_long (head_row h) (step_from k) step_long (omega arith) (head-length h))

pub step-past-account : (s : List ℕ) (k i : ℕ) (a : Account) → i < accounts → step_of (with_account s i a) k ≡ step_of s k
unfolding step_of with_account
step-past-account s k i a b =
    ap step_in
    (part-put-behind s (account_from i) account_long (account_row a) (step_from k) step_long (omega arith) (account-length a))

-- a seat is cut into its head, its accounts and its steps
cut : (s : List ℕ) → length s ≡ seat_long
    → (part s 0 head_long ++ part s head_long (account_long * accounts)) ++ part s (account_from accounts) (step_long * steps) ≡ s
cut s l =
    ap (λ (t : List ℕ). t ++ part s (account_from accounts) (step_long * steps)) (sym (part-add s 0 head_long (account_long * accounts)))
    ∙ sym (part-add s 0 (account_from accounts) (step_long * steps))
    ∙ part-whole s seat_long l

-- two seats that agree in each row of a sort agree in the numbers of these rows
module _ (s t : List ℕ) (d : length s ≡ seat_long) (e : length t ≡ seat_long) where
  same-heads : head_of s ≡ head_of t → part s 0 head_long ≡ part t 0 head_long
  unfolding head_of
  same-heads h =
      same_head (part s 0 head_long) (part t 0 head_long)
      (part_length s 0 head_long (omega arith))
      (part_length t 0 head_long (omega arith))
      h

  same-accounts : ((i : ℕ) → i < accounts → account_of s i ≡ account_of t i)
      → part s head_long (account_long * accounts) ≡ part t head_long (account_long * accounts)
  unfolding account_of
  same-accounts h =
      rows_agree s t head_long account_long accounts
      (λ (i : ℕ) (b : i < accounts).
      same-account (part s (account_from i) account_long) (part t (account_from i) account_long)
      (part_length s (account_from i) account_long (account-within s i d b))
      (part_length t (account_from i) account_long (account-within t i e b))
      (h i b))

  same-steps : ((k : ℕ) → k < steps → step_of s k ≡ step_of t k)
      → part s (account_from accounts) (step_long * steps) ≡ part t (account_from accounts) (step_long * steps)
  unfolding step_of
  same-steps h =
      rows_agree s t (account_from accounts) step_long steps
      (λ (k : ℕ) (b : k < steps).
      same_step (part s (step_from k) step_long) (part t (step_from k) step_long)
      (part_length s (step_from k) step_long (step-within s k d b))
      (part_length t (step_from k) step_long (step-within t k e b))
      (h k b))

-- a seat is its head, its accounts and its steps
pub same-seat : (s t : List ℕ) → length s ≡ seat_long → length t ≡ seat_long → head_of s ≡ head_of t
    → ((i : ℕ) → i < accounts → account_of s i ≡ account_of t i) → ((k : ℕ) → k < steps → step_of s k ≡ step_of t k) → s ≡ t
same-seat s t d e heads rows behind =
    sym (cut s d) ∙ rw (same-heads s t d e heads, same-accounts s t d e rows, same-steps s t d e behind) (cut t e)
