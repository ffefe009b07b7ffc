-- A seat that was just opened, row by row: its head, an account for each sum with that sum in it, and no step.
-- Assumes nothing.
use mathlib.Core.Path.{◌≡◌, refl, sym, ap, subst, ◌∙◌}
use mathlib.Core.Bool.{Bool, true}
use mathlib.Core.List.{List, [], ◌∷◌, ◌++◌}
use Prim.Native.Nat.{ℕ, zero, suc, ◌+◌, ◌-◌, ◌*◌, ◌≤◌, ◌<◌}
use native.Mathlib.Omega.{arith}
use lib.Dec.{leb}
use lib.ListN.{length, get_or, take, drop, replicate, length-append, length-replicate, replicate-append-replicate}
use lib.Seq.{drop-append-add, drop_at, take_at, ext_get_or}
use borrow.Author.Tests.{leb-true, le-leb}
use Rattle.shape.specs.Bytes.{every}
use Rattle.table.proofs.Lines.{each}
use Rattle.slip.specs.Meaning.{steps}
use Rattle.layout.specs.declared.rows.Head.{Head}
use Rattle.layout.specs.declared.rows.Account.{Account}
use Rattle.layout.specs.Parts.{part}
use Rattle.layout.specs.Rows.{head_long, head_row, head_in, account_long, account_row, account_in, step_long, step_in}
use Rattle.layout.specs.Seat.{accounts, step_from, seat_long, head_of, account_of, step_of}
use Rattle.layout.proofs.RowLaws.{head-length, account-length, account-read}
use Rattle.layout.proofs.Seats.{same-seat}
use Rattle.journal.specs.Steps.{sum_most, no_step}
use Rattle.journal.proofs.Grown.{Grown}
use Rattle.seat.specs.Fit.{open_account, open_accounts, open_seat, sums_from, sums_of}

-- the head of an opened seat
abbrev pub open_head : ℕ → Head
open_head opening = record { opening = opening; opened = 1; steps = 0 }

pub opened-head : (opening : ℕ) (sums : List ℕ) → head_of (open_seat opening sums) ≡ open_head opening
unfolding head_of open_seat head_in head_row part
opened-head opening sums = refl

-- how long it is
accounts-length : (n : ℕ) (sums : List ℕ) → length (open_accounts n sums) ≡ account_long * n
unfolding open_accounts account_row
accounts-length zero sums = refl
accounts-length (suc n) [] = let rest : length (open_accounts n []) ≡ account_long * n = accounts-length n [] in omega arith
accounts-length (suc n) (sum ∷ sums) = let rest : length (open_accounts n sums) ≡ account_long * n = accounts-length n sums in omega arith

pub opened-length : (opening : ℕ) (sums : List ℕ) → length (open_seat opening sums) ≡ seat_long
unfolding open_seat head_row
opened-length opening sums =
    let zeros : List ℕ = replicate (step_long * steps) 0 in
    let ahead : length (open_accounts accounts sums) ≡ account_long * accounts = accounts-length accounts sums in
    let behind : length zeros ≡ step_long * steps = length-replicate {A = ℕ} (step_long * steps) 0 in
    let both : length (open_accounts accounts sums ++ zeros) ≡ length (open_accounts accounts sums) + length zeros =
    length-append (open_accounts accounts sums) zeros in
    omega arith

-- a part that lies wholly behind the first of two lists
part-behind : (p q : List ℕ) (m a w : ℕ) → length p ≡ m → part (p ++ q) (m + a) w ≡ part q a w
unfolding part
part-behind p q m a w e =
    ap (λ (t : List ℕ). take w t) (subst (λ (n : ℕ). drop (n + a) (p ++ q) ≡ drop a q) e (drop-append-add p q a))

-- the first row of what begins with it
part-first : (p q : List ℕ) (w : ℕ) → length p ≡ w → part (p ++ q) 0 w ≡ p
unfolding part
part-first p q w e = take_at p q w e

-- the first of the opened accounts, and the others behind it
accounts-cut : (n : ℕ) (sums z : List ℕ)
    → open_accounts (suc n) sums ++ z ≡ account_row (open_account (get_or sums 0 0)) ++ (open_accounts n (drop 1 sums) ++ z)
unfolding open_accounts account_row
accounts-cut n [] z = refl
accounts-cut n (sum ∷ sums) z = refl

later : (sums : List ℕ) (i : ℕ) → get_or (drop 1 sums) i 0 ≡ get_or sums (suc i) 0
later [] i = refl
later (sum ∷ sums) i = refl

next_row : (i : ℕ) → account_long * suc i ≡ account_long + account_long * i
next_row i = omega arith

-- the i-th of n opened accounts, whatever stands behind them
account-at : (n i : ℕ) (sums z : List ℕ) → i < n
    → part (open_accounts n sums ++ z) (account_long * i) account_long ≡ account_row (open_account (get_or sums i 0))
account-at zero i sums z h = absurd (omega arith)
account-at (suc n) zero sums z h =
    ap (λ (t : List ℕ). part t 0 account_long) (accounts-cut n sums z)
    ∙ part-first (account_row (open_account (get_or sums 0 0))) (open_accounts n (drop 1 sums) ++ z) account_long
    (account-length (open_account (get_or sums 0 0)))
account-at (suc n) (suc i) sums z h =
    ap (λ (t : List ℕ). part t (account_long * suc i) account_long) (accounts-cut n sums z)
    ∙ ap (λ (a : ℕ). part (account_row (open_account (get_or sums 0 0)) ++ (open_accounts n (drop 1 sums) ++ z)) a account_long) (next_row i)
    ∙ part-behind (account_row (open_account (get_or sums 0 0))) (open_accounts n (drop 1 sums) ++ z) account_long (account_long * i) account_long
    (account-length (open_account (get_or sums 0 0)))
    ∙ account-at n i (drop 1 sums) z (omega arith)
    ∙ ap (λ (sum : ℕ). account_row (open_account sum)) (later sums i)

-- an account of an opened seat has its sum, and 0 where there is no sum for it
pub opened-account : (opening : ℕ) (sums : List ℕ) (i : ℕ) → i < accounts → account_of (open_seat opening sums) i ≡ open_account (get_or sums i 0)
unfolding open_seat account_of
opened-account opening sums i h =
    ap account_in
    (part-behind (head_row (open_head opening)) (open_accounts accounts sums ++ replicate (step_long * steps) 0) head_long (account_long * i) account_long
    (head-length (open_head opening))
    ∙ account-at accounts i sums (replicate (step_long * steps) 0) h)
    ∙ account-read (open_account (get_or sums i 0))

-- zeros in the middle of zeros
zeros-part : (m w r : ℕ) → part (replicate (m + (w + r)) 0) m w ≡ replicate w 0
unfolding part
zeros-part m w r =
    ap (λ (t : List ℕ). take w (drop m t)) (sym (replicate-append-replicate m (w + r) 0))
    ∙ ap (λ (t : List ℕ). take w t) (drop_at (replicate m 0) (replicate (w + r) 0) m (length-replicate m 0))
    ∙ ap (λ (t : List ℕ). take w t) (sym (replicate-append-replicate w r 0))
    ∙ take_at (replicate w 0) (replicate r 0) w (length-replicate w 0)

-- any part of zeros is zeros
pub zeros_within : (n m w : ℕ) → m + w ≤ n → part (replicate n 0) m w ≡ replicate w 0
zeros_within n m w h =
    let all : m + (w + (n - (m + w))) ≡ n = omega arith in
    subst (λ (k : ℕ). part (replicate k 0) m w ≡ replicate w 0) all (zeros-part m w (n - (m + w)))

no-step-read : step_in (replicate step_long 0) ≡ no_step
unfolding step_in
no-step-read = refl

-- an opened seat has no step
pub opened-step : (opening : ℕ) (sums : List ℕ) (k : ℕ) → k < steps → step_of (open_seat opening sums) k ≡ no_step
unfolding open_seat step_of
opened-step opening sums k h =
    let from : step_from k ≡ head_long + (account_long * accounts + step_long * k) = omega arith in
    let zeros : List ℕ = replicate (step_long * steps) 0 in
    ap (λ (a : ℕ). step_in (part (head_row (open_head opening) ++ (open_accounts accounts sums ++ zeros)) a step_long)) from
    ∙ ap step_in
    (part-behind (head_row (open_head opening)) (open_accounts accounts sums ++ zeros) head_long (account_long * accounts + step_long * k) step_long
    (head-length (open_head opening))
    ∙ part-behind (open_accounts accounts sums) zeros (account_long * accounts) (step_long * k) step_long (accounts-length accounts sums)
    ∙ zeros_within (step_long * steps) (step_long * k) step_long (omega arith))
    ∙ no-step-read

-- the sums that stand in a seat, one by one
pub sums-length : (s : List ℕ) (i n : ℕ) → length (sums_from s i n) ≡ n
unfolding sums_from
sums-length s i zero = refl
sums-length s i (suc n) = ap suc (sums-length s (suc i) n)

pub sums_at : (s : List ℕ) (i n k : ℕ) → k < n → get_or (sums_from s i n) k 0 ≡ (account_of s (i + k)).opening
unfolding sums_from
sums_at s i zero k h = absurd (omega arith)
sums_at s i (suc n) zero h =
    let same : i ≡ i + 0 = omega arith in
    ap (λ (j : ℕ). (account_of s j).opening) same
sums_at s i (suc n) (suc k) h =
    let over : suc i + k ≡ i + suc k = omega arith in
    sums_at s (suc i) n k (omega arith) ∙ ap (λ (j : ℕ). (account_of s j).opening) over

-- seats with the same opening sums
pub same-sums : (s t : List ℕ) (i n : ℕ) → ((j : ℕ) → i ≤ j → j < i + n → (account_of s j).opening ≡ (account_of t j).opening)
    → sums_from s i n ≡ sums_from t i n
unfolding sums_from
same-sums s t i zero same = refl
same-sums s t i (suc n) same =
    rw (
      same i (omega arith) (omega arith),
      same-sums s t (suc i) n (λ (j : ℕ) (a : suc i ≤ j) (b : j < suc i + n). same j (omega arith) (omega arith)),
    )

opened-sum : (opening : ℕ) (sums : List ℕ) (i : ℕ) → i < accounts → (account_of (open_seat opening sums) i).opening ≡ get_or sums i 0
opened-sum opening sums i h = ap (λ (a : Account). a.opening) (opened-account opening sums i h)

-- a seat that was opened with a sum for each account has these sums
pub opened-sums : (opening : ℕ) (sums : List ℕ) → length sums ≡ accounts → sums_of (open_seat opening sums) ≡ sums
unfolding sums_of
opened-sums opening sums l =
    let long : length (sums_from (open_seat opening sums) 0 accounts) ≡ accounts = sums-length (open_seat opening sums) 0 accounts in
    ext_get_or 0 (sums_from (open_seat opening sums) 0 accounts) sums (long ∙ sym l)
    (λ (i : ℕ) (h : i < length (sums_from (open_seat opening sums) 0 accounts)).
    let within : i < accounts = omega arith in
    let same : 0 + i ≡ i = omega arith in
    sums_at (open_seat opening sums) 0 accounts i within
    ∙ ap (λ (j : ℕ). (account_of (open_seat opening sums) j).opening) same
    ∙ opened-sum opening sums i within)

-- to name the zeros at the end of the sums or to leave them out opens the same seat
pub opened-padded : (opening : ℕ) (sums : List ℕ) → open_seat opening (sums_of (open_seat opening sums)) ≡ open_seat opening sums
unfolding sums_of
opened-padded opening sums =
    let all : List ℕ = sums_from (open_seat opening sums) 0 accounts in
    same-seat (open_seat opening all) (open_seat opening sums) (opened-length opening all) (opened-length opening sums)
    (opened-head opening all ∙ sym (opened-head opening sums))
    (λ (i : ℕ) (h : i < accounts).
    let same : 0 + i ≡ i = omega arith in
    opened-account opening all i h
    ∙ ap open_account
    (sums_at (open_seat opening sums) 0 accounts i h
    ∙ ap (λ (j : ℕ). (account_of (open_seat opening sums) j).opening) same
    ∙ opened-sum opening sums i h)
    ∙ sym (opened-account opening sums i h))
    (λ (k : ℕ) (h : k < steps). opened-step opening all k h ∙ sym (opened-step opening sums k h))

-- a rule that holds of each number of a list holds of the list
all_hold : (f : ℕ → Bool) (xs : List ℕ) → ((i : ℕ) → i < length xs → f (get_or xs i 0) ≡ true) → every f xs ≡ true
all_hold f [] rule = refl
all_hold f (x ∷ xs) rule = rw (rule 0 (omega arith), all_hold f xs (λ (i : ℕ) (h : i < length xs). rule (suc i) (omega arith)))

pub sum-most : (sums : List ℕ) (i : ℕ) → every (λ (sum : ℕ). leb sum sum_most) sums ≡ true → get_or sums i 0 ≤ sum_most
sum-most sums i e = leb-true (get_or sums i 0) sum_most (each (λ (sum : ℕ). leb sum sum_most) sums 0 refl e i)

pub opened-most : (opening : ℕ) (sums : List ℕ) → every (λ (sum : ℕ). leb sum sum_most) sums ≡ true
    → every (λ (sum : ℕ). leb sum sum_most) (sums_of (open_seat opening sums)) ≡ true
unfolding sums_of
opened-most opening sums e =
    let long : length (sums_from (open_seat opening sums) 0 accounts) ≡ accounts = sums-length (open_seat opening sums) 0 accounts in
    all_hold (λ (sum : ℕ). leb sum sum_most) (sums_from (open_seat opening sums) 0 accounts)
    (λ (i : ℕ) (h : i < length (sums_from (open_seat opening sums) 0 accounts)).
    let within : i < accounts = omega arith in
    let same : 0 + i ≡ i = omega arith in
    let here : get_or (sums_from (open_seat opening sums) 0 accounts) i 0 ≡ get_or sums i 0 =
    sums_at (open_seat opening sums) 0 accounts i within
    ∙ ap (λ (j : ℕ). (account_of (open_seat opening sums) j).opening) same
    ∙ opened-sum opening sums i within in
    rw here (le-leb (get_or sums i 0) sum_most (sum-most sums i e)))

-- an opened seat has no high numbers
pub opened-grown : (opening : ℕ) (sums : List ℕ) → every (λ (sum : ℕ). leb sum sum_most) sums ≡ true → Grown 0 (open_seat opening sums)
opened-grown opening sums e =
    record {
      long = opened-length opening sums;
      balances = λ (i : ℕ) (h : i < accounts).
          let here : (account_of (open_seat opening sums) i).balance ≡ get_or sums i 0 =
          ap (λ (a : Account). a.balance) (opened-account opening sums i h) in
          let most : get_or sums i 0 ≤ sum_most = sum-most sums i e in
          omega arith;
      turnovers = λ (i : ℕ) (h : i < accounts).
          let here : (account_of (open_seat opening sums) i).turnover ≡ 0 =
          ap (λ (a : Account). a.turnover) (opened-account opening sums i h) in
          omega arith;
    }
