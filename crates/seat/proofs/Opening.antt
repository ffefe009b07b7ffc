-- Opening a seat account by account: behind i turns the seat is opened with the first i sums, since an account without a sum is all
-- zeros. And the sums that are read again, one by one.
-- Assumes nothing.
use mathlib.Core.Path.{◌≡◌, refl, sym, ap, subst, ◌∙◌}
use mathlib.Core.List.{List, [], ◌∷◌, ◌++◌, append_assoc, append-nil}
use Prim.Native.Nat.{ℕ, zero, suc, ◌+◌, ◌*◌, ◌-◌, ◌≤◌, ◌<◌}
use native.Mathlib.Omega.{arith}
use native.Mathlib.Numerals.{add-one}
use lib.ListN.{length, get_or, set, take, drop, replicate}
use lib.Seq.{take-append-add, drop-append-add, take-suc, take_all, take-suc-set, length-take-le}
use Rattle.slip.specs.Meaning.{steps}
use Rattle.layout.specs.declared.rows.Account.{Account}
use Rattle.layout.specs.Parts.{put}
use Rattle.layout.specs.Rows.{head_row, account_row, account_long, step_long}
use Rattle.layout.specs.Seat.{accounts, seat_long, account_of, with_head, with_account}
use Rattle.seat.specs.Settings.{limit_number, settings_of, opening_limit, opening_settings}
use Rattle.seat.specs.Fit.{open_account, open_accounts, open_seat, sums_from, sums_of}

-- what is put behind the first of two lists is put into the second
put-past : (r s : List ℕ) (k w : ℕ) (ys : List ℕ) → put (r ++ s) (length r + k) w ys ≡ r ++ put s k w ys
unfolding put
put-past r s k w ys =
    rw (take-append-add r s k, drop-append-add r s k) (append_assoc r (take k s) (ys ++ drop w (drop k s)))

-- the head of a seat that is all zeros is put
pub opens-none : (opening : ℕ) → with_head (replicate seat_long 0) (record { opening = opening; opened = 1; steps = 0 }) ≡ open_seat opening []
unfolding with_head put head_row open_seat open_accounts account_row opening_settings opening_limit settings_of limit_number
opens-none opening = refl

-- the account behind n others is put: of an opened seat it was all zeros
next : (n : ℕ) → account_long * suc n ≡ account_long + account_long * n
next n = omega arith

opens-account : (m : ℕ) (xs z : List ℕ) (y : ℕ) → length xs < m
    → put (open_accounts m xs ++ z) (account_long * length xs) account_long (account_row (open_account y)) ≡ open_accounts m (xs ++ (y ∷ [])) ++ z
unfolding open_accounts account_row put
opens-account zero xs z y h = absurd (omega arith)
opens-account (suc m) [] z y h = refl
opens-account (suc m) (x ∷ xs) z y h =
    ap (λ (k : ℕ). put (account_row (open_account x) ++ (open_accounts m xs ++ z)) k account_long (account_row (open_account y))) (next (length xs))
    ∙ put-past (account_row (open_account x)) (open_accounts m xs ++ z) (account_long * length xs) account_long (account_row (open_account y))
    ∙ ap (λ (u : List ℕ). account_row (open_account x) ++ u) (opens-account m xs z y (omega arith))

opens-next : (opening : ℕ) (xs : List ℕ) (y : ℕ) → length xs < accounts
    → with_account (open_seat opening xs) (length xs) (open_account y) ≡ open_seat opening (xs ++ (y ∷ []))
unfolding open_seat with_account head_row
opens-next opening xs y h =
    let head : List ℕ = head_row (record { opening = opening; opened = 1; steps = 0 }) in
    let z : List ℕ = replicate (step_long * steps) 0 in
    put-past head (open_accounts accounts xs ++ z) (account_long * length xs) account_long (account_row (open_account y))
    ∙ ap (λ (u : List ℕ). head ++ u) (opens-account accounts xs z y h)

-- one turn of the loop that opens, and its end
pub opens-turn : (opening i : ℕ) (sums s t : List ℕ) (a : Account) → i < length sums → length sums ≤ accounts
    → s ≡ open_seat opening (take i sums) → a ≡ open_account (get_or sums i 0) → t ≡ with_account s i a
    → t ≡ open_seat opening (take (i + 1) sums)
opens-turn opening i sums s t a h l was new e =
    let long : length (take i sums) ≡ i = length-take-le i sums (omega arith) in
    let turn : with_account (open_seat opening (take i sums)) i (open_account (get_or sums i 0)) ≡ open_seat opening (take i sums ++ (get_or sums i 0 ∷ [])) =
    subst
    (λ (k : ℕ). with_account (open_seat opening (take i sums)) k (open_account (get_or sums i 0)) ≡ open_seat opening (take i sums ++ (get_or sums i 0 ∷ [])))
    long
    (opens-next opening (take i sums) (get_or sums i 0) (omega arith)) in
    rw (e, was, new, add-one i, take-suc sums i 0 h) turn

-- the sums that are read: what was read so far, and then what is left to read
sums-left : (s : List ℕ) (i n : ℕ) → i < n → sums_from s i (n - i) ≡ (account_of s i).opening ∷ sums_from s (i + 1) (n - (i + 1))
unfolding sums_from
sums-left s i n h =
    let one : n - i ≡ suc (n - (i + 1)) = omega arith in
    rw one (ap (λ (k : ℕ). (account_of s i).opening ∷ sums_from s k (n - (i + 1))) (sym (add-one i)))

pub reads-turn : (s out : List ℕ) (i sum : ℕ) → i < accounts → length out ≡ accounts → sum ≡ (account_of s i).opening
    → take i out ++ sums_from s i (accounts - i) ≡ sums_of s
    → take (i + 1) (set out i sum) ++ sums_from s (i + 1) (accounts - (i + 1)) ≡ sums_of s
reads-turn s out i sum h l read e =
    let turn : take (suc i) (set out i sum) ≡ take i out ++ (sum ∷ []) = take-suc-set out i sum (omega arith) in
    ap (λ (k : ℕ). take k (set out i sum) ++ sums_from s (i + 1) (accounts - (i + 1))) (add-one i)
    ∙ ap (λ (u : List ℕ). u ++ sums_from s (i + 1) (accounts - (i + 1))) turn
    ∙ append_assoc (take i out) (sum ∷ []) (sums_from s (i + 1) (accounts - (i + 1)))
    ∙ ap (λ (k : ℕ). take i out ++ (k ∷ sums_from s (i + 1) (accounts - (i + 1)))) read
    ∙ ap (λ (u : List ℕ). take i out ++ u) (sym (sums-left s i accounts h))
    ∙ e

pub reads_none : (s out : List ℕ) → take 0 out ++ sums_from s 0 (accounts - 0) ≡ sums_of s
unfolding sums_of
reads_none s out = refl

pub reads_all : (s out : List ℕ) (i : ℕ) → accounts ≤ i → length out ≡ accounts → take i out ++ sums_from s i (accounts - i) ≡ sums_of s → out ≡ sums_of s
unfolding sums_from
reads_all s out i h l e =
    let none : accounts - i ≡ 0 = omega arith in
    sym (append-nil out)
    ∙ ap (λ (u : List ℕ). u ++ []) (sym (take_all i out (omega arith)))
    ∙ ap (λ (k : ℕ). take i out ++ sums_from s i k) (sym none)
    ∙ e
