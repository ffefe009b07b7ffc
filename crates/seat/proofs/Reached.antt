-- What holds of every open seat that fits, because it was opened and then worked: its last step fits, its settings fit, the place behind its
-- journal is free, and its balances sum up to what it was opened with.
-- Assumes nothing.
use Rattle.std.specs.Prelude.{Some}
use mathlib.Core.Path.{◌≡◌, refl, sym, ap, subst, ◌∙◌}
use mathlib.Core.Bool.{true}
use mathlib.Core.List.{List}
use Prim.Native.Nat.{ℕ, zero, suc, ◌+◌, ◌-◌, ◌≤◌, ◌<◌}
use native.Mathlib.Omega.{arith}
use lib.ListN.{length, get_or}
use Rattle.shape.specs.Bits.{total}
use Rattle.slip.specs.Meaning.{steps}
use Rattle.layout.specs.declared.rows.Head.{Head}
use Rattle.layout.specs.declared.rows.Account.{Account}
use Rattle.layout.specs.declared.rows.Step.{Step}
use Rattle.layout.specs.Seat.{accounts, seat_long, head_of, account_of, step_of}
use Rattle.journal.specs.Steps.{settings_fit, step_fits, no_step}
use Rattle.journal.specs.Working.{stepped, last_step, possible, steps_from, journal_of, worked}
use Rattle.journal.proofs.Changed.{sort, stepped-account}
use Rattle.journal.proofs.Backed.{possible-fits}
use Rattle.journal.proofs.Sums.{balances_from, balances-stay}
use Rattle.journal.proofs.WorkedLaws.{Last, worked-last, journal-long, journal-last, worked-keeps}
use Rattle.journal.proofs.Settings.{after-settings}
use Rattle.seat.specs.Fit.{open_seat, sums_from, sums_of, open_fits}
use Rattle.seat.proofs.Limits.{opening-settings-fit}
use Rattle.seat.proofs.Opened.{opened-head, opened-length, opened-account, opened-sums, sum-most}
use Rattle.seat.proofs.Forward.{Fits, open-fits, made-free, sums-long}

-- the last step of a seat that fits
pub fit-last : (s : List ℕ) → length s ≡ seat_long → open_fits s ≡ true → 1 ≤ (head_of s).steps → step_fits (last_step s) ≡ true
fit-last s l e h =
    let f : Fits s = open-fits s e in
    let xs : List Step = steps_from s 0 ((head_of s).steps - 1) in
    let from : List ℕ = open_seat (head_of s).opening (sums_of s) in
    let last : Last (last_step s) xs from s =
    worked-last (last_step s) xs from s (subst (λ (ys : List Step). worked ys from ≡ Some s) (journal-last s h) f.comes) in
    possible-fits (last_step s) last.behind last.can

-- the place behind the journal
pub fit_free : (s : List ℕ) → length s ≡ seat_long → open_fits s ≡ true → (head_of s).steps < steps → step_of s (head_of s).steps ≡ no_step
fit_free s l e b =
    let f : Fits s = open-fits s e in
    let long : length (journal_of s) ≡ (head_of s).steps = journal-long s in
    made-free (head_of s).opening (sums_of s) (journal_of s) s (omega arith) f.comes (head_of s).steps (omega arith) b

-- and so by a seat that fits, from its opening on
fit-keeps : (P : List ℕ → Type 0)
    → ((x : Step) (s : List ℕ) → length s ≡ seat_long → (head_of s).steps < steps → possible x s ≡ true → P s → P (stepped x s))
    → (s : List ℕ) → open_fits s ≡ true → P (open_seat (head_of s).opening (sums_of s)) → P s
fit-keeps P keeps s e p =
    let f : Fits s = open-fits s e in
    let long : length (journal_of s) ≡ (head_of s).steps = journal-long s in
    let most : (head_of s).steps ≤ steps = f.count in
    let none_yet : (head_of (open_seat (head_of s).opening (sums_of s))).steps ≡ 0 =
    ap (λ (h : Head). h.steps) (opened-head (head_of s).opening (sums_of s)) in
    worked-keeps P keeps (journal_of s) (open_seat (head_of s).opening (sums_of s)) s (opened-length (head_of s).opening (sums_of s)) (omega arith)
    f.comes p

-- the settings of a seat that fits
pub fit-settings : (s : List ℕ) → length s ≡ seat_long → open_fits s ≡ true → (i : ℕ) → i < accounts → settings_fit (account_of s i).settings ≡ true
fit-settings s l e i b =
    fit-keeps (λ (t : List ℕ). settings_fit (account_of t i).settings ≡ true)
    (λ (x : Step) (t : List ℕ) (d : length t ≡ seat_long) (room : (head_of t).steps < steps) (can : possible x t ≡ true)
    (p : settings_fit (account_of t i).settings ≡ true).
    let fits : step_fits x ≡ true = possible-fits x t can in
    rw (stepped-account x t d fits room i b) (after-settings x i (account_of t i) fits p (sort x fits)))
    s e
    (rw (opened-account (head_of s).opening (sums_of s) i b)
    (opening-settings-fit (get_or (sums_of s) i 0) (sum-most (sums_of s) i (open-fits s e).sums)))

-- balances that are the opening sums
balances-open : (s : List ℕ) (i n : ℕ) → ((j : ℕ) → i ≤ j → j < i + n → (account_of s j).balance ≡ (account_of s j).opening)
    → balances_from s i n ≡ total (sums_from s i n)
unfolding balances_from sums_from
balances-open s i zero same = refl
balances-open s i (suc n) same =
    rw (
      same i (omega arith) (omega arith),
      balances-open s (suc i) n (λ (j : ℕ) (a : suc i ≤ j) (b : j < suc i + n). same j (omega arith) (omega arith)),
    )

opened-balances : (opening : ℕ) (sums : List ℕ) → length sums ≡ accounts → balances_from (open_seat opening sums) 0 accounts ≡ total sums
unfolding sums_of
opened-balances opening sums l =
    balances-open (open_seat opening sums) 0 accounts
    (λ (j : ℕ) (a : 0 ≤ j) (b : j < 0 + accounts).
    let within : j < accounts = omega arith in
    ap (λ (c : Account). c.balance) (opened-account opening sums j within)
    ∙ sym (ap (λ (c : Account). c.opening) (opened-account opening sums j within)))
    ∙ ap total (opened-sums opening sums l)

-- the balances of a seat that fits
pub sums-come-out : (s : List ℕ) → length s ≡ seat_long → open_fits s ≡ true → balances_from s 0 accounts ≡ total (sums_of s)
sums-come-out s l e =
    fit-keeps (λ (t : List ℕ). balances_from t 0 accounts ≡ total (sums_of s))
    (λ (x : Step) (t : List ℕ) (d : length t ≡ seat_long) (room : (head_of t).steps < steps) (can : possible x t ≡ true)
    (p : balances_from t 0 accounts ≡ total (sums_of s)).
    balances-stay x t d room can ∙ p)
    s e
    (opened-balances (head_of s).opening (sums_of s) (sums-long s))
