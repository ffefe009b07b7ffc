-- Money is neither made nor lost by a step: what one account gives, another gets, and the sum of all balances stays.
-- Assumes nothing.
use mathlib.Core.Path.{◌≡◌, refl, ap, ◌∙◌}
use mathlib.Core.Bool.{Bool, true, false, cond}
use mathlib.Core.List.{List}
use Prim.Native.Nat.{ℕ, zero, suc, ◌+◌, ◌-◌, ◌≤◌, ◌<◌}
use native.Mathlib.Nat.{lt_of_not-le}
use native.Mathlib.Omega.{arith}
use lib.Dec.{eqb}
use lib.ListN.{length}
use borrow.Author.Tests.{eqb-true, eqb-false}
use Rattle.slip.specs.Meaning.{steps}
use Rattle.layout.specs.declared.rows.Account.{Account}
use Rattle.layout.specs.declared.rows.Step.{Step}
use Rattle.layout.specs.Seat.{accounts, seat_long, head_of, account_of}
use Rattle.journal.specs.Steps.{step_fits}
use Rattle.journal.specs.Working.{settled, debited, credited, turned, changed, effect, stepped, possible}
use Rattle.journal.proofs.Changed.{
  Sort,
  sets,
  rests,
  turns,
  transfers,
  sort,
  changed-length,
  changed-here,
  changed-other,
  changed-account,
  effect-set,
  effect-none,
  effect-turn,
  effect-move,
  stepped-effect,
}
use Rattle.journal.proofs.Backed.{possible-fits, possible-debit}

-- the balances of n accounts from account i on, summed
unfoldable pub balances_from : List ℕ → ℕ → ℕ → ℕ
balances_from s i zero = 0
balances_from s i (suc n) = (account_of s i).balance + balances_from s (suc i) n

-- the same balances have the same sum
same_sum : (s t : List ℕ) (i n : ℕ) → ((j : ℕ) → i ≤ j → j < i + n → (account_of s j).balance ≡ (account_of t j).balance)
    → balances_from s i n ≡ balances_from t i n
unfolding balances_from
same_sum s t i zero same = refl
same_sum s t i (suc n) same =
    rw (same i (omega arith) (omega arith), same_sum s t (suc i) n (λ (j : ℕ) (a : suc i ≤ j) (b : j < suc i + n). same j (omega arith) (omega arith)))

-- where one balance among them is another, the sum is another by as much
one-other : (s t : List ℕ) (i n k : ℕ) → i ≤ k → k < i + n
    → ((j : ℕ) → i ≤ j → j < i + n → (k ≡ j → ⊥) → (account_of s j).balance ≡ (account_of t j).balance)
    → balances_from s i n + (account_of t k).balance ≡ balances_from t i n + (account_of s k).balance
unfolding balances_from
one-other s t i zero k a b same = absurd (omega arith)
one-other s t i (suc n) k a b same =
    go (eqb k i) refl
    (λ (c : suc i ≤ k) (d : k < suc i + n).
    one-other s t (suc i) n k c d (λ (j : ℕ) (e : suc i ≤ j) (f : j < suc i + n) (q : k ≡ j → ⊥). same j (omega arith) (omega arith) q))
  where
    go : (u : Bool) → eqb k i ≡ u
        → (suc i ≤ k → k < suc i + n
        → balances_from s (suc i) n + (account_of t k).balance ≡ balances_from t (suc i) n + (account_of s k).balance)
        → ((account_of s i).balance + balances_from s (suc i) n) + (account_of t k).balance
        ≡ ((account_of t i).balance + balances_from t (suc i) n) + (account_of s k).balance
    go true e deeper =
        let here : k ≡ i = eqb-true k i e in
        let rest : balances_from s (suc i) n ≡ balances_from t (suc i) n =
        same_sum s t (suc i) n
        (λ (j : ℕ) (c : suc i ≤ j) (d : j < suc i + n). same j (omega arith) (omega arith) (λ (q : k ≡ j). omega arith)) in
        rw (here, rest) (omega arith)
    go false e deeper =
        let apart : k ≡ i → ⊥ = eqb-false k i e in
        let behind : i < k = lt_of_not-le (λ (h : k ≤ i). apart (omega arith)) in
        let rest : balances_from s (suc i) n + (account_of t k).balance ≡ balances_from t (suc i) n + (account_of s k).balance =
        deeper behind (omega arith) in
        let first : (account_of s i).balance ≡ (account_of t i).balance = same i (omega arith) (omega arith) apart in
        omega arith

-- an account is changed, and its balance stays
kept-balance : (f : Account → Account) (a : Account) → ((c : Account) → (f c).balance ≡ c.balance) → (t : Bool)
    → (cond t (f a) a).balance ≡ a.balance
kept-balance f a keeps true = keeps a
kept-balance f a keeps false = refl

kept-sum : (f : Account → Account) (i : ℕ) (s : List ℕ) → length s ≡ seat_long → i < accounts → ((a : Account) → (f a).balance ≡ a.balance)
    → balances_from (changed f i s) 0 accounts ≡ balances_from s 0 accounts
kept-sum f i s l b keeps =
    same_sum (changed f i s) s 0 accounts
    (λ (j : ℕ) (c : 0 ≤ j) (d : j < 0 + accounts).
    let within : j < accounts = omega arith in
    ap (λ (a : Account). a.balance) (changed-account f i s l b j within) ∙ kept-balance f (account_of s j) keeps (eqb i j))

-- an account is changed: the sum is another by as much as its balance
other-sum : (f : Account → Account) (i : ℕ) (s : List ℕ) → length s ≡ seat_long → i < accounts
    → balances_from (changed f i s) 0 accounts + (account_of s i).balance ≡ balances_from s 0 accounts + (f (account_of s i)).balance
other-sum f i s l b =
    one-other (changed f i s) s 0 accounts i (omega arith) (omega arith)
    (λ (j : ℕ) (c : 0 ≤ j) (d : j < 0 + accounts) (q : i ≡ j → ⊥).
    let within : j < accounts = omega arith in
    ap (λ (a : Account). a.balance) (changed-other f i s l b j within q))
    ∙ ap (λ (a : Account). balances_from s 0 accounts + a.balance) (changed-here f i s l b)

effect-sum : (x : Step) (s : List ℕ) → length s ≡ seat_long → possible x s ≡ true → Sort x
    → balances_from (effect x s) 0 accounts ≡ balances_from s 0 accounts
effect-sum x s l p (sets k b) =
    ap (λ (t : List ℕ). balances_from t 0 accounts) (effect-set x s k)
    ∙ kept-sum (settled x.given) x.account s l b (λ (a : Account). refl)
effect-sum x s l p (rests k n) = ap (λ (t : List ℕ). balances_from t 0 accounts) (effect-none x s k n)
effect-sum x s l p (turns k n q b m) =
    ap (λ (t : List ℕ). balances_from t 0 accounts) (effect-turn x s k n q)
    ∙ kept-sum (turned x.amount) x.debit s l b (λ (a : Account). refl)
effect-sum x s l p (transfers k n q b c m) =
    let out : List ℕ = changed (debited x.amount) x.debit s in
    let long : length out ≡ seat_long = changed-length (debited x.amount) x.debit s l b in
    let most : x.amount ≤ (account_of s x.debit).balance = possible-debit x s p k n q in
    let left : balances_from out 0 accounts + (account_of s x.debit).balance
    ≡ balances_from s 0 accounts + ((account_of s x.debit).balance - x.amount) =
    other-sum (debited x.amount) x.debit s l b in
    let came : balances_from (changed (credited x.amount) x.credit out) 0 accounts + (account_of out x.credit).balance
    ≡ balances_from out 0 accounts + ((account_of out x.credit).balance + x.amount) =
    other-sum (credited x.amount) x.credit out long c in
    let whole : balances_from (changed (credited x.amount) x.credit out) 0 accounts ≡ balances_from s 0 accounts = omega arith in
    ap (λ (t : List ℕ). balances_from t 0 accounts) (effect-move x s k n q) ∙ whole

-- the sum of all balances stays
pub balances-stay : (x : Step) (s : List ℕ) → length s ≡ seat_long → (head_of s).steps < steps → possible x s ≡ true
    → balances_from (stepped x s) 0 accounts ≡ balances_from s 0 accounts
balances-stay x s l b p =
    let e : step_fits x ≡ true = possible-fits x s p in
    same_sum (stepped x s) (effect x s) 0 accounts
    (λ (j : ℕ) (c : 0 ≤ j) (d : j < 0 + accounts).
    let within : j < accounts = omega arith in
    ap (λ (a : Account). a.balance) (stepped-effect x s l e b j within))
    ∙ effect-sum x s l p (sort x e)
