-- What a step does to a seat and what taking it back does, row by row: the head and the journal stay, and each account is changed by
-- itself. A step does one of four things, which `Sort` tells apart.
-- Assumes nothing.
use mathlib.Core.Path.{◌≡◌, refl, ap, subst, ◌∙◌}
use mathlib.Core.Bool.{Bool, true, false, cond}
use mathlib.Core.List.{List}
use Prim.Native.Nat.{ℕ, suc, ◌≤◌, ◌<◌}
use lib.Dec.{eqb}
use lib.ListN.{length}
use borrow.Author.Tests.{eqb-true, eqb-false}
use Rattle.slip.specs.Meaning.{steps}
use Rattle.layout.specs.declared.rows.Account.{Account}
use Rattle.layout.specs.declared.rows.Step.{Step}
use Rattle.layout.specs.Seat.{accounts, seat_long, head_of, account_of, step_of, with_step}
use Rattle.layout.proofs.Seats.{
  with-head-length,
  with-account-length,
  with-step-length,
  head-got,
  account-got,
  step-got,
  account-other,
  step_other,
  head-past-account,
  account-past-head,
  account-past-step,
  step-past-head,
  step-past-account,
}
use Rattle.journal.specs.Steps.{set_kind, amount_most, is_kind, moves, step_fits}
use Rattle.journal.specs.Working.{
  settled,
  debited,
  credited,
  turned,
  undebited,
  uncredited,
  unturned,
  changed,
  moved,
  unmoved,
  effect,
  uneffect,
  counting,
  stepped,
}
use Rattle.journal.proofs.StepLaws.{set-account, moved-within}

-- a step that fits is a set, moves nothing, moves within one account, or moves between two
pub data Sort (x : Step) : Type 0 where
  sets : is_kind set_kind x ≡ true → x.account < accounts → Sort x
  rests : is_kind set_kind x ≡ false → moves x ≡ false → Sort x
  turns : is_kind set_kind x ≡ false → moves x ≡ true → eqb x.debit x.credit ≡ true
      → x.debit < accounts → x.amount ≤ amount_most → Sort x
  transfers : is_kind set_kind x ≡ false → moves x ≡ true → eqb x.debit x.credit ≡ false
      → x.debit < accounts → x.credit < accounts → x.amount ≤ amount_most → Sort x

pub sort : (x : Step) → step_fits x ≡ true → Sort x
sort x e = kinds (is_kind set_kind x) refl
  where
    sides : is_kind set_kind x ≡ false → moves x ≡ true → (t : Bool) → eqb x.debit x.credit ≡ t → Sort x
    sides k n true q =
        let within = moved-within x e k n in
        turns k n q within.0 within.2
    sides k n false q =
        let within = moved-within x e k n in
        transfers k n q within.0 within.1 within.2

    movements : is_kind set_kind x ≡ false → (t : Bool) → moves x ≡ t → Sort x
    movements k true n = sides k n (eqb x.debit x.credit) refl
    movements k false n = rests k n

    kinds : (t : Bool) → is_kind set_kind x ≡ t → Sort x
    kinds true k = sets k (set-account x e k)
    kinds false k = movements k (moves x) refl

-- what becomes of account j where account i is changed
abbrev pub hit : ℕ → ℕ → (Account → Account) → Account → Account
hit i j f a = cond (eqb i j) (f a) a

-- what becomes of account j by a step, and by taking it back
unfoldable pub after : Step → ℕ → Account → Account
after x j a =
    cond (is_kind set_kind x) (hit x.account j (settled x.given) a)
    (cond (moves x)
    (cond (eqb x.debit x.credit) (hit x.debit j (turned x.amount) a)
    (hit x.credit j (credited x.amount) (hit x.debit j (debited x.amount) a)))
    a)

unfoldable pub before : Step → ℕ → Account → Account
before x j a =
    cond (is_kind set_kind x) (hit x.account j (settled x.old) a)
    (cond (moves x)
    (cond (eqb x.debit x.credit) (hit x.debit j (unturned x.amount) a)
    (hit x.debit j (undebited x.amount) (hit x.credit j (uncredited x.amount) a)))
    a)

-- one account changed: everything else is as it was
module _ (f : Account → Account) (i : ℕ) (s : List ℕ) (l : length s ≡ seat_long) (b : i < accounts) where
  pub changed-length : length (changed f i s) ≡ seat_long
  unfolding changed
  changed-length = with-account-length s i (f (account_of s i)) l b

  pub changed-head : head_of (changed f i s) ≡ head_of s
  unfolding changed
  changed-head = head-past-account s i (f (account_of s i)) l

  pub changed-step : (k : ℕ) → step_of (changed f i s) k ≡ step_of s k
  unfolding changed
  changed-step k = step-past-account s k i (f (account_of s i)) b

  pub changed-here : account_of (changed f i s) i ≡ f (account_of s i)
  unfolding changed
  changed-here = account-got s i (f (account_of s i)) l b

  pub changed-other : (j : ℕ) → j < accounts → (i ≡ j → ⊥) → account_of (changed f i s) j ≡ account_of s j
  unfolding changed
  changed-other j c apart = account-other s i j (f (account_of s i)) l c apart

  pub changed-account : (j : ℕ) → j < accounts → account_of (changed f i s) j ≡ hit i j f (account_of s j)
  changed-account j c = go (eqb i j) refl
    where
      go : (t : Bool) → eqb i j ≡ t → account_of (changed f i s) j ≡ cond t (f (account_of s j)) (account_of s j)
      go true e = subst (λ (k : ℕ). account_of (changed f i s) k ≡ f (account_of s k)) (eqb-true i j e) changed-here
      go false e = changed-other j c (eqb-false i j e)

-- what a step of each sort does
module _ (x : Step) (s : List ℕ) (k : is_kind set_kind x ≡ true) where
  pub effect-set : effect x s ≡ changed (settled x.given) x.account s
  unfolding effect
  effect-set = rw k

  pub uneffect-set : uneffect x s ≡ changed (settled x.old) x.account s
  unfolding uneffect
  uneffect-set = rw k

module _ (x : Step) (s : List ℕ) (k : is_kind set_kind x ≡ false) where
  pub effect-none : moves x ≡ false → effect x s ≡ s
  unfolding effect
  effect-none n = rw (k, n)

  pub uneffect-none : moves x ≡ false → uneffect x s ≡ s
  unfolding uneffect
  uneffect-none n = rw (k, n)

  pub effect-turn : moves x ≡ true → eqb x.debit x.credit ≡ true → effect x s ≡ changed (turned x.amount) x.debit s
  unfolding effect moved
  effect-turn n q = rw (k, n, q)

  pub uneffect-turn : moves x ≡ true → eqb x.debit x.credit ≡ true
      → uneffect x s ≡ changed (unturned x.amount) x.debit s
  unfolding uneffect unmoved
  uneffect-turn n q = rw (k, n, q)

  pub effect-move : moves x ≡ true → eqb x.debit x.credit ≡ false
      → effect x s ≡ changed (credited x.amount) x.credit (changed (debited x.amount) x.debit s)
  unfolding effect moved
  effect-move n q = rw (k, n, q)

  pub uneffect-move : moves x ≡ true → eqb x.debit x.credit ≡ false
      → uneffect x s ≡ changed (undebited x.amount) x.debit (changed (uncredited x.amount) x.credit s)
  unfolding uneffect unmoved
  uneffect-move n q = rw (k, n, q)

-- the rows behind a step
module _ (x : Step) (s : List ℕ) (l : length s ≡ seat_long) where
  effect-length-by : Sort x → length (effect x s) ≡ seat_long
  effect-length-by (sets k b) = ap length (effect-set x s k) ∙ changed-length (settled x.given) x.account s l b
  effect-length-by (rests k n) = ap length (effect-none x s k n) ∙ l
  effect-length-by (turns k n q b m) = ap length (effect-turn x s k n q) ∙ changed-length (turned x.amount) x.debit s l b
  effect-length-by (transfers k n q b c m) =
      ap length (effect-move x s k n q)
      ∙ changed-length (credited x.amount) x.credit (changed (debited x.amount) x.debit s)
      (changed-length (debited x.amount) x.debit s l b) c

  effect-head-by : Sort x → head_of (effect x s) ≡ head_of s
  effect-head-by (sets k b) = ap head_of (effect-set x s k) ∙ changed-head (settled x.given) x.account s l b
  effect-head-by (rests k n) = ap head_of (effect-none x s k n)
  effect-head-by (turns k n q b m) = ap head_of (effect-turn x s k n q) ∙ changed-head (turned x.amount) x.debit s l b
  effect-head-by (transfers k n q b c m) =
      ap head_of (effect-move x s k n q)
      ∙ changed-head (credited x.amount) x.credit (changed (debited x.amount) x.debit s)
      (changed-length (debited x.amount) x.debit s l b) c
      ∙ changed-head (debited x.amount) x.debit s l b

  effect-step-by : (p : ℕ) → Sort x → step_of (effect x s) p ≡ step_of s p
  effect-step-by p (sets k b) =
      ap (λ (t : List ℕ). step_of t p) (effect-set x s k) ∙ changed-step (settled x.given) x.account s l b p
  effect-step-by p (rests k n) = ap (λ (t : List ℕ). step_of t p) (effect-none x s k n)
  effect-step-by p (turns k n q b m) =
      ap (λ (t : List ℕ). step_of t p) (effect-turn x s k n q) ∙ changed-step (turned x.amount) x.debit s l b p
  effect-step-by p (transfers k n q b c m) =
      ap (λ (t : List ℕ). step_of t p) (effect-move x s k n q)
      ∙ changed-step (credited x.amount) x.credit (changed (debited x.amount) x.debit s)
      (changed-length (debited x.amount) x.debit s l b) c p
      ∙ changed-step (debited x.amount) x.debit s l b p

  effect-account-by : (j : ℕ) → j < accounts → Sort x → account_of (effect x s) j ≡ after x j (account_of s j)
  unfolding after
  effect-account-by j d (sets k b) =
      ap (λ (t : List ℕ). account_of t j) (effect-set x s k)
      ∙ rw k (changed-account (settled x.given) x.account s l b j d)
  effect-account-by j d (rests k n) = ap (λ (t : List ℕ). account_of t j) (effect-none x s k n) ∙ rw (k, n)
  effect-account-by j d (turns k n q b m) =
      ap (λ (t : List ℕ). account_of t j) (effect-turn x s k n q)
      ∙ rw (k, n, q) (changed-account (turned x.amount) x.debit s l b j d)
  effect-account-by j d (transfers k n q b c m) =
      ap (λ (t : List ℕ). account_of t j) (effect-move x s k n q)
      ∙ changed-account (credited x.amount) x.credit (changed (debited x.amount) x.debit s)
      (changed-length (debited x.amount) x.debit s l b) c j d
      ∙ ap (hit x.credit j (credited x.amount)) (changed-account (debited x.amount) x.debit s l b j d)
      ∙ rw (k, n, q)

  -- and behind its take-back
  uneffect-length-by : Sort x → length (uneffect x s) ≡ seat_long
  uneffect-length-by (sets k b) = ap length (uneffect-set x s k) ∙ changed-length (settled x.old) x.account s l b
  uneffect-length-by (rests k n) = ap length (uneffect-none x s k n) ∙ l
  uneffect-length-by (turns k n q b m) = ap length (uneffect-turn x s k n q) ∙ changed-length (unturned x.amount) x.debit s l b
  uneffect-length-by (transfers k n q b c m) =
      ap length (uneffect-move x s k n q)
      ∙ changed-length (undebited x.amount) x.debit (changed (uncredited x.amount) x.credit s)
      (changed-length (uncredited x.amount) x.credit s l c) b

  uneffect-head-by : Sort x → head_of (uneffect x s) ≡ head_of s
  uneffect-head-by (sets k b) = ap head_of (uneffect-set x s k) ∙ changed-head (settled x.old) x.account s l b
  uneffect-head-by (rests k n) = ap head_of (uneffect-none x s k n)
  uneffect-head-by (turns k n q b m) = ap head_of (uneffect-turn x s k n q) ∙ changed-head (unturned x.amount) x.debit s l b
  uneffect-head-by (transfers k n q b c m) =
      ap head_of (uneffect-move x s k n q)
      ∙ changed-head (undebited x.amount) x.debit (changed (uncredited x.amount) x.credit s)
      (changed-length (uncredited x.amount) x.credit s l c) b
      ∙ changed-head (uncredited x.amount) x.credit s l c

  uneffect-step-by : (p : ℕ) → Sort x → step_of (uneffect x s) p ≡ step_of s p
  uneffect-step-by p (sets k b) =
      ap (λ (t : List ℕ). step_of t p) (uneffect-set x s k) ∙ changed-step (settled x.old) x.account s l b p
  uneffect-step-by p (rests k n) = ap (λ (t : List ℕ). step_of t p) (uneffect-none x s k n)
  uneffect-step-by p (turns k n q b m) =
      ap (λ (t : List ℕ). step_of t p) (uneffect-turn x s k n q) ∙ changed-step (unturned x.amount) x.debit s l b p
  uneffect-step-by p (transfers k n q b c m) =
      ap (λ (t : List ℕ). step_of t p) (uneffect-move x s k n q)
      ∙ changed-step (undebited x.amount) x.debit (changed (uncredited x.amount) x.credit s)
      (changed-length (uncredited x.amount) x.credit s l c) b p
      ∙ changed-step (uncredited x.amount) x.credit s l c p

  uneffect-account-by : (j : ℕ) → j < accounts → Sort x → account_of (uneffect x s) j ≡ before x j (account_of s j)
  unfolding before
  uneffect-account-by j d (sets k b) =
      ap (λ (t : List ℕ). account_of t j) (uneffect-set x s k)
      ∙ rw k (changed-account (settled x.old) x.account s l b j d)
  uneffect-account-by j d (rests k n) = ap (λ (t : List ℕ). account_of t j) (uneffect-none x s k n) ∙ rw (k, n)
  uneffect-account-by j d (turns k n q b m) =
      ap (λ (t : List ℕ). account_of t j) (uneffect-turn x s k n q)
      ∙ rw (k, n, q) (changed-account (unturned x.amount) x.debit s l b j d)
  uneffect-account-by j d (transfers k n q b c m) =
      ap (λ (t : List ℕ). account_of t j) (uneffect-move x s k n q)
      ∙ changed-account (undebited x.amount) x.debit (changed (uncredited x.amount) x.credit s)
      (changed-length (uncredited x.amount) x.credit s l c) b j d
      ∙ ap (hit x.debit j (undebited x.amount)) (changed-account (uncredited x.amount) x.credit s l c j d)
      ∙ rw (k, n, q)

-- the opening sum of an account stays, whatever is done to it
pub after-opening : (x : Step) (j : ℕ) (a : Account) → Sort x → (after x j a).opening ≡ a.opening
unfolding after
after-opening x j a (sets k b) = rw k (go (eqb x.account j))
  where
    go : (t : Bool) → (cond t (settled x.given a) a).opening ≡ a.opening
    go true = refl
    go false = refl
after-opening x j a (rests k n) = rw (k, n)
after-opening x j a (turns k n q b m) = rw (k, n, q) (go (eqb x.debit j))
  where
    go : (t : Bool) → (cond t (turned x.amount a) a).opening ≡ a.opening
    go true = refl
    go false = refl
after-opening x j a (transfers k n q b c m) = rw (k, n, q) (go (eqb x.credit j) (eqb x.debit j))
  where
    go : (t u : Bool) → (cond t (credited x.amount (cond u (debited x.amount a) a)) (cond u (debited x.amount a) a)).opening ≡ a.opening
    go true true = refl
    go true false = refl
    go false true = refl
    go false false = refl

-- the rows behind a step that fits
module _ (x : Step) (s : List ℕ) (l : length s ≡ seat_long) (e : step_fits x ≡ true) where
  pub effect-length : length (effect x s) ≡ seat_long
  effect-length = effect-length-by x s l (sort x e)

  pub effect-head : head_of (effect x s) ≡ head_of s
  effect-head = effect-head-by x s l (sort x e)

  pub effect-step : (p : ℕ) → step_of (effect x s) p ≡ step_of s p
  effect-step p = effect-step-by x s l p (sort x e)

  pub effect-account : (j : ℕ) → j < accounts → account_of (effect x s) j ≡ after x j (account_of s j)
  effect-account j d = effect-account-by x s l j d (sort x e)

  pub effect-opening : (j : ℕ) → j < accounts → (account_of (effect x s) j).opening ≡ (account_of s j).opening
  effect-opening j d = ap (λ (a : Account). a.opening) (effect-account j d) ∙ after-opening x j (account_of s j) (sort x e)

  pub uneffect-length : length (uneffect x s) ≡ seat_long
  uneffect-length = uneffect-length-by x s l (sort x e)

  pub uneffect-head : head_of (uneffect x s) ≡ head_of s
  uneffect-head = uneffect-head-by x s l (sort x e)

  pub uneffect-step : (p : ℕ) → step_of (uneffect x s) p ≡ step_of s p
  uneffect-step p = uneffect-step-by x s l p (sort x e)

  pub uneffect-account : (j : ℕ) → j < accounts → account_of (uneffect x s) j ≡ before x j (account_of s j)
  uneffect-account j d = uneffect-account-by x s l j d (sort x e)

-- the seat with one step more
module _ (x : Step) (s : List ℕ) (l : length s ≡ seat_long) (e : step_fits x ≡ true) (b : (head_of s).steps < steps) where
  placed : length (with_step (effect x s) (head_of s).steps x) ≡ seat_long
  placed = with-step-length (effect x s) (head_of s).steps x (effect-length x s l e) b

  pub stepped-length : length (stepped x s) ≡ seat_long
  unfolding stepped
  stepped-length =
      with-head-length (with_step (effect x s) (head_of s).steps x) (counting (suc (head_of s).steps) (head_of s)) placed

  pub stepped-head : head_of (stepped x s) ≡ counting (suc (head_of s).steps) (head_of s)
  unfolding stepped
  stepped-head = head-got (with_step (effect x s) (head_of s).steps x) (counting (suc (head_of s).steps) (head_of s)) placed

  pub stepped-last : step_of (stepped x s) (head_of s).steps ≡ x
  unfolding stepped
  stepped-last =
      step-past-head (with_step (effect x s) (head_of s).steps x) (head_of s).steps (counting (suc (head_of s).steps) (head_of s))
      ∙ step-got (effect x s) (head_of s).steps x (effect-length x s l e) b

  pub stepped-other : (k : ℕ) → k < steps → ((head_of s).steps ≡ k → ⊥) → step_of (stepped x s) k ≡ step_of s k
  unfolding stepped
  stepped-other k c apart =
      step-past-head (with_step (effect x s) (head_of s).steps x) k (counting (suc (head_of s).steps) (head_of s))
      ∙ step_other (effect x s) (head_of s).steps k x (effect-length x s l e) c apart
      ∙ effect-step x s l e k

  pub stepped-effect : (i : ℕ) → i < accounts → account_of (stepped x s) i ≡ account_of (effect x s) i
  unfolding stepped
  stepped-effect i c =
      account-past-head (with_step (effect x s) (head_of s).steps x) i (counting (suc (head_of s).steps) (head_of s))
      ∙ account-past-step (effect x s) i (head_of s).steps x (effect-length x s l e) c

  pub stepped-account : (i : ℕ) → i < accounts → account_of (stepped x s) i ≡ after x i (account_of s i)
  stepped-account i c = stepped-effect i c ∙ effect-account x s l e i c

  pub stepped-opening : (i : ℕ) → i < accounts → (account_of (stepped x s) i).opening ≡ (account_of s i).opening
  stepped-opening i c = ap (λ (a : Account). a.opening) (stepped-effect i c) ∙ effect-opening x s l e i c
