-- A step and its take-back leave the very numbers that stood there before the step: row by row, balances, turnover, settings, and
-- the journal's place, which is zero again.
-- Assumes nothing.
use mathlib.Core.Path.{◌≡◌, refl, sym, ap, subst, ◌∙◌}
use mathlib.Core.Bool.{Bool, true, false, ◌&&◌, cond}
use mathlib.Core.List.{List}
use Prim.Native.Nat.{ℕ, suc, ◌+◌, ◌-◌, ◌≤◌, ◌<◌}
use native.Mathlib.Nat.{add-sub_cancel, sub-add_cancel}
use native.Mathlib.Omega.{arith}
use lib.Dec.{eqb}
use lib.ListN.{length}
use borrow.Author.Tests.{eqb-true, eqb-false, leb-true}
use Rattle.shape.proofs.Tests.{and_left, and_right}
use Rattle.slip.specs.Meaning.{steps}
use Rattle.layout.specs.declared.rows.Head.{Head}
use Rattle.layout.specs.declared.rows.Settings.{Settings}
use Rattle.layout.specs.declared.rows.Account.{Account}
use Rattle.layout.specs.declared.rows.Step.{Step}
use Rattle.layout.specs.Seat.{accounts, seat_long, head_of, with_head, account_of, step_of, with_step}
use Rattle.layout.proofs.Seats.{
  with-head-length,
  with-step-length,
  head-got,
  step-got,
  step_other,
  account-past-head,
  account-past-step,
  step-past-head,
  same-seat,
}
use Rattle.journal.specs.Steps.{set_kind, is_kind, moves, step_fits, no_step}
use Rattle.journal.specs.Answers.{answerable}
use Rattle.journal.specs.Working.{
  settled,
  debited,
  credited,
  turned,
  undebited,
  uncredited,
  unturned,
  uneffect,
  counting,
  stepped,
  backed,
  covered,
  possible,
}
use Rattle.journal.proofs.StepLaws.{same-settings}
use Rattle.journal.proofs.Changed.{
  Sort,
  sets,
  rests,
  turns,
  transfers,
  sort,
  hit,
  after,
  before,
  uneffect-length,
  uneffect-step,
  uneffect-account,
  stepped-length,
  stepped-head,
  stepped-last,
  stepped-other,
  stepped-account,
}

-- the seat without its last step, row by row
module _ (x : Step) (s : List ℕ) (n : ℕ) (l : length s ≡ seat_long) (e : step_fits x ≡ true) (b : n < steps)
    (h : (head_of s).steps ≡ suc n) (last : step_of s n ≡ x) where
  backed-is : backed s ≡ with_head (with_step (uneffect x s) n no_step) (counting n (head_of s))
  unfolding backed
  backed-is =
      let less : (head_of s).steps - 1 ≡ n = omega arith in
      rw (less, last)

  placed : length (with_step (uneffect x s) n no_step) ≡ seat_long
  placed = with-step-length (uneffect x s) n no_step (uneffect-length x s l e) b

  pub backed-length : length (backed s) ≡ seat_long
  backed-length = ap length backed-is ∙ with-head-length (with_step (uneffect x s) n no_step) (counting n (head_of s)) placed

  pub backed-head : head_of (backed s) ≡ counting n (head_of s)
  backed-head = ap head_of backed-is ∙ head-got (with_step (uneffect x s) n no_step) (counting n (head_of s)) placed

  pub backed-last : step_of (backed s) n ≡ no_step
  backed-last =
      ap (λ (t : List ℕ). step_of t n) backed-is
      ∙ step-past-head (with_step (uneffect x s) n no_step) n (counting n (head_of s))
      ∙ step-got (uneffect x s) n no_step (uneffect-length x s l e) b

  pub backed-other : (k : ℕ) → k < steps → (n ≡ k → ⊥) → step_of (backed s) k ≡ step_of s k
  backed-other k c apart =
      ap (λ (t : List ℕ). step_of t k) backed-is
      ∙ step-past-head (with_step (uneffect x s) n no_step) k (counting n (head_of s))
      ∙ step_other (uneffect x s) n k no_step (uneffect-length x s l e) c apart
      ∙ uneffect-step x s l e k

  pub backed-account : (i : ℕ) → i < accounts → account_of (backed s) i ≡ before x i (account_of s i)
  backed-account i c =
      ap (λ (t : List ℕ). account_of t i) backed-is
      ∙ account-past-head (with_step (uneffect x s) n no_step) i (counting n (head_of s))
      ∙ account-past-step (uneffect x s) i n no_step (uneffect-length x s l e) c
      ∙ uneffect-account x s l e i c

-- what a possible step asks for
module _ (x : Step) (s : List ℕ) (p : possible x s ≡ true) where
  pub possible-fits : step_fits x ≡ true
  unfolding possible
  possible-fits = and_left (step_fits x) (covered x s) (and_left (step_fits x && covered x s) (answerable x s) p)

  pub possible-covered : covered x s ≡ true
  unfolding possible
  possible-covered = and_right (step_fits x) (covered x s) (and_left (step_fits x && covered x s) (answerable x s) p)

  pub possible-answerable : answerable x s ≡ true
  unfolding possible
  possible-answerable = and_right (step_fits x && covered x s) (answerable x s) p

  -- a set's old settings are those of the moment
  pub possible-old : is_kind set_kind x ≡ true → x.old ≡ (account_of s x.account).settings
  unfolding covered
  possible-old k = same-settings x.old (account_of s x.account).settings (rw k at possible-covered)

  -- a movement between two accounts is covered
  pub possible-debit : is_kind set_kind x ≡ false → moves x ≡ true → eqb x.debit x.credit ≡ false
      → x.amount ≤ (account_of s x.debit).balance
  unfolding covered
  possible-debit k n q = leb-true x.amount (account_of s x.debit).balance (rw (k, n, q) at possible-covered)

-- to take back what was done to an account gives the account
restores-set : (x : Step) (i : ℕ) (a : Account) → (x.account ≡ i → x.old ≡ a.settings)
    → hit x.account i (settled x.old) (hit x.account i (settled x.given) a) ≡ a
restores-set x i a same = go (eqb x.account i) refl
  where
    go : (t : Bool) → eqb x.account i ≡ t → cond t (settled x.old (cond t (settled x.given a) a)) (cond t (settled x.given a) a) ≡ a
    go true e = ap (λ (y : Settings). settled y a) (same (eqb-true x.account i e))
    go false e = refl

restores-turn : (d i n : ℕ) (a : Account) → hit d i (unturned n) (hit d i (turned n) a) ≡ a
restores-turn d i n a = go (eqb d i)
  where
    go : (t : Bool) → cond t (unturned n (cond t (turned n a) a)) (cond t (turned n a) a) ≡ a
    go true = ap (λ (m : ℕ). record { opening = a.opening; balance = a.balance; turnover = m; settings = a.settings })
        (add-sub_cancel a.turnover n)
    go false = refl

restores-move : (d c i n : ℕ) (a : Account) → (d ≡ c → ⊥) → (d ≡ i → n ≤ a.balance)
    → hit d i (undebited n) (hit c i (uncredited n) (hit c i (credited n) (hit d i (debited n) a))) ≡ a
restores-move d c i n a apart most = go (eqb d i) refl (eqb c i) refl
  where
    go : (t : Bool) → eqb d i ≡ t → (u : Bool) → eqb c i ≡ u
        → cond t (undebited n (cond u (uncredited n (cond u (credited n (cond t (debited n a) a)) (cond t (debited n a) a)))
        (cond u (credited n (cond t (debited n a) a)) (cond t (debited n a) a))))
        (cond u (uncredited n (cond u (credited n (cond t (debited n a) a)) (cond t (debited n a) a)))
        (cond u (credited n (cond t (debited n a) a)) (cond t (debited n a) a))) ≡ a
    go true e true f = absurd (apart (eqb-true d i e ∙ sym (eqb-true c i f)))
    go true e false f =
        let out : (a.balance - n) + n ≡ a.balance = sub-add_cancel (most (eqb-true d i e)) in
        let back : (a.turnover + n) - n ≡ a.turnover = add-sub_cancel a.turnover n in
        λ z. record { opening = a.opening; balance = out z; turnover = back z; settings = a.settings }
    go false e true f = ap (λ (m : ℕ). record { opening = a.opening; balance = m; turnover = a.turnover; settings = a.settings })
        (add-sub_cancel a.balance n)
    go false e false f = refl

restores : (x : Step) (s : List ℕ) (i : ℕ) → possible x s ≡ true → Sort x → before x i (after x i (account_of s i)) ≡ account_of s i
unfolding before after
restores x s i p (sets k b) =
    rw k (restores-set x i (account_of s i)
    (λ (same : x.account ≡ i). possible-old x s p k ∙ ap (λ (j : ℕ). (account_of s j).settings) same))
restores x s i p (rests k n) = rw (k, n)
restores x s i p (turns k n q b m) = rw (k, n, q) (restores-turn x.debit i x.amount (account_of s i))
restores x s i p (transfers k n q b c m) =
    rw (k, n, q) (restores-move x.debit x.credit i x.amount (account_of s i) (eqb-false x.debit x.credit q)
    (λ (same : x.debit ≡ i). subst (λ (j : ℕ). x.amount ≤ (account_of s j).balance) same (possible-debit x s p k n q)))

-- a step followed by its take-back gives the seat back
pub back-restores : (x : Step) (s : List ℕ) → length s ≡ seat_long → (head_of s).steps < steps → step_of s (head_of s).steps ≡ no_step
    → possible x s ≡ true → backed (stepped x s) ≡ s
back-restores x s l b free p =
    let e = possible-fits x s p in
    let long = stepped-length x s l e b in
    let head = stepped-head x s l e b in
    let count = ap (λ (h : Head). h.steps) head in
    let last = stepped-last x s l e b in
    same-seat (backed (stepped x s)) s (backed-length x (stepped x s) (head_of s).steps long e b count last) l
    (backed-head x (stepped x s) (head_of s).steps long e b count last ∙ ap (counting (head_of s).steps) head)
    (λ (i : ℕ) (c : i < accounts).
    backed-account x (stepped x s) (head_of s).steps long e b count last i c
    ∙ ap (before x i) (stepped-account x s l e b i c)
    ∙ restores x s i p (sort x e))
    (λ (k : ℕ) (c : k < steps). place k c (eqb (head_of s).steps k) refl long e count last)
  where
    place : (k : ℕ) → k < steps → (t : Bool) → eqb (head_of s).steps k ≡ t → length (stepped x s) ≡ seat_long → step_fits x ≡ true
        → (head_of (stepped x s)).steps ≡ suc (head_of s).steps → step_of (stepped x s) (head_of s).steps ≡ x
        → step_of (backed (stepped x s)) k ≡ step_of s k
    place k c true q long e count last =
        let here = eqb-true (head_of s).steps k q in
        subst (λ (m : ℕ). step_of (backed (stepped x s)) m ≡ step_of s m) here
        (backed-last x (stepped x s) (head_of s).steps long e b count last ∙ sym free)
    place k c false q long e count last =
        let apart = eqb-false (head_of s).steps k q in
        backed-other x (stepped x s) (head_of s).steps long e b count last k c apart
        ∙ stepped-other x s l e b k c apart
