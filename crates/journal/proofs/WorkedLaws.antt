-- The steps of a journal and working forward over them: the seat behind them has them as its journal, and its head, its opening sums and the
-- height of its numbers follow from the seat before. What each possible step keeps is kept by all of them. And one turn of a loop over them.
-- Assumes nothing.
use Rattle.std.specs.Prelude.{Some, None}
use mathlib.Core.Path.{◌≡◌, refl, sym, ap, subst, ◌∙◌}
use mathlib.Core.Logic.{⊎_elim}
use mathlib.Core.Bool.{Bool, true, false, cond}
use mathlib.Core.List.{List, [], ◌∷◌, ◌++◌}
use Prim.Native.Nat.{ℕ, zero, suc, ◌+◌, ◌-◌, ◌≤◌, ◌<◌}
use native.Mathlib.Omega.{arith}
use native.Mathlib.Nat.{eq-or-lt_of_le}
use native.Mathlib.Numerals.{add-one}
use lib.ListN.{length}
use Rattle.shape.specs.Bytes.{every}
use Rattle.shape.proofs.Tests.{and_left, and_right}
use Rattle.slip.specs.Meaning.{steps}
use Rattle.layout.specs.declared.rows.Head.{Head}
use Rattle.layout.specs.declared.rows.Step.{Step}
use Rattle.layout.specs.Seat.{accounts, seat_long, head_of, account_of, step_of}
use Rattle.journal.specs.Steps.{step_fits}
use Rattle.journal.specs.Working.{counting, stepped, possible, steps_from, journal_of, worked}
use Rattle.journal.proofs.Changed.{stepped-length, stepped-head, stepped-last, stepped-other, stepped-opening}
use Rattle.journal.proofs.Backed.{possible-fits}
use Rattle.journal.proofs.Grown.{Grown, grown-more}

-- working forward by one step
pub worked-none : (s : List ℕ) → worked [] s ≡ Some s
unfolding worked
worked-none s = refl

worked-first : (x : Step) (xs : List Step) (s : List ℕ) → worked (x ∷ xs) s ≡ cond (possible x s) (worked xs (stepped x s)) None
unfolding worked
worked-first x xs s = refl

-- if a journal was worked, its first step was possible, and the others were worked behind it
module _ (x : Step) (xs : List Step) (s t : List ℕ) (w : worked (x ∷ xs) s ≡ Some t) where
  by-test : (u : Bool) → possible x s ≡ u → cond u (worked xs (stepped x s)) None ≡ Some t
      → (possible x s ≡ true) × (worked xs (stepped x s) ≡ Some t)
  by-test true e v = (e, v)
  by-test false e v = let z : ◌≡◌ {A = ℕ} 0 1 = cc in absurd (omega arith)

  both : (possible x s ≡ true) × (worked xs (stepped x s) ≡ Some t)
  both = by-test (possible x s) refl (sym (worked-first x xs s) ∙ w)

  pub first-possible : possible x s ≡ true
  first-possible = both.0

  pub rest-worked : worked xs (stepped x s) ≡ Some t
  rest-worked = both.1

-- one step more at the end
pub worked-more : (x : Step) (xs : List Step) (s t : List ℕ) → worked xs s ≡ Some t → possible x t ≡ true
    → worked (xs ++ (x ∷ [])) s ≡ Some (stepped x t)
worked-more x [] s t w p =
    let here : s ≡ t = let at_once : Some s ≡ Some t = sym (worked-none s) ∙ w in cc in
    worked-first x [] s ∙ rw (here, p) (worked-none (stepped x t))
worked-more x (y ∷ xs) s t w p =
    worked-first y (xs ++ (x ∷ [])) s
    ∙ rw (first-possible y xs s t w) (worked-more x xs (stepped y s) t (rest-worked y xs s t w) p)

-- the last step of what was worked
pub record Last (x : Step) (xs : List Step) (s t : List ℕ) : Type 0 where
  pub behind : List ℕ
  pub before : worked xs s ≡ Some behind
  pub can : possible x behind ≡ true
  pub comes : stepped x behind ≡ t

pub worked-last : (x : Step) (xs : List Step) (s t : List ℕ) → worked (xs ++ (x ∷ [])) s ≡ Some t → Last x xs s t
worked-last x [] s t w =
    let at_once : Some (stepped x s) ≡ Some t = sym (worked-none (stepped x s)) ∙ rest-worked x [] s t w in
    record { behind = s; before = worked-none s; can = first-possible x [] s t w; comes = cc }
worked-last x (y ∷ xs) s t w =
    let rest : Last x xs (stepped y s) t = worked-last x xs (stepped y s) t (rest-worked y (xs ++ (x ∷ [])) s t w) in
    record {
      behind = rest.behind;
      before = worked-first y xs s ∙ rw (first-possible y (xs ++ (x ∷ [])) s t w) rest.before;
      can = rest.can;
      comes = rest.comes;
    }

-- the steps of a journal
pub steps-length : (s : List ℕ) (k n : ℕ) → length (steps_from s k n) ≡ n
unfolding steps_from
steps-length s k zero = refl
steps-length s k (suc n) = ap suc (steps-length s (suc k) n)

pub steps-more : (s : List ℕ) (k n : ℕ) → steps_from s k (suc n) ≡ steps_from s k n ++ (step_of s (k + n) ∷ [])
unfolding steps_from
steps-more s k zero = let here : k ≡ k + 0 = omega arith in ap (λ (p : ℕ). step_of s p ∷ []) here
steps-more s k (suc n) =
    let over : suc k + n ≡ k + suc n = omega arith in
    ap (λ (ys : List Step). step_of s k ∷ ys) (steps-more s (suc k) n ∙ ap (λ (p : ℕ). steps_from s (suc k) n ++ (step_of s p ∷ [])) over)

pub same-steps : (s t : List ℕ) (k n : ℕ) → ((p : ℕ) → k ≤ p → p < k + n → step_of s p ≡ step_of t p) → steps_from s k n ≡ steps_from t k n
unfolding steps_from
same-steps s t k zero alike = refl
same-steps s t k (suc n) alike =
    rw (
      alike k (omega arith) (omega arith),
      same-steps s t (suc k) n (λ (p : ℕ) (a : suc k ≤ p) (b : p < suc k + n). alike p (omega arith) (omega arith)),
    )

-- a seat t that was worked from s by these steps
pub record Reached (xs : List Step) (s t : List ℕ) : Type 0 where
  pub long : length t ≡ seat_long
  pub head : head_of t ≡ counting ((head_of s).steps + length xs) (head_of s)
  pub journal : steps_from t (head_of s).steps (length xs) ≡ xs
  pub ahead : (k : ℕ) → k < (head_of s).steps → step_of t k ≡ step_of s k
  pub rest : (k : ℕ) → (head_of s).steps + length xs ≤ k → k < steps → step_of t k ≡ step_of s k
  pub sums : (i : ℕ) → i < accounts → (account_of t i).opening ≡ (account_of s i).opening
  pub grown : (n : ℕ) → Grown n s → Grown (n + length xs) t

reached-none : (s : List ℕ) → length s ≡ seat_long → Reached [] s s
unfolding steps_from
reached-none s l =
    let same_count : (head_of s).steps + 0 ≡ (head_of s).steps = omega arith in
    record {
      long = l;
      head = ap (λ (n : ℕ). counting n (head_of s)) (sym same_count);
      journal = refl;
      ahead = λ (k : ℕ) (h : k < (head_of s).steps). refl;
      rest = λ (k : ℕ) (a : (head_of s).steps + 0 ≤ k) (b : k < steps). refl;
      sums = λ (i : ℕ) (h : i < accounts). refl;
      grown = λ (n : ℕ) (g : Grown n s). let none_more : n ≡ n + 0 = omega arith in subst (λ (m : ℕ). Grown m s) none_more g;
    }

reached-first : (x : Step) (xs : List Step) (s t : List ℕ) → length s ≡ seat_long → (head_of s).steps < steps → step_fits x ≡ true
    → Reached xs (stepped x s) t → Reached (x ∷ xs) s t
unfolding steps_from
reached-first x xs s t l b e r =
    let after : head_of (stepped x s) ≡ counting (suc (head_of s).steps) (head_of s) = stepped-head x s l e b in
    let count : (head_of (stepped x s)).steps ≡ suc (head_of s).steps = ap (λ (h : Head). h.steps) after in
    let sum : (head_of (stepped x s)).steps + length xs ≡ (head_of s).steps + suc (length xs) = omega arith in
    let here : step_of t (head_of s).steps ≡ x = r.ahead (head_of s).steps (omega arith) ∙ stepped-last x s l e b in
    let behind : steps_from t (suc (head_of s).steps) (length xs) ≡ xs =
    subst (λ (k : ℕ). steps_from t k (length xs) ≡ xs) count r.journal in
    record {
      long = r.long;
      head = r.head ∙ rw (sum, after);
      journal = rw (here, behind);
      ahead = λ (k : ℕ) (h : k < (head_of s).steps).
          r.ahead k (omega arith) ∙ stepped-other x s l e b k (omega arith) (λ (q : (head_of s).steps ≡ k). omega arith);
      rest = λ (k : ℕ) (h : (head_of s).steps + suc (length xs) ≤ k) (c : k < steps).
          r.rest k (omega arith) c ∙ stepped-other x s l e b k c (λ (q : (head_of s).steps ≡ k). omega arith);
      sums = λ (i : ℕ) (h : i < accounts). r.sums i h ∙ stepped-opening x s l e b i h;
      grown = λ (n : ℕ) (g : Grown n s).
          let over : suc n + length xs ≡ n + suc (length xs) = omega arith in
          subst (λ (m : ℕ). Grown m t) over (r.grown (suc n) (grown-more x n s g e b));
    }

pub reached : (xs : List Step) (s t : List ℕ) → length s ≡ seat_long → (head_of s).steps + length xs ≤ steps → worked xs s ≡ Some t → Reached xs s t
reached [] s t l b w =
    let here : s ≡ t = let at_once : Some s ≡ Some t = sym (worked-none s) ∙ w in cc in
    subst (λ (u : List ℕ). Reached [] s u) here (reached-none s l)
reached (x ∷ xs) s t l b w =
    let p : possible x s ≡ true = first-possible x xs s t w in
    let e : step_fits x ≡ true = possible-fits x s p in
    let room : (head_of s).steps < steps = omega arith in
    let count : (head_of (stepped x s)).steps ≡ suc (head_of s).steps = ap (λ (h : Head). h.steps) (stepped-head x s l e room) in
    reached-first x xs s t l room e
    (reached xs (stepped x s) t (stepped-length x s l e room) (omega arith) (rest-worked x xs s t w))

pub journal-long : (s : List ℕ) → length (journal_of s) ≡ (head_of s).steps
unfolding journal_of
journal-long s = steps-length s 0 (head_of s).steps

-- a journal that has steps, with its last one apart
pub journal-last : (s : List ℕ) → 1 ≤ (head_of s).steps
    → journal_of s ≡ steps_from s 0 ((head_of s).steps - 1) ++ (step_of s ((head_of s).steps - 1) ∷ [])
unfolding journal_of
journal-last s h =
    let more : (head_of s).steps ≡ suc ((head_of s).steps - 1) = omega arith in
    let from-none : 0 + ((head_of s).steps - 1) ≡ (head_of s).steps - 1 = omega arith in
    ap (λ (n : ℕ). steps_from s 0 n) more
    ∙ steps-more s 0 ((head_of s).steps - 1)
    ∙ ap (λ (k : ℕ). steps_from s 0 ((head_of s).steps - 1) ++ (step_of s k ∷ [])) from-none

-- what each possible step keeps is kept by all of a journal
pub worked-keeps : (P : List ℕ → Type 0)
    → ((x : Step) (s : List ℕ) → length s ≡ seat_long → (head_of s).steps < steps → possible x s ≡ true → P s → P (stepped x s))
    → (xs : List Step) (s t : List ℕ) → length s ≡ seat_long → (head_of s).steps + length xs ≤ steps → worked xs s ≡ Some t → P s → P t
worked-keeps P keeps [] s t l b w p =
    let here : s ≡ t = let at_once : Some s ≡ Some t = sym (worked-none s) ∙ w in cc in
    subst P here p
worked-keeps P keeps (x ∷ xs) s t l b w p =
    let can : possible x s ≡ true = first-possible x xs s t w in
    let e : step_fits x ≡ true = possible-fits x s can in
    let room : (head_of s).steps < steps = omega arith in
    let count : (head_of (stepped x s)).steps ≡ suc (head_of s).steps = ap (λ (h : Head). h.steps) (stepped-head x s l e room) in
    worked-keeps P keeps xs (stepped x s) t (stepped-length x s l e room) (omega arith) (rest-worked x xs s t w) (keeps x s l room can p)

-- each step that was worked was possible
pub worked-fits : (xs : List Step) (s t : List ℕ) → worked xs s ≡ Some t → every step_fits xs ≡ true
worked-fits [] s t w = refl
worked-fits (x ∷ xs) s t w =
    rw (possible-fits x s (first-possible x xs s t w)) (worked-fits xs (stepped x s) t (rest-worked x xs s t w))

-- what is tested of n steps from the k-th on holds of each of them
pub each_step : (f : Step → Bool) (s : List ℕ) (k n : ℕ) → every f (steps_from s k n) ≡ true → (j : ℕ) → k ≤ j → j < k + n → f (step_of s j) ≡ true
unfolding steps_from
each_step f s k zero t j a b = absurd (omega arith)
each_step f s k (suc n) t j a b =
    ⊎_elim (λ (e : k ≡ j). subst (λ (i : ℕ). f (step_of s i) ≡ true) e (and_left (f (step_of s k)) (every f (steps_from s (suc k) n)) t))
    (λ (l : k < j). each_step f s (suc k) n (and_right (f (step_of s k)) (every f (steps_from s (suc k) n)) t) j l (omega arith))
    (eq-or-lt_of_le a)

-- the steps that are left: the k-th and those after it
pub steps-left : (s : List ℕ) (k n : ℕ) → k < n → steps_from s k (n - k) ≡ step_of s k ∷ steps_from s (k + 1) (n - (k + 1))
unfolding steps_from
steps-left s k n h =
    let one : n - k ≡ suc (n - (k + 1)) = omega arith in
    rw one (ap (λ (j : ℕ). step_of s k ∷ steps_from s j (n - (k + 1))) (sym (add-one k)))

module _ (s t : List ℕ) (x : Step) (k n : ℕ) (h : k < n) (read : x ≡ step_of s k) where
  work-turn : worked (steps_from s k (n - k)) t ≡ cond (possible x t) (worked (steps_from s (k + 1) (n - (k + 1))) (stepped x t)) None
  unfolding worked
  work-turn = rw (steps-left s k n h, read)

  pub work-hit : possible x t ≡ true → worked (steps_from s k (n - k)) t ≡ worked (steps_from s (k + 1) (n - (k + 1))) (stepped x t)
  work-hit e = work-turn ∙ rw e

  pub work-miss : possible x t ≡ false → worked (steps_from s k (n - k)) t ≡ None
  work-miss e = work-turn ∙ rw e

pub work-end : (s t : List ℕ) (k n : ℕ) → n ≤ k → worked (steps_from s k (n - k)) t ≡ Some t
unfolding worked steps_from
work-end s t k n h =
    let nothing : n - k ≡ 0 = omega arith in
    rw nothing
