-- What one step more does to what has become of the earlier ones: the step that it answers, which had no answer, ended as it did; each other is as
-- before.
-- Assumes nothing.
use Rattle.std.specs.Prelude.{ℕ, Option, Some, None}
use mathlib.Core.Path.{◌≡◌, refl, sym, ap, ◌∙◌}
use mathlib.Core.Bool.{Bool, true, false, not, ◌&&◌, ◌||◌, cond, false≢true}
use mathlib.Core.List.{List}
use Prim.Native.Nat.{ℕ, zero, suc, ◌+◌, ◌-◌, ◌<◌}
use native.Mathlib.Omega.{arith}
use lib.Dec.{leb, eqb}
use borrow.Author.Tests.{eqb-true, ne_eqb}
use Rattle.shape.proofs.Tests.{and_left, and_right}
use Rattle.layout.specs.declared.rows.Step.{Step}
use Rattle.layout.specs.Seat.{head_of, step_of}
use Rattle.journal.specs.Steps.{moves, is_waiting}
use Rattle.journal.specs.Answers.{answer_from, answer_to, is_answered, waits, result_in, result_now, same_movement, answerable}
use Rattle.journal.proofs.AnswerLaws.{answer-place}

-- the first of two places that may not be given
abbrev or_else : Option ℕ → Option ℕ → Option ℕ
or_else (Some j) v = Some j
or_else None v = v

-- the search over one step more
from_more : (s : List ℕ) (number i n : ℕ)
    → answer_from s number i (suc n) ≡ or_else (answer_from s number i n) (cond (eqb (step_of s (i + n)).answers number) (Some (i + n)) None)
unfolding answer_from
from_more s number i zero =
    let here : i ≡ i + 0 = omega arith in
    ap (λ (p : ℕ). cond (eqb (step_of s p).answers number) (Some p) None) here
from_more s number i (suc n) =
    let over : suc i + n ≡ i + suc n = omega arith in
    deeper (answer_from s number (suc i) (suc n)) (answer_from s number (suc i) n)
    (cond (eqb (step_of s (i + suc n)).answers number) (Some (i + suc n)) None) (eqb (step_of s i).answers number)
    (from_more s number (suc i) n
    ∙ ap (λ (p : ℕ). or_else (answer_from s number (suc i) n) (cond (eqb (step_of s p).answers number) (Some p) None)) over)
  where
    deeper : (u v w : Option ℕ) (t : Bool) → u ≡ or_else v w → cond t (Some i) u ≡ or_else (cond t (Some i) v) w
    deeper u v w true e = refl
    deeper u v w false e = e

-- the search over the same rows
from-same : (s t : List ℕ) (number i n : ℕ) → ((p : ℕ) → p < i + n → step_of t p ≡ step_of s p) → answer_from t number i n ≡ answer_from s number i n
unfolding answer_from
from-same s t number i zero same = refl
from-same s t number i (suc n) same =
    rw (same i (omega arith), from-same s t number (suc i) n (λ (p : ℕ) (h : p < suc i + n). same p (omega arith)))

module _ (s t : List ℕ) (x : Step) (counted : (head_of t).steps ≡ suc (head_of s).steps) (last : step_of t (head_of s).steps ≡ x)
    (same : (p : ℕ) → p < (head_of s).steps → step_of t p ≡ step_of s p) where
  answer-after : (k : ℕ) → answer_to t k ≡ or_else (answer_to s k) (cond (eqb x.answers (suc k)) (Some (head_of s).steps) None)
  unfolding answer_to
  answer-after k =
      let n : ℕ = (head_of s).steps in
      let end : 0 + n ≡ n = omega arith in
      ap (answer_from t (suc k) 0) counted
      ∙ from_more t (suc k) 0 n
      ∙ ap (λ (p : ℕ). or_else (answer_from t (suc k) 0 n) (cond (eqb (step_of t p).answers (suc k)) (Some p) None)) end
      ∙ (λ i. or_else (from-same s t (suc k) 0 n (λ (p : ℕ) (h : p < 0 + n). same p (omega arith)) i) (cond (eqb (last i).answers (suc k)) (Some n) None))

  -- an answered step had no answer before
  pub became : (k : ℕ) → k < (head_of s).steps → (x.answers ≡ suc k → answer_to s k ≡ None)
      → result_now t k ≡ cond (eqb x.answers (suc k)) (record { status = x.status; check = x.check }) (result_now s k)
  unfolding result_now result_in
  became k low waited =
      ap (result_in t k) (answer-after k) ∙ go (answer_to s k) refl (eqb x.answers (suc k)) refl
    where
      go : (v : Option ℕ) → answer_to s k ≡ v → (b : Bool) → eqb x.answers (suc k) ≡ b
          → result_in t k (or_else v (cond b (Some (head_of s).steps) None))
          ≡ cond b (record { status = x.status; check = x.check }) (result_in s k v)
      go (Some j) e true b =
          let given : None ≡ Some j = sym (waited (eqb-true x.answers (suc k) b)) ∙ e in
          let z : ◌≡◌ {A = ℕ} 0 1 = cc in absurd (omega arith)
      go (Some j) e false b =
          let early : j < (head_of s).steps = (answer-place s k j e).1 in
          ap (λ (y : Step). record { status = y.status; check = y.check }) (same j early)
      go None e true b = ap (λ (y : Step). record { status = y.status; check = y.check }) last
      go None e false b = ap (λ (y : Step). record { status = y.status; check = y.check }) (same k low)

-- a step that may be the next one answers a step that has no answer
none-given : (v : Option ℕ) → not (is_answered v) ≡ true → v ≡ None
unfolding is_answered
none-given (Some j) e = absurd (false≢true e)
none-given None e = refl

pub unanswered : (x : Step) (s : List ℕ) (k : ℕ) → answerable x s ≡ true → x.answers ≡ suc k → answer_to s k ≡ None
unfolding answerable waits
unanswered x s k can names =
    let place : x.answers - 1 ≡ k = omega (arith, names) in
    let some : eqb x.answers 0 ≡ false = ne_eqb x.answers 0 (λ (e : x.answers ≡ 0). omega (arith, names)) in
    let early : Bool = leb x.answers (head_of s).steps in
    let waits-on : Bool = is_waiting (step_of s k) && not (is_answered (answer_to s k)) in
    let moving : Bool = not (moves x) || same_movement x (step_of s k) in
    let all : (early && waits-on && moving) ≡ true = rw (some, place) at can in
    none-given (answer_to s k)
    (and_right (is_waiting (step_of s k)) (not (is_answered (answer_to s k))) (and_right early waits-on (and_left (early && waits-on) moving all)))
