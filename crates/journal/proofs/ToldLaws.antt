-- What has become of a pacs.008 in a journal whose steps fit: once it waits no more it can be told by a pacs.028, and it is never PDNG.
-- Assumes nothing.
use Rattle.std.specs.Prelude.{ℕ, Option, Some, None}
use mathlib.Core.Path.{◌≡◌, refl, sym, subst, ◌∙◌}
use mathlib.Core.Bool.{Bool, true, false, not, ◌&&◌, ◌||◌, cond, false≢true}
use mathlib.Core.List.{List}
use Prim.Native.Nat.{ℕ, suc, ◌<◌}
use native.Mathlib.Omega.{arith}
use lib.Dec.{leb, eqb}
use borrow.Author.Tests.{eqb-true}
use Rattle.shape.proofs.Tests.{and_left, and_right, or_cases, or_left, or_right}
use Rattle.table.specs.declared.Kind.TheVariants.{Pacs008, Pacs002}
use Rattle.table.specs.Checks.{rejecting, order_of, is_in}
use Rattle.slip.specs.Meaning.{steps, kind_number, status_number}
use Rattle.layout.specs.declared.rows.Step.{Step}
use Rattle.layout.specs.Seat.{head_of, step_of}
use Rattle.journal.specs.Results.{fails_by, ends_as, sent_as, told_as}
use Rattle.journal.specs.Steps.{set_kind, is_kind, is_waiting, closes, answers_fits, step_fits}
use Rattle.journal.specs.Answers.{answer_to, is_answered, waits, result_in, result_now}
use Rattle.journal.proofs.StepLaws.{message-result, message-answers, set-answers}
use Rattle.journal.proofs.ResultLaws.{sent-fits, answer-fits}
use Rattle.journal.proofs.AnswerLaws.{answer-place}

-- a fit step that is a pacs.008 ended as the submit of one can
pub sent-ends : (x : Step) → step_fits x ≡ true → is_kind 1 x ≡ true → sent_as x.status x.check ≡ true
sent-ends x fit first =
    let same : x.kind ≡ 1 = eqb-true x.kind 1 first in
    sym (sent-fits x.kind x.status x.check same)
    ∙ message-result x fit (subst (λ (k : ℕ). eqb k set_kind ≡ false) (sym same) refl)

-- one that waits no more was rejected
sent-told : (x : Step) → sent_as x.status x.check ≡ true → is_kind 1 x ≡ true → is_waiting x ≡ false → told_as x.status x.check ≡ true
unfolding sent_as told_as is_waiting kind_number status_number
sent-told x ends first over =
    or_cases (eqb x.status 3 && eqb x.check 0) (eqb x.status 2 && fails_by Pacs008 x.check) ends
    (λ (w : (eqb x.status 3 && eqb x.check 0) ≡ true).
    absurd (false≢true (sym over ∙ rw (first, and_left (eqb x.status 3) (eqb x.check 0) w))))
    (λ (r : (eqb x.status 2 && fails_by Pacs008 x.check) ≡ true).
    or_right (eqb x.status 1 && eqb x.check 0) (eqb x.status 2 && (fails_by Pacs008 x.check || is_in x.check rejecting))
    (rw (
      and_left (eqb x.status 2) (fails_by Pacs008 x.check) r,
      and_right (eqb x.status 2) (fails_by Pacs008 x.check) r,
    )))

-- a fit step that answers one is an answer that closes it
closing : (x : Step) (k : ℕ) → step_fits x ≡ true → x.answers ≡ suc k → closes x ≡ true
unfolding answers_fits
closing x k fit names = sorts (is_kind set_kind x) refl
  where
    closed : (t : Bool) → cond t (leb 1 x.answers && leb x.answers steps) (eqb x.answers 0) ≡ true → t ≡ true
    closed true e = refl
    closed false e = let none = eqb-true x.answers 0 e in absurd (omega (arith, none, names))

    sorts : (t : Bool) → is_kind set_kind x ≡ t → closes x ≡ true
    sorts true set = let none = set-answers x fit set in absurd (omega (arith, none, names))
    sorts false message = closed (closes x) (message-answers x fit message)

-- so it settled the transfer, or rejected it
closed-told : (x : Step) (k : ℕ) → step_fits x ≡ true → x.answers ≡ suc k → told_as x.status x.check ≡ true
unfolding told_as ends_as closes fails_by order_of kind_number status_number
closed-told x k fit names =
    let end : Bool = eqb x.check 0 || is_in x.check rejecting in
    let shut = closing x k fit names in
    let same : x.kind ≡ 4 = eqb-true x.kind 4 (and_left (eqb x.kind 4) end shut) in
    let result = message-result x fit (subst (λ (n : ℕ). eqb n set_kind ≡ false) (sym same) refl) in
    or_cases (eqb x.status 1 && eqb x.check 0) (eqb x.status 2 && fails_by Pacs002 x.check)
    (sym (answer-fits x.kind x.status x.check same) ∙ result)
    (or_left (eqb x.status 1 && eqb x.check 0) (eqb x.status 2 && (fails_by Pacs008 x.check || is_in x.check rejecting)))
    (λ (r : (eqb x.status 2 && fails_by Pacs002 x.check) ≡ true).
    or_right (eqb x.status 1 && eqb x.check 0) (eqb x.status 2 && (fails_by Pacs008 x.check || is_in x.check rejecting))
    (rejected (and_left (eqb x.status 2) (fails_by Pacs002 x.check) r) (and_right (eqb x.status 2) (fails_by Pacs002 x.check) r)
    (and_right (eqb x.kind 4) end shut)))
  where
    rejected : eqb x.status 2 ≡ true → fails_by Pacs002 x.check ≡ true → (eqb x.check 0 || is_in x.check rejecting) ≡ true
        → (eqb x.status 2 && (fails_by Pacs008 x.check || is_in x.check rejecting)) ≡ true
    rejected two fails e =
        or_cases (eqb x.check 0) (is_in x.check rejecting) e
        (λ (none : eqb x.check 0 ≡ true).
        absurd (false≢true (subst (λ (n : ℕ). fails_by Pacs002 n ≡ true) (eqb-true x.check 0 none) fails)))
        (λ (within : is_in x.check rejecting ≡ true).
        rw two (or_right (fails_by Pacs008 x.check) (is_in x.check rejecting) within))

-- neither is PDNG
sent-ended : (status check : ℕ) → sent_as status check ≡ true → eqb status 0 ≡ false
unfolding sent_as status_number
sent-ended status check e = go (eqb status 0) refl
  where
    go : (t : Bool) → eqb status 0 ≡ t → t ≡ false
    go true z = absurd (false≢true (subst (λ (n : ℕ). sent_as n check ≡ true) (eqb-true status 0 z) e))
    go false z = refl

told-ended : (status check : ℕ) → told_as status check ≡ true → eqb status 0 ≡ false
unfolding told_as status_number
told-ended status check e = go (eqb status 0) refl
  where
    go : (t : Bool) → eqb status 0 ≡ t → t ≡ false
    go true z = absurd (false≢true (subst (λ (n : ℕ). told_as n check ≡ true) (eqb-true status 0 z) e))
    go false z = refl

-- what has become of a pacs.008 of a journal whose steps fit
module _ (s : List ℕ) (k : ℕ) (fit : (j : ℕ) → j < (head_of s).steps → step_fits (step_of s j) ≡ true) (low : k < (head_of s).steps)
    (first : is_kind 1 (step_of s k) ≡ true) where
  told-by : (answer : Option ℕ) → answer_to s k ≡ answer → (is_waiting (step_of s k) && not (is_answered answer)) ≡ false
      → told_as (result_in s k answer).status (result_in s k answer).check ≡ true
  unfolding result_in is_answered
  told-by (Some j) e over =
      let there = answer-place s k j e in
      closed-told (step_of s j) k (fit j there.1) there.0
  told-by None e over = sent-told (step_of s k) (sent-ends (step_of s k) (fit k low) first) first (alone (is_waiting (step_of s k)) over)
    where
      alone : (t : Bool) → (t && true) ≡ false → t ≡ false
      alone true o = o
      alone false o = refl

  pub result-told : waits s k (step_of s k) ≡ false → told_as (result_now s k).status (result_now s k).check ≡ true
  unfolding result_now waits
  result-told over = told-by (answer_to s k) refl over

  ended_by : (answer : Option ℕ) → answer_to s k ≡ answer → eqb (result_in s k answer).status 0 ≡ false
  unfolding result_in
  ended_by (Some j) e =
      let there = answer-place s k j e in
      told-ended (step_of s j).status (step_of s j).check (closed-told (step_of s j) k (fit j there.1) there.0)
  ended_by None e = sent-ended (step_of s k).status (step_of s k).check (sent-ends (step_of s k) (fit k low) first)

  pub result-ended : eqb (result_now s k).status 0 ≡ false
  unfolding result_now
  result-ended = ended_by (answer_to s k) refl
