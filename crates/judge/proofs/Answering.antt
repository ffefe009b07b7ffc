-- What an answer closes: where it fails by no check, or by one that rejects, a transfer waits for it, and where it fails by none it is accepted.
-- Assumes nothing.
use Rattle.std.specs.Prelude.{Option, Some, None}
use mathlib.Core.Path.{◌≡◌, refl, sym, ap, subst, ◌∙◌}
use mathlib.Core.Bool.{Bool, true, false, not, ◌||◌, cond, false≢true}
use mathlib.Core.List.{List, [], ◌∷◌, ◌++◌}
use Prim.Native.Nat.{ℕ, suc, ◌-◌, ◌<◌}
use native.Mathlib.Omega.{arith}
use lib.Dec.{eqb}
use borrow.Author.Tests.{eqb-true, eq-eqb, ne_eqb, not-true, not-false, le-leb, ltb-true}
use Rattle.shape.specs.Stored.{same_identifier}
use Rattle.shape.proofs.Tests.{and_right, or_cases}
use Rattle.table.specs.declared.Kind.{Kind}
use Rattle.table.specs.declared.Kind.TheVariants.{Pacs002}
use Rattle.table.specs.Checks.{rejecting, order_of, is_in, runs}
use Rattle.table.proofs.Rules.{of_entry}
use Rattle.slip.specs.Meaning.{steps}
use Rattle.message.specs.declared.Reply.{Reply}
use Rattle.message.specs.declared.Reply.TheVariants.{Accepts, Declines, Refuses}
use Rattle.message.proofs.Shaped.{Replies, shaped}
use Rattle.layout.specs.declared.rows.Step.{Step}
use Rattle.layout.specs.Seat.{head_of, step_of}
use Rattle.journal.specs.declared.traces.Trace.TheVariants.{Due}
use Rattle.journal.specs.declared.traces.Placed.{Placed}
use Rattle.journal.specs.Steps.{moves}
use Rattle.journal.specs.Answers.{waits, same_movement, answerable}
use Rattle.journal.specs.Traces.{waits_as, leaves, is_there, place_fits, placed}
use Rattle.journal.proofs.TraceLaws.{earliest-leaves, earliest-place}
use Rattle.judge.specs.declared.case.Case.{Case}
use Rattle.judge.specs.Case.{Arises}
use Rattle.judge.specs.Rows.{due_to, accepts, declines, refuses, nothing_due, transfer_declined, credit_refused, kept_in, movement_for, movement_in}
use Rattle.judge.specs.Verdict.{fails, rows_of, first_failing, verdict}
use Rattle.judge.proofs.Verdicts.{none-fails, or-neither}

-- a step that was found at a place that a journal has
pub place-low : {y : Option Placed} {k : ℕ} {x : Step} → y ≡ Some (placed k x) → place_fits y ≡ true → k < steps
place-low {y} {k} {x} e p = ltb-true k steps (sym (ap place_fits e) ∙ p)

-- where the first failing one of a list is none of its front, none of the front fails
front-passes : (failing : ℕ → Bool) (xs ys : List ℕ) → is_in (first_failing failing (xs ++ ys)) xs ≡ false → (j : ℕ) → is_in j xs ≡ true
    → failing j ≡ false
unfolding first_failing
front-passes failing [] ys e j inside = absurd (false≢true inside)
front-passes failing (x ∷ xs) ys e j inside =
    go (failing x) refl e
    (λ (further : is_in (first_failing failing (xs ++ ys)) xs ≡ false). λ (i : is_in j xs ≡ true). front-passes failing xs ys further j i)
  where
    go : (t : Bool) → failing x ≡ t → is_in (cond t x (first_failing failing (xs ++ ys))) (x ∷ xs) ≡ false
        → (is_in (first_failing failing (xs ++ ys)) xs ≡ false → is_in j xs ≡ true → failing j ≡ false) → failing j ≡ false
    go true f out further =
        absurd (false≢true (sym (or-neither (eqb x x) (is_in x xs) out).0 ∙ eq-eqb x x refl))
    go false f out further =
        or_cases (eqb j x) (is_in j xs) inside (λ (same : eqb j x ≡ true). subst (λ (n : ℕ). failing n ≡ false) (sym (eqb-true j x same)) f)
        (further (or-neither (eqb (first_failing failing (xs ++ ys)) x) (is_in (first_failing failing (xs ++ ys)) xs) out).1)

-- the checks of an answer before those that reject, 35 the last of them
abbrev front : List ℕ
front = 1 ∷ 2 ∷ 3 ∷ 5 ∷ 6 ∷ 7 ∷ 35 ∷ []

-- an answer closes a step by no check of the front
abbrev pub Closing : ℕ → Type 0
Closing check = (eqb check 0 || is_in check rejecting) ≡ true

none-in-front : (check : ℕ) → Closing check → is_in check front ≡ false
none-in-front check e =
    or_cases (eqb check 0) (is_in check rejecting) e
    (λ (none : eqb check 0 ≡ true). subst (λ (n : ℕ). is_in n front ≡ false) (sym (eqb-true check 0 none)) refl)
    (λ (some : is_in check rejecting ≡ true).
    not-true (is_in check front) (of_entry (λ (k : ℕ). not (is_in k front)) rejecting refl check some))

-- so a transfer waits for it
pub due-there : (c : Case) (s : List ℕ) → c.message.kind ≡ Pacs002 → Closing (verdict c s) → is_there (due_to c s) ≡ true
unfolding verdict fails rows_of nothing_due order_of
due-there c s answer e =
    not-false (is_there (due_to c s))
    (front-passes (fails c s) front rejecting
    (subst (λ (kind : Kind). is_in (first_failing (fails c s) (order_of kind)) front ≡ false) answer (none-in-front (verdict c s) e)) 35 refl)

-- the transfer that is answered
pub record Answered (c : Case) (s : List ℕ) : Type 0 where
  pub place : ℕ
  pub transfer : Step
  pub found : due_to c s ≡ Some (placed place transfer)
  pub there : transfer ≡ step_of s place
  pub earlier : place < (head_of s).steps
  pub waiting : waits s place transfer ≡ true

pub answered : (c : Case) (s : List ℕ) → is_there (due_to c s) ≡ true → Answered c s
unfolding due_to is_there leaves waits_as
answered c s e = go (due_to c s) refl e
  where
    go : (y : Option Placed) → due_to c s ≡ y → is_there y ≡ true → Answered c s
    go (Some e) f there =
        let at = earliest-place (Due c.message.original.stored c.sender) s e.place e.step f in
        let trace = earliest-leaves (Due c.message.original.stored c.sender) s e.place e.step f in
        let due = and_right (eqb e.step.receiver c.sender) (waits_as c.message.original.stored s e.place e.step) trace in
        record {
          place = e.place;
          transfer = e.step;
          found = f;
          there = at.0;
          earlier = at.1;
          waiting = and_right (same_identifier e.step.id c.message.original.stored) (waits s e.place e.step) due;
        }
    go None f there = absurd (false≢true there)

-- an answer that fails by no check accepts the transfer
only-accepts : (r : Option Reply) → (r ≡ None → ⊥) → declines r ≡ false → refuses r ≡ false → accepts r ≡ true
unfolding declines refuses accepts
only-accepts None some not-declined not-refused = absurd (some refl)
only-accepts (Some Accepts) some not-declined not-refused = refl
only-accepts (Some Declines) some not-declined not-refused = absurd (false≢true (sym not-declined))
only-accepts (Some Refuses) some not-declined not-refused = absurd (false≢true (sym not-refused))

module _ (c : Case) (s : List ℕ) (a : Arises c) (none : verdict c s ≡ 0) (answer : c.message.kind ≡ Pacs002) where
  passes : (k : ℕ) → runs Pacs002 k ≡ true → fails c s k ≡ false
  passes k r = none-fails c s none k (subst (λ (x : Kind). runs x k ≡ true) (sym answer) r)

  accepted : accepts c.message.reply ≡ true
  unfolding fails rows_of transfer_declined credit_refused runs order_of
  accepted =
      only-accepts c.message.reply
      (subst (λ (k : Kind). Replies k c.message.reply) answer (shaped a.sheet c.message a.good).reply)
      (passes 36 refl) (passes 37 refl)

  -- and moves what it keeps
  pub moves-kept : (d : Answered c s) → movement_in c s ≡ kept_in (Some (placed d.place d.transfer))
  unfolding movement_in movement_for
  moves-kept d = ap (λ (k : Kind). movement_for k c s) answer ∙ rw (accepted) (ap kept_in d.found)

-- a step that answers a transfer that waits may be the next one, where it moves what that one is to move
pub answers-due : (x : Step) (s : List ℕ) (k : ℕ) → x.answers ≡ suc k → k < (head_of s).steps → waits s k (step_of s k) ≡ true
    → (moves x ≡ true → same_movement x (step_of s k) ≡ true) → answerable x s ≡ true
unfolding answerable
answers-due x s k names earlier waiting same =
    let some : eqb x.answers 0 ≡ false = ne_eqb x.answers 0 (λ (e : x.answers ≡ 0). omega (arith, names)) in
    let place : x.answers - 1 ≡ k = omega (arith, names) in
    rw (some, place, le-leb x.answers (head_of s).steps (omega (arith, names)), waiting) (go (moves x) refl)
  where
    go : (t : Bool) → moves x ≡ t → (not t || same_movement x (step_of s k)) ≡ true
    go true e = same e
    go false e = refl

pub answers-none : (x : Step) (s : List ℕ) → x.answers ≡ 0 → answerable x s ≡ true
unfolding answerable
answers-none x s none = rw none
