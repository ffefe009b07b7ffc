-- Which checks a step can have failed by: those of the order but for the two that stand first in it. What a row may hold, kind by kind and status by
-- status; and whatever a row may hold may stand on a slip.
-- Assumes nothing.
use mathlib.Core.Path.{◌≡◌, refl, sym, subst, ◌∙◌}
use mathlib.Core.Bool.{Bool, true, false, not, ◌&&◌, ◌||◌}
use mathlib.Core.List.{List, ◌∷◌}
use Prim.Native.Nat.{ℕ}
use lib.Dec.{eqb}
use lib.ListN.{drop}
use borrow.Author.Tests.{eqb-true, ne_eqb}
use Rattle.shape.proofs.Tests.{and_left, and_right, or_cases}
use Rattle.table.specs.declared.Kind.{Kind}
use Rattle.table.specs.declared.Kind.TheVariants.{Pacs008, Camt050, Pacs028, Pacs002}
use Rattle.table.specs.Checks.{rejecting, order_of, is_in, runs}
use Rattle.table.proofs.Rules.{of_entry}
use Rattle.slip.specs.Meaning.{kind_number, status_number, either_says, six_alone_says, sayings, says}
use Rattle.slip.specs.declared.Status.{Status}
use Rattle.slip.specs.declared.Status.TheVariants.{Accc, Waits}
use Rattle.journal.specs.Results.{fails_by, ended, ends_as, sent_as, told_as, result_fits}

and-true : (t : Bool) → (t && true && true) ≡ t
and-true true = refl
and-true false = refl

but-for-two : (k : ℕ) (rest : List ℕ) → is_in 1 rest ≡ false → is_in 2 rest ≡ false
    → (is_in k (1 ∷ 2 ∷ rest) && not (eqb k 1) && not (eqb k 2)) ≡ is_in k rest
but-for-two k rest one two = go (eqb k 1) refl (eqb k 2) refl
  where
    go : (t : Bool) → eqb k 1 ≡ t → (u : Bool) → eqb k 2 ≡ u → ((t || (u || is_in k rest)) && not t && not u) ≡ is_in k rest
    go true e u f = sym (subst (λ (n : ℕ). is_in n rest ≡ false) (sym (eqb-true k 1 e)) one)
    go false e true f = sym (subst (λ (n : ℕ). is_in n rest ≡ false) (sym (eqb-true k 2 f)) two)
    go false e false f = and-true (is_in k rest)

pub fails-in-order : (kind : Kind) (k : ℕ) → (runs kind k && not (eqb k 1) && not (eqb k 2)) ≡ fails_by kind k
unfolding runs fails_by order_of
fails-in-order Pacs008 k = but-for-two k (drop 2 (order_of Pacs008)) refl refl
fails-in-order Camt050 k = but-for-two k (drop 2 (order_of Camt050)) refl refl
fails-in-order Pacs028 k = but-for-two k (drop 2 (order_of Pacs028)) refl refl
fails-in-order Pacs002 k = but-for-two k (drop 2 (order_of Pacs002)) refl refl

first_of : (t : Bool) → (t || false) ≡ t
first_of true = refl
first_of false = refl

-- what a row may hold, by its kind: one line of four
first-of-four : (t : Bool) → (t || false || false || false) ≡ t
first-of-four true = refl
first-of-four false = refl

second-of-four : (t : Bool) → (false || t || false || false) ≡ t
second-of-four true = refl
second-of-four false = refl

third-of-four : (t : Bool) → (false || false || t || false) ≡ t
third-of-four true = refl
third-of-four false = refl

pub sent-fits : (kind status check : ℕ) → kind ≡ 1 → result_fits kind status check ≡ sent_as status check
unfolding result_fits kind_number
sent-fits kind status check e =
    subst (λ (k : ℕ). result_fits k status check ≡ sent_as status check) (sym e) (first-of-four (sent_as status check))

pub moved-fits : (kind status check : ℕ) → kind ≡ 2 → result_fits kind status check ≡ ends_as Camt050 status check
unfolding result_fits kind_number
moved-fits kind status check e =
    subst (λ (k : ℕ). result_fits k status check ≡ ends_as Camt050 status check) (sym e) (second-of-four (ends_as Camt050 status check))

pub answer-fits : (kind status check : ℕ) → kind ≡ 4 → result_fits kind status check ≡ ends_as Pacs002 status check
unfolding result_fits kind_number
answer-fits kind status check e = subst (λ (k : ℕ). result_fits k status check ≡ ends_as Pacs002 status check) (sym e) refl

pub asked-fits : (kind status check : ℕ) → kind ≡ 3 → result_fits kind status check ≡ (eqb status 0 && fails_by Pacs028 check || told_as status check)
unfolding result_fits kind_number status_number
asked-fits kind status check e =
    subst (λ (k : ℕ). result_fits k status check ≡ (eqb status 0 && fails_by Pacs028 check || told_as status check)) (sym e)
    (third-of-four (eqb status 0 && fails_by Pacs028 check || told_as status check))

pub pending-fits : (kind status check : ℕ) → kind ≡ 3 → status ≡ 0 → result_fits kind status check ≡ fails_by Pacs028 check
unfolding told_as status_number
pending-fits kind status check e f =
    asked-fits kind status check e
    ∙ subst (λ (n : ℕ). (eqb n 0 && fails_by Pacs028 check || told_as n check) ≡ fails_by Pacs028 check) (sym f) (first_of (fails_by Pacs028 check))

pub told-fits : (kind status check : ℕ) → kind ≡ 3 → (status ≡ 0 → ⊥) → result_fits kind status check ≡ told_as status check
told-fits kind status check e f = asked-fits kind status check e ∙ rw (ne_eqb status 0 f)

-- a slip of kind n says each end, where it says the good one with 0 and RJCT with each check that can be failed by
ends-said : (n : ℕ) (good : Status) (failing : ℕ → Bool) → says n (status_number good) 0 ≡ true
    → ((check : ℕ) → failing check ≡ true → says n 2 check ≡ true)
    → (status check : ℕ) → ended good failing status check ≡ true → says n status check ≡ true
unfolding status_number
ends-said n good failing done all status check e =
    or_cases (eqb status (status_number good) && eqb check 0) (eqb status 2 && failing check) e
    (λ (h : (eqb status (status_number good) && eqb check 0) ≡ true).
    subst (λ (s : ℕ). says n s check ≡ true)
    (sym (eqb-true status (status_number good) (and_left (eqb status (status_number good)) (eqb check 0) h)))
    (subst (λ (k : ℕ). says n (status_number good) k ≡ true)
    (sym (eqb-true check 0 (and_right (eqb status (status_number good)) (eqb check 0) h))) done))
    (λ (h : (eqb status 2 && failing check) ≡ true).
    subst (λ (s : ℕ). says n s check ≡ true) (sym (eqb-true status 2 (and_left (eqb status 2) (failing check) h)))
    (all check (and_right (eqb status 2) (failing check) h)))

-- so says a slip of each kind that the kind's order can bring about
sent-said : (status check : ℕ) → sent_as status check ≡ true → says 1 status check ≡ true
unfolding sent_as sayings either_says six_alone_says order_of kind_number status_number fails_by
sent-said = ends-said 1 Waits (fails_by Pacs008) refl (of_entry (says 1 2) (drop 2 (order_of Pacs008)) refl)

moved-said : (status check : ℕ) → ends_as Camt050 status check ≡ true → says 2 status check ≡ true
unfolding ends_as sayings either_says six_alone_says order_of kind_number status_number fails_by
moved-said = ends-said 2 Accc (fails_by Camt050) refl (of_entry (says 2 2) (drop 2 (order_of Camt050)) refl)

answer-said : (status check : ℕ) → ends_as Pacs002 status check ≡ true → says 4 status check ≡ true
unfolding ends_as sayings either_says six_alone_says order_of kind_number status_number fails_by
answer-said = ends-said 4 Accc (fails_by Pacs002) refl (of_entry (says 4 2) (drop 2 (order_of Pacs002)) refl)

told-said : (status check : ℕ) → told_as status check ≡ true → says 3 status check ≡ true
unfolding told_as sayings either_says six_alone_says order_of kind_number status_number fails_by
told-said =
    ends-said 3 Accc (λ (check : ℕ). fails_by Pacs008 check || is_in check rejecting) refl
    (λ (check : ℕ) (h : (fails_by Pacs008 check || is_in check rejecting) ≡ true).
    or_cases (fails_by Pacs008 check) (is_in check rejecting) h
    (of_entry (says 3 2) (drop 2 (order_of Pacs008)) refl check) (of_entry (says 3 2) rejecting refl check))

-- and PDNG with each check of a pacs.028
asked-said : (status check : ℕ) → (eqb status 0 && fails_by Pacs028 check || told_as status check) ≡ true → says 3 status check ≡ true
unfolding sayings either_says six_alone_says order_of kind_number status_number fails_by
asked-said status check e =
    or_cases (eqb status 0 && fails_by Pacs028 check) (told_as status check) e
    (λ (h : (eqb status 0 && fails_by Pacs028 check) ≡ true).
    subst (λ (s : ℕ). says 3 s check ≡ true) (sym (eqb-true status 0 (and_left (eqb status 0) (fails_by Pacs028 check) h)))
    (of_entry (says 3 0) (drop 2 (order_of Pacs028)) refl check (and_right (eqb status 0) (fails_by Pacs028 check) h)))
    (told-said status check)

-- one of four, by its kind
of-kind : (P : ℕ → Type 0) (kind n : ℕ) (t : Bool) → (t ≡ true → P n) → (eqb kind n && t) ≡ true → P kind
of-kind P kind n t holds e =
    subst P (sym (eqb-true kind n (and_left (eqb kind n) t e))) (holds (and_right (eqb kind n) t e))

-- what a row may hold may stand on a slip
pub result-said : (kind status check : ℕ) → result_fits kind status check ≡ true → says kind status check ≡ true
unfolding result_fits kind_number status_number
result-said kind status check e =
    let Said : ℕ → Type 0 = λ (n : ℕ). says n status check ≡ true in
    let asks : Bool = eqb status 0 && fails_by Pacs028 check || told_as status check in
    let sent : Bool = eqb kind 1 && sent_as status check in
    let moved : Bool = eqb kind 2 && ends_as Camt050 status check in
    let asked : Bool = eqb kind 3 && asks in
    let answers : Bool = eqb kind 4 && ends_as Pacs002 status check in
    or_cases (sent || moved || asked) answers e
    (λ (h : (sent || moved || asked) ≡ true).
    or_cases (sent || moved) asked h
    (λ (g : (sent || moved) ≡ true).
    or_cases sent moved g
    (of-kind Said kind 1 (sent_as status check) (sent-said status check))
    (of-kind Said kind 2 (ends_as Camt050 status check) (moved-said status check)))
    (of-kind Said kind 3 asks (asked-said status check)))
    (of-kind Said kind 4 (ends_as Pacs002 status check) (answer-said status check))

pub ruleset checks_failed = fails-in-order

pub ruleset kinds_fit = (sent-fits, moved-fits, answer-fits, pending-fits, told-fits)
