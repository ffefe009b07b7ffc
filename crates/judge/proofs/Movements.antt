-- The movement of a transfer that fails by no check: the checks on agents and accounts leave two accounts that stand in the directory, and the
-- amount is one that a message can have.
-- Assumes nothing.
use Rattle.std.specs.Prelude.{ℕ, Option, Some, None}
use mathlib.Core.Path.{◌≡◌, refl, sym, ap, subst, ◌∙◌}
use mathlib.Core.Bool.{Bool, true, ◌&&◌, false≢true}
use mathlib.Core.List.{List}
use Prim.Native.Nat.{ℕ, ◌+◌, ◌*◌, ◌%◌, ◌≤◌, ◌<◌}
use native.Mathlib.Omega.{arith}
use lib.Dec.{leb, ltb, eqb}
use borrow.Author.Tests.{eqb-true, leb-true, ltb-true}
use Rattle.shape.proofs.Tests.{and_left, and_right, or_cases}
use Rattle.table.specs.declared.Kind.{Kind}
use Rattle.table.specs.declared.Kind.TheVariants.{Pacs008, Camt050, Pacs002}
use Rattle.directory.specs.declared.Listed.{Listed}
use Rattle.directory.specs.Directory.{code_most, found, found_as, owner_used, owner_found, bank_found}
use Rattle.directory.proofs.Finds.{found-low}
use Rattle.slip.specs.Meaning.{kind_number, status_number}
use Rattle.slip.specs.declared.Status.TheVariants.{Waits}
use Rattle.layout.specs.declared.rows.Step.{Step}
use Rattle.layout.specs.Seat.{accounts}
use Rattle.journal.specs.declared.traces.Trace.TheVariants as trace
use Rattle.journal.specs.Steps.{amount_most, is_waiting, between, is_movement, step_fits}
use Rattle.journal.proofs.StepLaws.{waiting-movement}
use Rattle.journal.proofs.AnswerLaws.{waits-row}
use Rattle.seat.specs.Fit.{open_fits}
use Rattle.seat.proofs.Traces.{earliest-fits}
use Rattle.seat.specs.Calls.{account_found}
use Rattle.judge.specs.declared.case.Case.{Case}
use Rattle.judge.specs.declared.case.Movement.{Movement}
use Rattle.judge.specs.Values.{or_zero}
use Rattle.judge.specs.Case.{Arises, debit_owner, credit_owner, account_on}
use Rattle.judge.specs.Rows.{due_to, kept_in, movement_for, movement_in}
use Rattle.judge.specs.Verdict.{verdict}
use Rattle.judge.proofs.Holders.{apart, Holds, holds, bank-holds, seconds-apart, out-of-first, out-of-second}
use Rattle.judge.proofs.Answering.{Closing, due-there, answered, moves-kept}
use Rattle.judge.proofs.Passed.{source_is, instructed-is, debit-is, credit-is, amount-range, moves-as, sender-bank, from-sender, instructed-bank, sender-owner, credit-own, debit-own, digits-right}
use Rattle.journal.specs.Traces.{placed}

-- a movement that a step of a kind can have
pub record Movable (kind : Kind) (m : Movement) : Type 0 where
  pub debit : ℕ
  pub credit : ℕ
  pub debited : m.debit ≡ Some debit
  pub credited : m.credit ≡ Some credit
  pub debit-low : debit < accounts
  pub credit-low : credit < accounts
  pub between : apart kind debit credit ≡ true
  pub least : 1 ≤ m.amount
  pub most : m.amount ≤ amount_most

-- a message of another kind than a pacs.002 is about its own movement
own-payment : (c : Case) (s : List ℕ) → c.message.kind ≡ Pacs008 → movement_in c s ≡ c.movement
unfolding movement_in movement_for
own-payment c s same = ap (λ (k : Kind). movement_for k c s) same

own-transfer : (c : Case) (s : List ℕ) → c.message.kind ≡ Camt050 → movement_in c s ≡ c.movement
unfolding movement_in movement_for
own-transfer c s same = ap (λ (k : Kind). movement_for k c s) same

-- a pacs.008 is to move between accounts 2 of the owners whose accounts its two agents use
payment-able : (c : Case) (s : List ℕ) → Arises c → verdict c s ≡ 0 → c.message.kind ≡ Pacs008 → Movable Pacs008 c.movement
unfolding debit_owner credit_owner account_on
payment-able c s a none same = record {
  debit = 2 * from.place + 1;
  credit = 2 * to.place + 1;
  debited = debit-is c a Pacs008 same ∙ from.second;
  credited = credit-is c a Pacs008 same ∙ to.second;
  debit-low = omega (arith, from.low);
  credit-low = omega (arith, to.low);
  between = seconds-apart from.place to.place;
  least = range.0;
  most = range.1;
}
  where
    from : Holds (owner_used a.dir c.message.instructing)
    from =
        bank-holds a.dir a.fit c.message.instructing
        (subst (λ (v : Option ℕ). bank_found (found_as a.dir v) ≡ true) (sym (from-sender c s none same))
        (subst (λ (f : Option Listed). bank_found f ≡ true) (source_is c a) (sender-bank c s none same)))

    to : Holds (owner_used a.dir c.message.instructed)
    to =
        bank-holds a.dir a.fit c.message.instructed
        (subst (λ (f : Option Listed). bank_found f ≡ true) (instructed-is c a) (instructed-bank c s none same))

    range : (1 ≤ c.movement.amount) × (c.movement.amount ≤ amount_most)
    range = amount-range c a (moves-as c a Pacs008 same)

pub payment-moves : (c : Case) (s : List ℕ) → Arises c → verdict c s ≡ 0 → c.message.kind ≡ Pacs008 → Movable Pacs008 (movement_in c s)
payment-moves c s a none same = subst (Movable Pacs008) (sym (own-payment c s same)) (payment-able c s a none same)

-- a camt.050 moves between the two accounts of its sender, either way
transfer-able : (c : Case) (s : List ℕ) → Arises c → verdict c s ≡ 0 → c.message.kind ≡ Camt050 → Movable Camt050 c.movement
unfolding debit_owner credit_owner account_on
transfer-able c s a none same =
    let first : 2 * own.place < accounts = omega (arith, own.low) in
    let second : 2 * own.place + 1 < accounts = omega (arith, own.low) in
    or_cases (out-by 1 && into-by 2) (out-by 2 && into-by 1) (digits-right c s none same)
    (λ (e : (out-by 1 && into-by 2) ≡ true).
    moving (2 * own.place) (2 * own.place + 1) (out 1 (and_left (out-by 1) (into-by 2) e) ∙ own.first)
    (into 2 (and_right (out-by 1) (into-by 2) e) ∙ own.second) first second (out-of-first own.place))
    (λ (e : (out-by 2 && into-by 1) ≡ true).
    moving (2 * own.place + 1) (2 * own.place) (out 2 (and_left (out-by 2) (into-by 1) e) ∙ own.second)
    (into 1 (and_right (out-by 2) (into-by 1) e) ∙ own.first) second first (out-of-second own.place))
  where
    out-by : ℕ → Bool
    out-by k = eqb c.message.debit.digit k

    into-by : ℕ → Bool
    into-by k = eqb c.message.credit.digit k

    own : Holds (found a.dir c.sender)
    own = holds a.dir a.fit (Some c.sender) (subst (λ (f : Option Listed). owner_found f ≡ true) (source_is c a) (sender-owner c s none same))

    out : (k : ℕ) → out-by k ≡ true → c.movement.debit ≡ account_found (found a.dir c.sender) k
    out k e =
        debit-is c a Camt050 same
        ∙ ap (λ (n : ℕ). account_found (found a.dir n) c.message.debit.digit) (debit-own c s none same)
        ∙ ap (λ (n : ℕ). account_found (found a.dir c.sender) n) (eqb-true c.message.debit.digit k e)

    into : (k : ℕ) → into-by k ≡ true → c.movement.credit ≡ account_found (found a.dir c.sender) k
    into k e =
        credit-is c a Camt050 same
        ∙ ap (λ (n : ℕ). account_found (found a.dir n) c.message.credit.digit) (credit-own c s none same)
        ∙ ap (λ (n : ℕ). account_found (found a.dir c.sender) n) (eqb-true c.message.credit.digit k e)

    moving : (i j : ℕ) → c.movement.debit ≡ Some i → c.movement.credit ≡ Some j → i < accounts → j < accounts → apart Camt050 i j ≡ true
        → Movable Camt050 c.movement
    moving i j debited credited debit-low credit-low between =
        let range : (1 ≤ c.movement.amount) × (c.movement.amount ≤ amount_most) = amount-range c a (moves-as c a Camt050 same) in
        record {
          debit = i;
          credit = j;
          debited = debited;
          credited = credited;
          debit-low = debit-low;
          credit-low = credit-low;
          between = between;
          least = range.0;
          most = range.1;
        }

pub transfer-moves : (c : Case) (s : List ℕ) → Arises c → verdict c s ≡ 0 → c.message.kind ≡ Camt050 → Movable Camt050 (movement_in c s)
transfer-moves c s a none same = subst (Movable Camt050) (sym (own-transfer c s same)) (transfer-able c s a none same)

-- what a fit transfer that waits is to move, an answer can move
kept-able : (x : Step) (k : ℕ) → step_fits x ≡ true → is_waiting x ≡ true → Movable Pacs002 (kept_in (Some (placed k x)))
unfolding kept_in is_movement is_waiting between kind_number
kept-able x k fit waiting =
    let least = leb 1 x.amount in
    let most = leb x.amount amount_most in
    let debit = ltb x.debit accounts in
    let credit = ltb x.credit accounts in
    let all = waiting-movement x fit waiting in
    let four = and_left (least && most && debit && credit) (between x) all in
    let three = and_left (least && most && debit) credit four in
    let two = and_left (least && most) debit three in
    let first : x.kind ≡ 1 = eqb-true x.kind 1 (and_left (eqb x.kind 1) (eqb x.status (status_number Waits)) waiting) in
    let seconds : (eqb (x.debit % 2) 1 && eqb (x.credit % 2) 1) ≡ true =
    rw first at (and_right (least && most && debit && credit) (between x) all) in
    record {
      debit = x.debit;
      credit = x.credit;
      debited = refl;
      credited = refl;
      debit-low = ltb-true x.debit accounts (and_right (least && most) debit three);
      credit-low = ltb-true x.credit accounts (and_right (least && most && debit) credit four);
      between = seconds;
      least = leb-true 1 x.amount (and_left least most two);
      most = leb-true x.amount amount_most (and_right least most two);
    }

-- an answer moves what the transfer keeps that it answers
pub answer-moves : (c : Case) (s : List ℕ) → Arises c → open_fits s ≡ true → verdict c s ≡ 0 → c.message.kind ≡ Pacs002
    → Movable Pacs002 (movement_in c s)
unfolding due_to
answer-moves c s a fit none same =
    let closing : Closing (verdict c s) = subst (λ (n : ℕ). Closing n) (sym none) refl in
    let d = answered c s (due-there c s same closing) in
    let fits = earliest-fits (trace.Due c.message.original.stored c.sender) s d.place d.transfer fit d.found in
    subst (Movable Pacs002) (sym (moves-kept c s a none same d))
    (kept-able d.transfer d.place fits (waits-row s d.place d.transfer d.waiting))

-- the bank that is to answer a pacs.008 has a code
pub receiver-code : (c : Case) (s : List ℕ) → Arises c → verdict c s ≡ 0 → c.message.kind ≡ Pacs008 → or_zero c.message.instructed ≤ code_most
unfolding or_zero
receiver-code c s a none same = go c.message.instructed (subst (λ (f : Option Listed). bank_found f ≡ true) (instructed-is c a) (instructed-bank c s none same))
  where
    listed : (code : ℕ) (f : Option Listed) → found a.dir code ≡ f → bank_found f ≡ true → code ≤ code_most
    listed code (Some l) e b = found-low a.dir a.fit code l.place l.participant e
    listed code None e b = absurd (false≢true b)

    go : (v : Option ℕ) → bank_found (found_as a.dir v) ≡ true → or_zero v ≤ code_most
    go (Some code) b = listed code (found a.dir code) refl b
    go None b = omega arith
