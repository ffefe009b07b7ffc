-- What a case that arises shows: its records are those of one directory, its amount is in range, and each check of its order that does not fail
-- leaves what it asks for.
-- Assumes nothing.
use Rattle.std.specs.Prelude.{ℕ, Option, Some, None}
use mathlib.Core.Path.{◌≡◌, refl, sym, ap, subst, ◌∙◌}
use mathlib.Core.Bool.{true, false, not, ◌&&◌, ◌||◌, false≢true}
use mathlib.Core.List.{List}
use Prim.Native.Nat.{ℕ, ◌≤◌, ◌<◌}
use native.Mathlib.Omega.{arith}
use lib.Dec.{eqb}
use borrow.Author.Tests.{eqb-true, lt-ltb, not-false}
use Rattle.shape.proofs.Tests.{and_right}
use Rattle.table.specs.declared.Kind.{Kind}
use Rattle.table.specs.declared.Kind.TheVariants.{Pacs008, Camt050}
use Rattle.table.specs.Checks.{order_of, runs}
use Rattle.message.specs.Good.{is_given}
use Rattle.message.proofs.Shaped.{IsAmount, Moves, shaped}
use Rattle.directory.specs.declared.Kind.{Kind as Sort}
use Rattle.directory.specs.declared.Kind.TheVariants as sort
use Rattle.directory.specs.declared.Listed.{Listed}
use Rattle.directory.specs.Directory.{found, found_as, is_listed, is_instant, owner_found, is_owner, in_sep, under_sep, head_named, head_in, is_bank, bank_found}
use Rattle.layout.specs.declared.rows.Account.{Account}
use Rattle.layout.specs.Seat.{accounts, account_of}
use Rattle.journal.specs.Steps.{amount_most}
use Rattle.journal.specs.Limits.{available_below}
use Rattle.journal.proofs.Above.{available-covers}
use Rattle.seat.specs.Calls.{account_found}
use Rattle.judge.specs.declared.case.Case.{Case}
use Rattle.judge.specs.Values.{agree, or_zero}
use Rattle.judge.specs.Case.{Arises, debit_owner, credit_owner, account_on, movement_of, case_of}
use Rattle.judge.specs.Rows.{sender_unlisted, sender_indirect, sender_no_owner, not_from_sender, creditor_anothers, debtor_anothers}
use Rattle.judge.specs.Rows.{digits_wrong, instructed_no_bank, movement_in, account_at, shows, money_short}
use Rattle.judge.specs.Verdict.{fails, rows_of, verdict}
use Rattle.judge.proofs.Verdicts.{none-fails}

-- a value that agrees with a number is that number
agree-is : (v : Option ℕ) (n : ℕ) → agree v (Some n) ≡ true → v ≡ Some n
unfolding agree
agree-is (Some a) n e = ap Some (eqb-true a n e)
agree-is None n e = absurd (false≢true e)

-- one who is listed under SEP and is no indirect branch is a bank; one who is listed and not "no owner" is an owner
sort-bank : (kind : Sort) → in_sep kind ≡ true → is_given (head_named kind) ≡ false → is_bank kind ≡ true
sort-bank sort.Owner listed direct = refl
sort-bank (sort.Direct head) listed direct = refl
sort-bank (sort.Indirect head) listed direct = absurd (false≢true (sym direct))
sort-bank (sort.Provider bank) listed direct = absurd (false≢true listed)

sep-bank : (f : Option Listed) → under_sep f ≡ true → is_given (head_in f) ≡ false → bank_found f ≡ true
sep-bank (Some l) listed direct = sort-bank l.participant.kind listed direct
sep-bank None listed direct = absurd (false≢true listed)

sep-owner : (f : Option Listed) → under_sep f ≡ true → (is_listed f && not (owner_found f)) ≡ false → owner_found f ≡ true
sep-owner (Some l) listed owner = not-false (is_owner l.participant.kind) owner
sep-owner None listed owner = absurd (false≢true listed)

-- what the directory says in a case that arises
module _ (c : Case) (a : Arises c) where
  pub source_is : c.source ≡ found a.dir c.sender
  unfolding case_of
  source_is = ap (λ (x : Case). x.source) a.looked

  pub instructed-is : c.instructed ≡ found_as a.dir c.message.instructed
  unfolding case_of
  instructed-is = ap (λ (x : Case). x.instructed) a.looked

  amount-is : c.movement.amount ≡ or_zero c.message.amount
  unfolding case_of movement_of
  amount-is = ap (λ (x : Case). x.movement.amount) a.looked

  pub debit-is : (kind : Kind) → c.message.kind ≡ kind
      → c.movement.debit ≡ account_found (debit_owner a.dir c.message kind) (account_on kind c.message.debit.digit)
  unfolding case_of movement_of
  debit-is kind same =
      subst (λ (k : Kind). c.movement.debit ≡ account_found (debit_owner a.dir c.message k) (account_on k c.message.debit.digit)) same
      (ap (λ (x : Case). x.movement.debit) a.looked)

  pub credit-is : (kind : Kind) → c.message.kind ≡ kind
      → c.movement.credit ≡ account_found (credit_owner a.dir c.message kind) (account_on kind c.message.credit.digit)
  unfolding case_of movement_of
  credit-is kind same =
      subst (λ (k : Kind). c.movement.credit ≡ account_found (credit_owner a.dir c.message k) (account_on k c.message.credit.digit)) same
      (ap (λ (x : Case). x.movement.credit) a.looked)

  -- the amount of a transfer is in range
  pub amount-range : IsAmount c.message.amount → (1 ≤ c.movement.amount) × (c.movement.amount ≤ amount_most)
  unfolding or_zero
  amount-range given =
      let same : c.movement.amount ≡ given.kopecks = amount-is ∙ ap or_zero given.given in
      (omega (arith, same, given.least), omega (arith, same, given.most))

  pub moves-as : (kind : Kind) → c.message.kind ≡ kind → Moves kind c.message.amount
  moves-as kind same = subst (λ (k : Kind). Moves k c.message.amount) same (shaped a.sheet c.message a.good).amount

-- what the checks of a kind leave, where a message fails by none
module _ (c : Case) (s : List ℕ) (none : verdict c s ≡ 0) where
  passed : (kind : Kind) → c.message.kind ≡ kind → (k : ℕ) → runs kind k ≡ true → fails c s k ≡ false
  passed kind same k r = none-fails c s none k (subst (λ (x : Kind). runs x k ≡ true) (sym same) r)

  listed : (kind : Kind) → c.message.kind ≡ kind → runs kind 1 ≡ true → under_sep c.source ≡ true
  unfolding fails rows_of sender_unlisted
  listed kind same r = not-false (under_sep c.source) (passed kind same 1 r)

  module _ (same : c.message.kind ≡ Pacs008) where
    pub sender-bank : bank_found c.source ≡ true
    unfolding fails rows_of sender_indirect runs order_of
    sender-bank = sep-bank c.source (listed Pacs008 same refl) (passed Pacs008 same 2 refl)

    pub from-sender : c.message.instructing ≡ Some c.sender
    unfolding fails rows_of not_from_sender runs order_of
    from-sender =
        agree-is c.message.instructing c.sender
        (not-false (agree c.message.instructing (Some c.sender)) (passed Pacs008 same 8 refl))

    pub instructed-bank : bank_found c.instructed ≡ true
    unfolding fails rows_of instructed_no_bank runs order_of
    instructed-bank =
        and_right (is_instant c.instructed) (bank_found c.instructed)
        (not-false (is_instant c.instructed && bank_found c.instructed) (passed Pacs008 same 27 refl))

  module _ (same : c.message.kind ≡ Camt050) where
    pub sender-owner : owner_found c.source ≡ true
    unfolding fails rows_of sender_no_owner runs order_of
    sender-owner = sep-owner c.source (listed Camt050 same refl) (passed Camt050 same 4 refl)

    pub credit-own : c.message.credit.code ≡ c.sender
    unfolding fails rows_of creditor_anothers runs order_of
    credit-own =
        eqb-true c.message.credit.code c.sender
        (not-false (eqb c.message.credit.code c.sender) (passed Camt050 same 12 refl))

    pub debit-own : c.message.debit.code ≡ c.sender
    unfolding fails rows_of debtor_anothers runs order_of
    debit-own =
        eqb-true c.message.debit.code c.sender
        (not-false (eqb c.message.debit.code c.sender) (passed Camt050 same 13 refl))

    pub digits-right : ((eqb c.message.debit.digit 1 && eqb c.message.credit.digit 2)
        || (eqb c.message.debit.digit 2 && eqb c.message.credit.digit 1)) ≡ true
    unfolding fails rows_of digits_wrong runs order_of
    digits-right =
        not-false
        ((eqb c.message.debit.digit 1 && eqb c.message.credit.digit 2)
        || (eqb c.message.debit.digit 2 && eqb c.message.credit.digit 1))
        (passed Camt050 same 15 refl)

  -- the debited account covers the amount
  pub money-there : (kind : Kind) → c.message.kind ≡ kind → runs kind 22 ≡ true → (i : ℕ) → (movement_in c s).debit ≡ Some i → i < accounts
      → (movement_in c s).amount ≤ (account_of s i).balance
  unfolding fails rows_of money_short shows account_at
  money-there kind same r i e low =
      available-covers (account_of s i) (movement_in c s).amount
      (subst (λ (h : Option Account). shows (λ (x : Account). available_below x (movement_in c s).amount) h ≡ false) held (passed kind same 22 r))
    where
      held : account_at (movement_in c s).debit s ≡ Some (account_of s i)
      held = rw (e, lt-ltb i accounts low)
