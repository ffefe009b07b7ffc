-- The check by which a message fails, and what becomes of the message: document 01, "The checks", "The slip" and what a step stores, and request 9
-- of document 02.
use Rattle.std.specs.Prelude.{Bool, false, ◌||◌, cond, List, [], ◌∷◌, ℕ, suc, eqb, get_or, Option, Some, None}
use Rattle.table.specs.declared.Kind.{Kind}
use Rattle.table.specs.declared.Kind.TheVariants.{Pacs008, Camt050, Pacs028, Pacs002}
use Rattle.table.specs.Checks.{rejecting, order_of, is_in}
use Rattle.slip.specs.declared.Status.TheVariants.{Pdng, Accc, Rjct, Waits}
use Rattle.slip.specs.Meaning.{kind_number, status_number}
use Rattle.layout.specs.declared.rows.Step.{Step}
use Rattle.journal.specs.declared.traces.Placed.{Placed}
use Rattle.journal.specs.declared.results.Outcome.{Outcome}
use Rattle.journal.specs.Answers.{result_now}
use Rattle.journal.specs.Steps.{no_settings}
use Rattle.judge.specs.declared.case.Case.{Case}
use Rattle.judge.specs.declared.case.Movement.{Movement}
use Rattle.judge.specs.Values.{or_zero}
use Rattle.judge.specs.Rows.{
  sender_unlisted,
  sender_indirect,
  sender_not_instant,
  sender_no_owner,
  identifier_bad,
  identifier_repeated,
  created_elsewhen,
  not_from_sender,
  original_bad,
  original_unknown,
  original_differs,
  creditor_anothers,
  debtor_anothers,
  currencies_differ,
  digits_wrong,
  amount_foreign,
  uetr_repeated,
  creditor_not_hryvnia,
  debtor_not_hryvnia,
  debit_blocked,
  credit_blocked,
  money_short,
  limit_passed,
  limit_zero,
  debtor_unlisted,
  creditor_no_provider,
  instructed_no_bank,
  creditor_not_instant,
  creditor_not_served,
  debtor_elsewhere,
  creditor_elsewhere,
  previous_not_serving,
  instructing_not_serving,
  iban_wrong,
  nothing_due,
  transfer_declined,
  credit_refused,
  asked_after,
  due_to,
  movement_in,
}

-- all rows, by the numbers of their checks; no check has the number 0
unfoldable pub rows_of : Case → List ℕ → List Bool
rows_of c s =
    false
    ∷ sender_unlisted c
    ∷ sender_indirect c
    ∷ sender_not_instant c
    ∷ sender_no_owner c
    ∷ identifier_bad c
    ∷ identifier_repeated c s
    ∷ created_elsewhen c
    ∷ not_from_sender c
    ∷ original_bad c
    ∷ original_unknown c s
    ∷ original_differs c s
    ∷ creditor_anothers c
    ∷ debtor_anothers c
    ∷ currencies_differ c
    ∷ digits_wrong c
    ∷ amount_foreign c
    ∷ uetr_repeated c s
    ∷ creditor_not_hryvnia c
    ∷ debtor_not_hryvnia c
    ∷ debit_blocked (movement_in c s) s
    ∷ credit_blocked (movement_in c s) s
    ∷ money_short (movement_in c s) s
    ∷ limit_passed (movement_in c s) s
    ∷ limit_zero (movement_in c s) s
    ∷ debtor_unlisted c
    ∷ creditor_no_provider c
    ∷ instructed_no_bank c
    ∷ creditor_not_instant c
    ∷ creditor_not_served c
    ∷ debtor_elsewhere c
    ∷ creditor_elsewhere c
    ∷ previous_not_serving c
    ∷ instructing_not_serving c
    ∷ iban_wrong c
    ∷ nothing_due c s
    ∷ transfer_declined c
    ∷ credit_refused c
    ∷ []

-- the check with a number fails
unfoldable pub fails : Case → List ℕ → ℕ → Bool
fails c s number = get_or (rows_of c s) number false

-- the first failing one in an order, 0 where none fails
unfoldable pub first_failing : (ℕ → Bool) → List ℕ → ℕ
first_failing failing [] = 0
first_failing failing (k ∷ order) = cond (failing k) k (first_failing failing order)

-- the check that a message fails by, in the order of its kind
unfoldable pub verdict : Case → List ℕ → ℕ
verdict c s = first_failing (fails c s) (order_of c.message.kind)

-- how a camt.050 or an answer ends: ACCC with 0, or RJCT with the check
unfoldable pub transferred : ℕ → Outcome
transferred check = cond (eqb check 0) (record { status = status_number Accc; check = 0 }) (record { status = status_number Rjct; check = check })

-- how the submit of a pacs.008 ends: it waits, or RJCT with the check
unfoldable pub sent : ℕ → Outcome
sent check = cond (eqb check 0) (record { status = status_number Waits; check = 0 }) (record { status = status_number Rjct; check = check })

-- what a pacs.028 tells of the payment that it asks after: what has become of it
unfoldable pub told_of : Option Placed → List ℕ → Outcome
told_of (Some e) s = result_now s e.place
told_of None s = record { status = status_number Pdng; check = 0 }

-- what a pacs.028 answers: its own first failing check as PDNG, else what is told of the payment
unfoldable pub answered : ℕ → Outcome → Outcome
answered check told = cond (eqb check 0) told (record { status = status_number Pdng; check = check })

unfoldable pub end_of : Kind → ℕ → Outcome → Outcome
end_of Pacs008 check told = sent check
end_of Camt050 check told = transferred check
end_of Pacs028 check told = answered check told
end_of Pacs002 check told = transferred check

-- what becomes of a message
unfoldable pub outcome : Case → List ℕ → Outcome
outcome c s = end_of c.message.kind (verdict c s) (told_of (asked_after c s) s)

-- money is moved: a camt.050 or an answer is carried out
unfoldable pub carried : Kind → Outcome → Bool
carried Pacs008 o = false
carried Camt050 o = eqb o.status (status_number Accc)
carried Pacs028 o = false
carried Pacs002 o = eqb o.status (status_number Accc)

-- a transfer waits for its answer
unfoldable pub awaits : Kind → Outcome → Bool
awaits Pacs008 o = eqb o.status (status_number Waits)
awaits Camt050 o = false
awaits Pacs028 o = false
awaits Pacs002 o = false

-- the number of the step that is closed: by an answer that settles the transfer, or fails by a check that rejects it
unfoldable pub step_number : Option Placed → ℕ
step_number (Some e) = suc e.place
step_number None = 0

unfoldable pub closed_by : Kind → ℕ → Option Placed → ℕ
closed_by Pacs008 check due = 0
closed_by Camt050 check due = 0
closed_by Pacs028 check due = 0
closed_by Pacs002 check due = cond (eqb check 0 || is_in check rejecting) (step_number due) 0

-- the step that a message is: what document 01 says that a step stores, with a movement exactly where money is moved or a transfer waits, who is to
-- answer exactly where it waits, and the step that it answers
unfoldable pub step_made : Case → Movement → ℕ → Outcome → Step
step_made c move answers o =
    let kept : ℕ → ℕ = λ n. cond (carried c.message.kind o || awaits c.message.kind o) n 0 in
    record {
      kind = kind_number c.message.kind;
      status = o.status;
      check = o.check;
      sender = c.sender;
      id = c.message.id.stored;
      uetr = c.message.uetr;
      created = or_zero c.message.created;
      reference = c.message.reference;
      debit = kept (or_zero move.debit);
      credit = kept (or_zero move.credit);
      amount = kept move.amount;
      account = 0;
      old = no_settings;
      given = no_settings;
      receiver = cond (awaits c.message.kind o) (or_zero c.message.instructed) 0;
      answers = answers;
    }

-- the step of a message that fails by this check, or by none, in its seat
unfoldable pub step_by : Case → List ℕ → ℕ → Step
step_by c s check =
    step_made c (movement_in c s) (closed_by c.message.kind check (due_to c s)) (end_of c.message.kind check (told_of (asked_after c s) s))

-- the step of a judged message
unfoldable pub judged_step : Case → List ℕ → Step
judged_step c s = step_by c s (verdict c s)
