-- The 37 rows of the check table, in its order and words: document 01, "The checks", and request 9 of document 02. Each says when its check fails,
-- of any case and any seat, whatever the other rows say. A check on a missing record, account or step fails only where its row says so.
-- Who an agent is goes through `directory` alone, what stands in earlier steps and accounts through `journal` alone.
use Rattle.std.specs.Prelude.{Bool, true, false, not, ◌&&◌, ◌||◌, cond, List, ℕ, ltb, eqb, Option, Some, None}
use Rattle.shape.specs.Text.{bytes}
use Rattle.shape.specs.Dates.{date_of, day_before}
use Rattle.shape.specs.Fields.{three_bytes}
use Rattle.shape.specs.Stored.{same_identifier, same_uetr}
use Rattle.shape.specs.declared.field.System.{System}
use Rattle.shape.specs.declared.field.System.TheVariants.{Sep, Asp, Neither}
use Rattle.directory.specs.Directory.{is_listed, is_instant, owner_found, bank_found, under_sep, under_asp, head_in, bank_in}
use Rattle.layout.specs.declared.rows.Account.{Account}
use Rattle.layout.specs.Seat.{accounts, account_of}
use Rattle.table.specs.declared.Kind.{Kind}
use Rattle.table.specs.declared.Kind.TheVariants.{Pacs008, Camt050, Pacs028, Pacs002}
use Rattle.message.specs.declared.Message.{Message}
use Rattle.message.specs.declared.Reply.{Reply}
use Rattle.message.specs.declared.Reply.TheVariants.{Accepts, Declines, Refuses}
use Rattle.message.specs.Good.{is_given}
use Rattle.journal.specs.declared.traces.Trace.TheVariants as trace
use Rattle.journal.specs.declared.traces.Placed.{Placed}
use Rattle.journal.specs.Traces.{earliest, is_there, is_known}
use Rattle.journal.specs.Limits.{blocked_out, blocked_into, available_below, turnover_above, turnover_shut}
use Rattle.judge.specs.declared.case.Case.{Case}
use Rattle.judge.specs.declared.case.Movement.{Movement}
use Rattle.judge.specs.Values.{agree}

-- 1, 2: sender not listed or a provider; indirect
unfoldable pub sender_unlisted : Case → Bool
sender_unlisted c = not (under_sep c.source)

unfoldable pub sender_indirect : Case → Bool
sender_indirect c = is_given (head_in c.source)

-- 3, 4 speak of a listed sender: it is not instant; it is no owner
unfoldable pub sender_not_instant : Case → Bool
sender_not_instant c = is_listed c.source && not (is_instant c.source)

unfoldable pub sender_no_owner : Case → Bool
sender_no_owner c = is_listed c.source && not (owner_found c.source)

-- 5: MsgId not good or not the sender's code
unfoldable pub identifier_bad : Case → Bool
identifier_bad c = not (agree c.message.id.code (Some c.sender))

-- 6: MsgId in an earlier step
unfoldable pub identifier_repeated : Case → List ℕ → Bool
identifier_repeated c s = is_there (earliest (trace.Message c.message.id.stored) s)

-- 7: created neither on the call's date nor the day before
unfoldable pub created_on : Option ℕ → Option ℕ → Bool
created_on (Some time) day = agree (Some (date_of time)) day
created_on None day = false

unfoldable pub created_elsewhen : Case → Bool
created_elsewhen c = not (created_on c.message.created (Some c.today) || created_on c.message.created (day_before c.today))

-- 8: InstgAgt is not the sender
unfoldable pub not_from_sender : Case → Bool
not_from_sender c = not (agree c.message.instructing (Some c.sender))

-- 9: OrgnlMsgId not good or not the sender's code
unfoldable pub original_bad : Case → Bool
original_bad c = not (agree c.message.original.code (Some c.sender))

-- 10: no pacs.008 step has it, or one that waits has it
unfoldable pub original_unknown : Case → List ℕ → Bool
original_unknown c s = not (is_known c.message.original.stored s)

-- the payment that a pacs.028 asks after: the first pacs.008 step that has OrgnlMsgId
unfoldable pub asked_after : Case → List ℕ → Option Placed
asked_after c s = earliest (trace.Payment c.message.original.stored) s

-- 11: the first such step differs in time, UETR or EndToEndId
unfoldable pub differs : Message → Option Placed → Bool
differs m (Some e) =
    not (agree m.originated (Some e.step.created) && same_uetr e.step.uetr m.uetr && same_identifier e.step.reference m.reference)
differs m None = false

unfoldable pub original_differs : Case → List ℕ → Bool
original_differs c s = differs c.message (asked_after c s)

-- 12, 13: creditor, debtor account code is not the sender's
unfoldable pub creditor_anothers : Case → Bool
creditor_anothers c = not (eqb c.message.credit.code c.sender)

unfoldable pub debtor_anothers : Case → Bool
debtor_anothers c = not (eqb c.message.debit.code c.sender)

-- 14: account currencies differ
unfoldable pub currencies_differ : Case → Bool
currencies_differ c = not (eqb c.message.debit.currency c.message.credit.currency)

-- 15: first digits are not 1 and 2, either way
unfoldable pub digits_wrong : Case → Bool
digits_wrong c =
    not ((eqb c.message.debit.digit 1 && eqb c.message.credit.digit 2)
    || (eqb c.message.debit.digit 2 && eqb c.message.credit.digit 1))

-- 16: amount's currency is not both accounts'
unfoldable pub amount_foreign : Case → Bool
amount_foreign c =
    not (agree c.message.currency (Some c.message.debit.currency) && agree c.message.currency (Some c.message.credit.currency))

-- 17: UETR in an earlier pacs.008 or camt.050 step, rejected ones too
unfoldable pub uetr_repeated : Case → List ℕ → Bool
uetr_repeated c s = is_there (earliest (trace.Transfer c.message.uetr) s)

-- 18, 19: creditor, debtor account not in UAH
abbrev pub hryvnia : ℕ
hryvnia = three_bytes (bytes "UAH")

unfoldable pub creditor_not_hryvnia : Case → Bool
creditor_not_hryvnia c = not (eqb c.message.credit.currency hryvnia)

unfoldable pub debtor_not_hryvnia : Case → Bool
debtor_not_hryvnia c = not (eqb c.message.debit.currency hryvnia)

-- the transfer that a pacs.002 answers: the first that waits for this sender's answer and has OrgnlMsgId
unfoldable pub due_to : Case → List ℕ → Option Placed
due_to c s = earliest (trace.Due c.message.original.stored c.sender) s

-- GrpSts is ACCP
unfoldable pub accepts : Option Reply → Bool
accepts None = false
accepts (Some Accepts) = true
accepts (Some Declines) = false
accepts (Some Refuses) = false

-- what a waiting transfer is to move: its amount between the accounts that it keeps
unfoldable pub kept_in : Option Placed → Movement
kept_in (Some e) = record { debit = Some e.step.debit; credit = Some e.step.credit; amount = e.step.amount }
kept_in None = record { debit = None; credit = None; amount = 0 }

-- the movement that a message is about in a seat, which 20 to 24 run on: its own by the directory; of an accepting answer that of the transfer
unfoldable pub movement_for : Kind → Case → List ℕ → Movement
movement_for Pacs008 c s = c.movement
movement_for Camt050 c s = c.movement
movement_for Pacs028 c s = c.movement
movement_for Pacs002 c s = cond (accepts c.message.reply) (kept_in (due_to c s)) c.movement

unfoldable pub movement_in : Case → List ℕ → Movement
movement_in c s = movement_for c.message.kind c s

-- 20 to 24 are over the accounts of a seat, a debited one or none, a credited one or none, and an amount: what the account shows, and nothing
-- where there is none
unfoldable pub account_at : Option ℕ → List ℕ → Option Account
account_at (Some i) s = cond (ltb i accounts) (Some (account_of s i)) None
account_at None s = None

unfoldable pub shows : (Account → Bool) → Option Account → Bool
shows test (Some a) = test a
shows test None = false

-- 20, 21: debtor account blocked outgoing, creditor incoming
unfoldable pub debit_blocked : Movement → List ℕ → Bool
debit_blocked move s = shows blocked_out (account_at move.debit s)

unfoldable pub credit_blocked : Movement → List ℕ → Bool
credit_blocked move s = shows blocked_into (account_at move.credit s)

-- 22: available below amount
unfoldable pub money_short : Movement → List ℕ → Bool
money_short move s = shows (λ (a : Account). available_below a move.amount) (account_at move.debit s)

-- 23: LPO above 0, turnover plus amount above it
unfoldable pub limit_passed : Movement → List ℕ → Bool
limit_passed move s = shows (λ (a : Account). turnover_above a move.amount) (account_at move.debit s)

-- 24: LPO is 0
unfoldable pub limit_zero : Movement → List ℕ → Bool
limit_zero move s = shows turnover_shut (account_at move.debit s)

-- what S says
unfoldable pub is_sep : System → Bool
is_sep Sep = true
is_sep Asp = false
is_sep Neither = false

unfoldable pub is_asp : System → Bool
is_asp Sep = false
is_asp Asp = true
is_asp Neither = false

-- 25: debtor agent not listed under its S
unfoldable pub debtor_unlisted : Case → Bool
debtor_unlisted c =
    not ((is_sep c.message.debtor.system && under_sep c.debtor) || (is_asp c.message.debtor.system && under_asp c.debtor))

-- 26: creditor agent ASP, not listed as provider
unfoldable pub creditor_no_provider : Case → Bool
creditor_no_provider c = is_asp c.message.creditor.system && not (under_asp c.creditor)

-- 27: instructed agent not a listed instant owner or direct branch
unfoldable pub instructed_no_bank : Case → Bool
instructed_no_bank c = not (is_instant c.instructed && bank_found c.instructed)

-- 28: creditor agent SEP, not listed as such or not instant
unfoldable pub creditor_not_instant : Case → Bool
creditor_not_instant c = is_sep c.message.creditor.system && not (under_sep c.creditor && is_instant c.creditor)

-- 29: creditor agent a provider, not instant or not served by InstdAgt
unfoldable pub creditor_not_served : Case → Bool
creditor_not_served c = under_asp c.creditor && not (is_instant c.creditor && agree (bank_in c.creditor) c.message.instructed)

-- 30, 31: debtor (creditor) agent SEP, neither InstgAgt (InstdAgt) nor its indirect branch
unfoldable pub debtor_elsewhere : Case → Bool
debtor_elsewhere c =
    is_sep c.message.debtor.system
    && not (agree c.message.debtor.code c.message.instructing || agree (head_in c.debtor) c.message.instructing)

unfoldable pub creditor_elsewhere : Case → Bool
creditor_elsewhere c =
    is_sep c.message.creditor.system
    && not (agree c.message.creditor.code c.message.instructed || agree (head_in c.creditor) c.message.instructed)

-- 32, 33: debtor agent a provider, not served by PrvsInstgAgt1 (when given), else by InstgAgt
unfoldable pub previous_not_serving : Case → Bool
previous_not_serving c =
    is_given c.message.previous && (under_asp c.debtor && not (agree (bank_in c.debtor) c.message.previous))

unfoldable pub instructing_not_serving : Case → Bool
instructing_not_serving c =
    not (is_given c.message.previous) && (under_asp c.debtor && not (agree (bank_in c.debtor) c.message.instructing))

-- 34: creditor IBAN's MOD 97-10 remainder is not 1
unfoldable pub is_one : Option ℕ → Bool
is_one (Some n) = eqb n 1
is_one None = false

unfoldable pub iban_wrong : Case → Bool
iban_wrong c = not (is_one c.message.iban)

-- 35: no waiting transfer to this sender has OrgnlMsgId
unfoldable pub nothing_due : Case → List ℕ → Bool
nothing_due c s = not (is_there (due_to c s))

-- 36: GrpSts is RJCT without TxSts, a technical refusal
unfoldable pub declines : Option Reply → Bool
declines None = false
declines (Some Accepts) = false
declines (Some Declines) = true
declines (Some Refuses) = false

unfoldable pub transfer_declined : Case → Bool
transfer_declined c = declines c.message.reply

-- 37: GrpSts is RJCT with TxSts, the client is not credited
unfoldable pub refuses : Option Reply → Bool
refuses None = false
refuses (Some Accepts) = false
refuses (Some Declines) = false
refuses (Some Refuses) = true

unfoldable pub credit_refused : Case → Bool
credit_refused c = refuses c.message.reply
