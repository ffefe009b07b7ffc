-- A message: its kind, and of each field what the checks and the journal need. Two fields that mean the same in two kinds are one part of the
-- message; a part that a kind lacks, or whose field is missing, is what an empty text gives (`proofs/Absent.antt`).
use Rattle.std.specs.Prelude.{cond, List, [], ◌∷◌, ℕ, length, get_or, eqb, Option, Some, None, Result}
use Rattle.shape.specs.Text.{bytes}
use Rattle.shape.specs.Patterns.{fits}
use Rattle.shape.specs.Dates.{time_of}
use Rattle.shape.specs.Fields.{code_of, amount_of, currency_of, account_of, message_code_of, system_of}
use Rattle.shape.specs.Stored.{identifier_of, uetr_of}
use Rattle.remainder.specs.Remainder.{remainder_of}
use Rattle.table.specs.declared.Kind.{Kind}
use Rattle.outline.specs.Paths.{characters_of}
use Rattle.message.specs.declared.kinds.Numbers.{Numbers}
use Rattle.message.specs.declared.Name.{Name}
use Rattle.message.specs.declared.Agent.{Agent}
use Rattle.message.specs.declared.Reply.{Reply}
use Rattle.message.specs.declared.Reply.TheVariants.{Accepts, Declines, Refuses}
use Rattle.message.specs.declared.Message.{Message}
use Rattle.message.specs.declared.found.Spot.{Spot}
use Rattle.message.specs.declared.Refusal.{Refusal}
use Rattle.message.specs.Fields.{numbers_of}
use Rattle.message.specs.Held.{Held, missing, once, doubled}

-- what an element that stands once holds: its text's characters, its Ccy, where its text begins and how long it is
unfoldable pub text_in : Held → List ℕ
text_in missing = []
text_in (once ccy inside None) = []
text_in (once ccy inside (Some text)) = characters_of text
text_in doubled = []

unfoldable pub ccy_in : Held → List ℕ
ccy_in missing = []
ccy_in (once ccy inside None) = []
ccy_in (once None inside (Some text)) = []
ccy_in (once (Some ccy) inside (Some text)) = ccy
ccy_in doubled = []

unfoldable pub start_in : Held → ℕ
start_in missing = 0
start_in (once ccy inside None) = 0
start_in (once ccy inside (Some text)) = inside
start_in doubled = 0

unfoldable pub length_in : Held → ℕ
length_in missing = 0
length_in (once ccy inside None) = 0
length_in (once ccy inside (Some text)) = length text
length_in doubled = 0

abbrev pub spot_in : Held → Spot
spot_in h = record { start = start_in h; length = length_in h }

-- of what the fields hold, what the field with a number has; nothing at 0, which is no field's number
abbrev pub numbered : List Held → ℕ → Held
numbered held k = get_or (missing ∷ held) k missing

-- a message identifier: as it is stored, and the code in front of it where it is a good one
unfoldable pub name_of : List ℕ → Name
name_of s = record { stored = identifier_of s; code = message_code_of s }

-- an agent: which system lists it, and its code
unfoldable pub agent_of : List ℕ → List ℕ → Agent
agent_of system code = record { system = system_of system; code = code_of code }

-- what GrpSts and TxSts can be
abbrev pub accepted_text : List ℕ
accepted_text = bytes "ACCP"

abbrev pub rejected_text : List ℕ
rejected_text = bytes "RJCT"

-- what the receiving bank says by GrpSts and TxSts: ACCP accepts the transfer; RJCT without TxSts declines it, which is a technical refusal; RJCT
-- with TxSts refuses to credit the client
unfoldable pub reply_of : List ℕ → List ℕ → Option Reply
reply_of group transaction =
    cond (fits accepted_text group) (Some Accepts)
    (cond (fits rejected_text group) (Some (cond (eqb (length transaction) 0) Declines Refuses)) None)

-- what a sheet is: a message, or refused
abbrev pub Answer : Type 0
Answer = Result Message Refusal

-- each part by the number of its field in the kind
unfoldable pub message_from : Kind → (ℕ → List ℕ) → Option ℕ → Message
message_from kind text currency =
    let of : Numbers = numbers_of kind in
    record {
      kind = kind;
      id = name_of (text of.id);
      created = time_of (text of.created);
      instructing = code_of (text of.instructing);
      instructed = code_of (text of.instructed);
      reference = identifier_of (text of.reference);
      uetr = uetr_of (text of.uetr);
      amount = amount_of (text of.amount);
      currency = currency;
      previous = code_of (text of.previous);
      debtor = agent_of (text of.debtor.system) (text of.debtor.code);
      creditor = agent_of (text of.creditor.system) (text of.creditor.code);
      iban = remainder_of (text of.iban);
      debit = account_of (text of.debit);
      credit = account_of (text of.credit);
      original = name_of (text of.original);
      originated = time_of (text of.originated);
      reply = reply_of (text of.group) (text of.transaction);
    }

unfoldable pub message_of : Kind → List Held → Message
message_of kind held = message_from kind (λ (k : ℕ). text_in (numbered held k)) (currency_of (ccy_in (numbered held (numbers_of kind).amount)))
