-- A message is made of its parts, each of which is made of the text with its number.
-- Assumes nothing.
use Rattle.std.specs.Prelude.{ℕ, Option}
use mathlib.Core.Path.{◌≡◌}
use mathlib.Core.List.{List}
use Prim.Native.Nat.{ℕ}
use Rattle.shape.specs.Dates.{time_of}
use Rattle.shape.specs.Fields.{code_of, amount_of, account_of}
use Rattle.shape.specs.Stored.{identifier_of, uetr_of}
use Rattle.shape.specs.declared.field.Account.{Account}
use Rattle.shape.specs.declared.stored.Identifier.{Identifier}
use Rattle.shape.specs.declared.stored.Uetr.{Uetr}
use Rattle.remainder.specs.Remainder.{remainder_of}
use Rattle.table.specs.declared.Kind.{Kind}
use Rattle.message.specs.declared.Name.{Name}
use Rattle.message.specs.declared.Agent.{Agent}
use Rattle.message.specs.declared.Reply.{Reply}
use Rattle.message.specs.declared.Message.{Message}
use Rattle.message.specs.declared.kinds.Numbers.{Numbers}
use Rattle.message.specs.Fields.{numbers_of}
use Rattle.message.specs.Message.{name_of, agent_of, reply_of, message_from}

pub built : (kind : Kind) (n : Numbers) (text : ℕ → List ℕ) (currency : Option ℕ)
    {id : Name}
    {created : Option ℕ}
    {instructing : Option ℕ}
    {instructed : Option ℕ}
    {reference : Identifier}
    {uetr : Uetr}
    {amount : Option ℕ}
    {previous : Option ℕ}
    {debtor : Agent}
    {creditor : Agent}
    {iban : Option ℕ}
    {debit : Account}
    {credit : Account}
    {original : Name}
    {originated : Option ℕ}
    {reply : Option Reply}
    → n ≡ numbers_of kind
    → id ≡ name_of (text n.id)
    → created ≡ time_of (text n.created)
    → instructing ≡ code_of (text n.instructing)
    → instructed ≡ code_of (text n.instructed)
    → reference ≡ identifier_of (text n.reference)
    → uetr ≡ uetr_of (text n.uetr)
    → amount ≡ amount_of (text n.amount)
    → previous ≡ code_of (text n.previous)
    → debtor ≡ agent_of (text n.debtor.system) (text n.debtor.code)
    → creditor ≡ agent_of (text n.creditor.system) (text n.creditor.code)
    → iban ≡ remainder_of (text n.iban)
    → debit ≡ account_of (text n.debit)
    → credit ≡ account_of (text n.credit)
    → original ≡ name_of (text n.original)
    → originated ≡ time_of (text n.originated)
    → reply ≡ reply_of (text n.group) (text n.transaction)
    → ◌≡◌ {A = Message}
    (record {
      kind = kind;
      id = id;
      created = created;
      instructing = instructing;
      instructed = instructed;
      reference = reference;
      uetr = uetr;
      amount = amount;
      currency = currency;
      previous = previous;
      debtor = debtor;
      creditor = creditor;
      iban = iban;
      debit = debit;
      credit = credit;
      original = original;
      originated = originated;
      reply = reply;
    })
    (message_from kind text currency)
unfolding message_from
built kind n text currency e e1 e2 e3 e4 e5 e6 e7 e8 e9 e10 e11 e12 e13 e14 e15 e16 =
    rw (← e, e1, e2, e3, e4, e5, e6, e7, e8, e9, e10, e11, e12, e13, e14, e15, e16)
