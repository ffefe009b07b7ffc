-- What the checks look at beside the seat: the message, its sender, the call's date, and what the directory says of the sender, of the agents that
-- the message names and of the accounts that it moves money between. Document 01, "The checks".
use Rattle.std.specs.Prelude.{true, List, ◌≡◌, ℕ, ◌≤◌, Option, None, Ok}
use Rattle.table.specs.declared.Kind.{Kind}
use Rattle.table.specs.declared.Kind.TheVariants.{Pacs008, Camt050, Pacs028, Pacs002}
use Rattle.message.specs.declared.Message.{Message}
use Rattle.message.specs.Received.{received_of}
use Rattle.directory.specs.declared.Participant.{Participant}
use Rattle.directory.specs.declared.Listed.{Listed}
use Rattle.directory.specs.Directory.{code_most, found, found_as, owner_used, is_fit}
use Rattle.seat.specs.Calls.{account_found}
use Rattle.judge.specs.declared.case.Case.{Case}
use Rattle.judge.specs.declared.case.Looked.{Looked}
use Rattle.judge.specs.declared.case.Movement.{Movement}
use Rattle.judge.specs.Values.{or_zero}

-- whose accounts a message moves money between: camt.050 names them by code; a pacs.008's are those of InstgAgt and of InstdAgt, a direct
-- branch's its head's. A pacs.028 moves none, and a pacs.002 goes by what the transfer keeps that it answers, whichever directory comes
unfoldable pub debit_owner : List Participant → Message → Kind → Option Listed
debit_owner dir m Pacs008 = owner_used dir m.instructing
debit_owner dir m Camt050 = found dir m.debit.code
debit_owner dir m Pacs028 = None
debit_owner dir m Pacs002 = None

unfoldable pub credit_owner : List Participant → Message → Kind → Option Listed
credit_owner dir m Pacs008 = owner_used dir m.instructed
credit_owner dir m Camt050 = found dir m.credit.code
credit_owner dir m Pacs028 = None
credit_owner dir m Pacs002 = None

-- which of an owner's two accounts: a camt.050 says it by a digit, a pacs.008 means account 2
unfoldable pub account_on : Kind → ℕ → ℕ
account_on Pacs008 digit = 2
account_on Camt050 digit = digit
account_on Pacs028 digit = 0
account_on Pacs002 digit = 0

-- the debited and the credited account by their numbers in the seat, each of which may be missing, and the amount
unfoldable pub movement_of : Message → Option Listed → Option Listed → Movement
movement_of m from to = record {
  debit = account_found from (account_on m.kind m.debit.digit);
  credit = account_found to (account_on m.kind m.credit.digit);
  amount = or_zero m.amount;
}

-- what is looked up for a message
abbrev pub looked_up : List Participant → ℕ → Message → Looked
looked_up dir sender m = record {
  source = found dir sender;
  instructed = found_as dir m.instructed;
  debtor = found_as dir m.debtor.code;
  creditor = found_as dir m.creditor.code;
  debit = debit_owner dir m m.kind;
  credit = credit_owner dir m m.kind;
}

-- the case of a message, by what was looked up for it
abbrev pub case_from : Looked → ℕ → ℕ → Message → Case
case_from looked sender today m = record {
  message = m;
  sender = sender;
  today = today;
  source = looked.source;
  instructed = looked.instructed;
  debtor = looked.debtor;
  creditor = looked.creditor;
  movement = movement_of m looked.debit looked.credit;
}

unfoldable pub case_of : List Participant → ℕ → ℕ → Message → Case
case_of dir sender today m = case_from (looked_up dir sender m) sender today m

-- a case as it comes up: the message is one that a sheet can be, the sender is a code, and all was looked up in one fit directory
pub record Arises (c : Case) : Type 0 where
  pub sheet : List ℕ
  pub dir : List Participant
  pub good : (received_of sheet).answer ≡ Ok c.message
  pub fit : is_fit dir ≡ true
  pub code : c.sender ≤ code_most
  pub looked : c ≡ case_of dir c.sender c.today c.message
