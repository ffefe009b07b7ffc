-- What a message asks of the directory: the codes of its agents and of the owners of the accounts that it moves money between, and what is found of
-- them. That all this together is what `Case.antt` says of a message is proved in `proofs/Lookups.antt`.
use Rattle.std.specs.Prelude.{List, ℕ, Option, Some, None, Ok, Err}
use Rattle.table.specs.declared.Kind.{Kind}
use Rattle.table.specs.declared.Kind.TheVariants.{Pacs008, Camt050, Pacs028, Pacs002}
use Rattle.message.specs.declared.Message.{Message}
use Rattle.message.specs.Message.{Answer}
use Rattle.directory.specs.declared.Participant.{Participant}
use Rattle.directory.specs.declared.Listed.{Listed}
use Rattle.directory.specs.Directory.{found, found_as, account_in}
use Rattle.judge.specs.declared.case.Looked.{Looked}
use Rattle.judge.specs.declared.records.Asked.{Asked}

-- the codes in a message; of its accounts, those that a camt.050 names
abbrev pub asked_by : Message → Asked
asked_by m = record {
  kind = m.kind;
  instructing = m.instructing;
  instructed = m.instructed;
  debtor = m.debtor.code;
  creditor = m.creditor.code;
  debit = Some m.debit.code;
  credit = Some m.credit.code;
}

-- a sheet that is no message asks nothing
abbrev pub nothing_asked : Asked
nothing_asked = record {
  kind = Pacs028;
  instructing = None;
  instructed = None;
  debtor = None;
  creditor = None;
  debit = None;
  credit = None;
}

unfoldable pub asked_in : Answer → Asked
asked_in (Ok m) = asked_by m
asked_in (Err refusal) = nothing_asked

-- the code of the owner of an account: a pacs.008 means the account that its agent uses, a camt.050 names the code, the others have none
unfoldable pub owner_code : Kind → Option Listed → Option ℕ → Option ℕ
owner_code Pacs008 agent named = account_in agent
owner_code Camt050 agent named = named
owner_code Pacs028 agent named = None
owner_code Pacs002 agent named = None

-- of the debited account, by InstgAgt; of the credited one, by InstdAgt
abbrev pub debit_code : Asked → Option Listed → Option ℕ
debit_code asked instructing = owner_code asked.kind instructing asked.debit

abbrev pub credit_code : Asked → Option Listed → Option ℕ
credit_code asked instructed = owner_code asked.kind instructed asked.credit

-- all that is looked up for a sender
abbrev pub looked_for : List Participant → ℕ → Asked → Looked
looked_for dir sender asked = record {
  source = found dir sender;
  instructed = found_as dir asked.instructed;
  debtor = found_as dir asked.debtor;
  creditor = found_as dir asked.creditor;
  debit = found_as dir (debit_code asked (found_as dir asked.instructing));
  credit = found_as dir (credit_code asked (found_as dir asked.instructed));
}
