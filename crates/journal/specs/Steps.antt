-- What a step of the journal can be, by itself: document 01, "Room, seats, directory" ("ranges are right"), what a step stores, and request 9 of
-- document 02. What its kind lacks is zero; a movement stands exactly where money was moved and where a transfer waits for its answer or did,
-- settings exactly in a set.
use Rattle.std.specs.Prelude.{Bool, not, ◌&&◌, ◌||◌, cond, ℕ, ◌+◌, ◌-◌, ◌/◌, ◌%◌, ◌^◌, leb, ltb, eqb}
use Rattle.shape.specs.Dates.{is_time}
use Rattle.shape.specs.Fields.{is_identifier}
use Rattle.shape.specs.Stored.{identifier_of, identifier_text, same_identifier}
use Rattle.shape.specs.declared.stored.Identifier.{Identifier}
use Rattle.shape.specs.declared.stored.Uetr.{Uetr}
use Rattle.table.specs.declared.Kind.TheVariants.{Pacs008, Camt050, Pacs002}
use Rattle.table.specs.Checks.{rejecting, is_in}
use Rattle.slip.specs.Meaning.{steps, kind_number, status_number}
use Rattle.slip.specs.declared.Status.TheVariants.{Accc, Waits}
use Rattle.directory.specs.Directory.{code_most}
use Rattle.layout.specs.declared.rows.Settings.{Settings}
use Rattle.layout.specs.declared.rows.Step.{Step}
use Rattle.layout.specs.Seat.{accounts}
use Rattle.journal.specs.Results.{result_fits}

-- a set is a step of its own kind, by a number of the journal's own: no slip has it
abbrev pub set_kind : ℕ
set_kind = 5

-- opening sums, LTK and LPO are 0 to 10^15; an amount is at most 99999999999.99
abbrev pub sum_most : ℕ
sum_most = 1000000000000000

abbrev pub amount_most : ℕ
amount_most = 9999999999999

-- blocks are 0 or 1; LPO is stored as 0 for none and n + 1 for n
unfoldable pub settings_fit : Settings → Bool
settings_fit x = leb x.out 1 && leb x.into 1 && leb x.ltk sum_most && leb x.lpo (sum_most + 1)

unfoldable pub same_settings : Settings → Settings → Bool
same_settings x y = eqb x.out y.out && eqb x.into y.into && eqb x.ltk y.ltk && eqb x.lpo y.lpo

abbrev pub no_settings : Settings
no_settings = record { out = 0; into = 0; ltk = 0; lpo = 0 }

abbrev pub no_identifier : Identifier
no_identifier = record { first = 0; second = 0; third = 0; fourth = 0; fifth = 0 }

-- the highest number of seven bytes, which a stored identifier has at most in each of its numbers
abbrev pub seven_most : ℕ
seven_most = 2 ^ 56 - 1

-- the numbers are what an identifier is stored as, 1 to 35 text bytes with zeros behind them
unfoldable pub is_stored : Identifier → Bool
is_stored x = is_identifier (identifier_text x) && same_identifier (identifier_of (identifier_text x)) x

-- the numbers are what a UETR is stored as: the version's digit is 4, the variant's 8 to b
unfoldable pub is_stored_uetr : Uetr → Bool
is_stored_uetr x = eqb (x.high / 2 ^ 12 % 16) 4 && eqb (x.low / 2 ^ 62) 2

unfoldable pub no_uetr : Uetr → Bool
no_uetr x = eqb x.high 0 && eqb x.low 0

unfoldable pub no_message : Step → Bool
no_message x =
    eqb x.status 0 && eqb x.check 0 && eqb x.sender 0
    && same_identifier x.id no_identifier
    && no_uetr x.uetr && eqb x.created 0
    && same_identifier x.reference no_identifier
    && eqb x.receiver 0 && eqb x.answers 0

unfoldable pub no_movement : Step → Bool
no_movement x = eqb x.debit 0 && eqb x.credit 0 && eqb x.amount 0

unfoldable pub no_set : Step → Bool
no_set x = eqb x.account 0 && same_settings x.old no_settings && same_settings x.given no_settings

-- a set has an account and settings, and nothing else
unfoldable pub set_fits : Step → Bool
set_fits x = no_message x && no_movement x && ltb x.account accounts && settings_fit x.old && settings_fit x.given

abbrev pub is_kind : ℕ → Step → Bool
is_kind kind x = eqb x.kind kind

-- a step moves money where it is a camt.050 or an answer that was carried out; an amount alone moves none
unfoldable pub moves : Step → Bool
moves x = eqb x.status (status_number Accc) && (is_kind (kind_number Camt050) x || is_kind (kind_number Pacs002) x)

-- a pacs.008 that waits for its answer, or did
unfoldable pub is_waiting : Step → Bool
is_waiting x = is_kind (kind_number Pacs008) x && eqb x.status (status_number Waits)

-- an answer that settles or rejects the transfer that it names
unfoldable pub closes : Step → Bool
closes x = is_kind (kind_number Pacs002) x && (eqb x.check 0 || is_in x.check rejecting)

-- camt.050 moves between the two accounts of one place, a transfer between accounts 2
unfoldable pub between : Step → Bool
between x =
    cond (is_kind (kind_number Camt050) x)
    (eqb (x.debit / 2) (x.credit / 2) && not (eqb x.debit x.credit))
    (eqb (x.debit % 2) 1 && eqb (x.credit % 2) 1)

unfoldable pub is_movement : Step → Bool
is_movement x = leb 1 x.amount && leb x.amount amount_most && ltb x.debit accounts && ltb x.credit accounts && between x

unfoldable pub movement_fits : Step → Bool
movement_fits x = cond (moves x || is_waiting x) (is_movement x) (no_movement x)

-- an answer has no UETR, and neither an answer nor a camt.050 has an end-to-end identifier
unfoldable pub uetr_fits : Step → Bool
uetr_fits x = cond (is_kind (kind_number Pacs002) x) (no_uetr x.uetr) (is_stored_uetr x.uetr)

unfoldable pub reference_fits : Step → Bool
reference_fits x =
    cond (is_kind (kind_number Camt050) x || is_kind (kind_number Pacs002) x) (same_identifier x.reference no_identifier) (is_stored x.reference)

-- who is to answer stands where a transfer waits or waited; which step is answered, by its number from 1 on, stands where that one is closed
unfoldable pub receiver_fits : Step → Bool
receiver_fits x = cond (is_waiting x) (leb x.receiver code_most) (eqb x.receiver 0)

unfoldable pub answers_fits : Step → Bool
answers_fits x = cond (closes x) (leb 1 x.answers && leb x.answers steps) (eqb x.answers 0)

-- a message has a result that is possible for its kind
unfoldable pub message_fits : Step → Bool
message_fits x =
    result_fits x.kind x.status x.check && leb x.sender code_most
    && is_stored x.id && uetr_fits x && is_time x.created
    && reference_fits x && movement_fits x && receiver_fits x && answers_fits x && no_set x

unfoldable pub step_fits : Step → Bool
step_fits x = cond (is_kind set_kind x) (set_fits x) (message_fits x)

-- no step
abbrev pub no_step : Step
no_step = record {
  kind = 0;
  status = 0;
  check = 0;
  sender = 0;
  id = no_identifier;
  uetr = record { high = 0; low = 0 };
  created = 0;
  reference = no_identifier;
  debit = 0;
  credit = 0;
  amount = 0;
  account = 0;
  old = no_settings;
  given = no_settings;
  receiver = 0;
  answers = 0;
}
