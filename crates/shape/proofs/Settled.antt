-- Of each public function: no second answer satisfies its contract.
-- Assumes nothing.
use Rattle.shape.proofs.Single.{Settled, by-equation}
use Rattle.shape.proofs.byte.is_digit.Kinds as is-digit-kinds
use Rattle.shape.proofs.byte.is_digit.Reads as is-digit-reads
use Rattle.shape.proofs.byte.is_capital.Kinds as is-capital-kinds
use Rattle.shape.proofs.byte.is_capital.Reads as is-capital-reads
use Rattle.shape.proofs.byte.is_small.Kinds as is-small-kinds
use Rattle.shape.proofs.byte.is_small.Reads as is-small-reads
use Rattle.shape.proofs.byte.is_letter.Kinds as is-letter-kinds
use Rattle.shape.proofs.byte.is_letter.Reads as is-letter-reads
use Rattle.shape.proofs.byte.is_digit_or_capital.Kinds as is-digit-or-capital-kinds
use Rattle.shape.proofs.byte.is_digit_or_capital.Reads as is-digit-or-capital-reads
use Rattle.shape.proofs.byte.is_hex.Kinds as is-hex-kinds
use Rattle.shape.proofs.byte.is_hex.Reads as is-hex-reads
use Rattle.shape.proofs.byte.is_variant.Kinds as is-variant-kinds
use Rattle.shape.proofs.byte.is_variant.Reads as is-variant-reads
use Rattle.shape.proofs.byte.is_text.Kinds as is-text-kinds
use Rattle.shape.proofs.byte.is_text.Reads as is-text-reads
use Rattle.shape.proofs.byte.peek.Kinds as peek-kinds
use Rattle.shape.proofs.byte.peek.Reads as peek-reads
use Rattle.shape.proofs.date.is_leap.Kinds as is-leap-kinds
use Rattle.shape.proofs.date.is_leap.Reads as is-leap-reads
use Rattle.shape.proofs.date.days_in.Kinds as days-in-kinds
use Rattle.shape.proofs.date.days_in.Reads as days-in-reads
use Rattle.shape.proofs.date.is_date.Kinds as is-date-kinds
use Rattle.shape.proofs.date.is_date.Reads as is-date-reads
use Rattle.shape.proofs.date.day_before.Kinds as day-before-kinds
use Rattle.shape.proofs.date.day_before.Reads as day-before-reads
use Rattle.shape.proofs.date.is_time.Kinds as is-time-kinds
use Rattle.shape.proofs.date.is_time.Reads as is-time-reads
use Rattle.shape.proofs.date.date_of.Kinds as date-of-kinds
use Rattle.shape.proofs.date.date_of.Reads as date-of-reads
use Rattle.shape.proofs.date.time_of.Kinds as time-of-kinds
use Rattle.shape.proofs.date.time_of.Reads as time-of-reads
use Rattle.shape.proofs.field.code_of.Kinds as code-of-kinds
use Rattle.shape.proofs.field.code_of.Reads as code-of-reads
use Rattle.shape.proofs.field.is_amount.Kinds as is-amount-kinds
use Rattle.shape.proofs.field.is_amount.Reads as is-amount-reads
use Rattle.shape.proofs.field.amount_of.Kinds as amount-of-kinds
use Rattle.shape.proofs.field.amount_of.Reads as amount-of-reads
use Rattle.shape.proofs.field.currency_of.Kinds as currency-of-kinds
use Rattle.shape.proofs.field.currency_of.Reads as currency-of-reads
use Rattle.shape.proofs.field.account_of.Kinds as account-of-kinds
use Rattle.shape.proofs.field.account_of.Reads as account-of-reads
use Rattle.shape.proofs.field.message_code_of.Kinds as message-code-of-kinds
use Rattle.shape.proofs.field.message_code_of.Reads as message-code-of-reads
use Rattle.shape.proofs.field.is_iban.Kinds as is-iban-kinds
use Rattle.shape.proofs.field.is_iban.Reads as is-iban-reads
use Rattle.shape.proofs.field.system_of.Kinds as system-of-kinds
use Rattle.shape.proofs.field.system_of.Reads as system-of-reads
use Rattle.shape.proofs.field.is_identifier.Kinds as is-identifier-kinds
use Rattle.shape.proofs.field.is_identifier.Reads as is-identifier-reads
use Rattle.shape.proofs.field.names_pacs_008.Kinds as names-pacs-008-kinds
use Rattle.shape.proofs.field.names_pacs_008.Reads as names-pacs-008-reads
use Rattle.shape.proofs.pattern.is_within.Kinds as is-within-kinds
use Rattle.shape.proofs.pattern.is_within.Reads as is-within-reads
use Rattle.shape.proofs.pattern.matches.Kinds as matches-kinds
use Rattle.shape.proofs.pattern.matches.Reads as matches-reads
use Rattle.shape.proofs.pattern.all_within.Kinds as all-within-kinds
use Rattle.shape.proofs.pattern.all_within.Reads as all-within-reads
use Rattle.shape.proofs.stored.identifier_of.Kinds as identifier-of-kinds
use Rattle.shape.proofs.stored.identifier_of.Reads as identifier-of-reads
use Rattle.shape.proofs.stored.text_of.Kinds as text-of-kinds
use Rattle.shape.proofs.stored.text_of.Reads as text-of-reads
use Rattle.shape.proofs.stored.same_identifier.Kinds as same-identifier-kinds
use Rattle.shape.proofs.stored.same_identifier.Reads as same-identifier-reads
use Rattle.shape.proofs.stored.is_uetr.Kinds as is-uetr-kinds
use Rattle.shape.proofs.stored.is_uetr.Reads as is-uetr-reads
use Rattle.shape.proofs.stored.uetr_of.Kinds as uetr-of-kinds
use Rattle.shape.proofs.stored.uetr_of.Reads as uetr-of-reads
use Rattle.shape.proofs.stored.same_uetr.Kinds as same-uetr-kinds
use Rattle.shape.proofs.stored.same_uetr.Reads as same-uetr-reads

pub is_digit : Settled _ is-digit-kinds.ps is-digit-kinds.r is-digit-reads.Post
is_digit κs a x y e f = by-equation

pub is-capital : Settled _ is-capital-kinds.ps is-capital-kinds.r is-capital-reads.Post
is-capital κs a x y e f = by-equation

pub is-small : Settled _ is-small-kinds.ps is-small-kinds.r is-small-reads.Post
is-small κs a x y e f = by-equation

pub is-letter : Settled _ is-letter-kinds.ps is-letter-kinds.r is-letter-reads.Post
is-letter κs a x y e f = by-equation

pub is-digit-or-capital : Settled _ is-digit-or-capital-kinds.ps is-digit-or-capital-kinds.r is-digit-or-capital-reads.Post
is-digit-or-capital κs a x y e f = by-equation

pub is-hex : Settled _ is-hex-kinds.ps is-hex-kinds.r is-hex-reads.Post
is-hex κs a x y e f = by-equation

pub is-variant : Settled _ is-variant-kinds.ps is-variant-kinds.r is-variant-reads.Post
is-variant κs a x y e f = by-equation

pub is-text : Settled _ is-text-kinds.ps is-text-kinds.r is-text-reads.Post
is-text κs a x y e f = by-equation

pub peek : Settled _ peek-kinds.ps peek-kinds.r peek-reads.Post
peek κs a x y e f = by-equation

pub is-leap : Settled _ is-leap-kinds.ps is-leap-kinds.r is-leap-reads.Post
is-leap κs a x y e f = by-equation

pub days-in : Settled _ days-in-kinds.ps days-in-kinds.r days-in-reads.Post
days-in κs a x y e f = by-equation

pub is-date : Settled _ is-date-kinds.ps is-date-kinds.r is-date-reads.Post
is-date κs a x y e f = by-equation

pub day-before : Settled _ day-before-kinds.ps day-before-kinds.r day-before-reads.Post
day-before κs a x y e f = by-equation

pub is-time : Settled _ is-time-kinds.ps is-time-kinds.r is-time-reads.Post
is-time κs a x y e f = by-equation

pub date-of : Settled _ date-of-kinds.ps date-of-kinds.r date-of-reads.Post
date-of κs a x y e f = by-equation

pub time-of : Settled _ time-of-kinds.ps time-of-kinds.r time-of-reads.Post
time-of κs a x y e f = by-equation

pub code_of : Settled _ code-of-kinds.ps code-of-kinds.r code-of-reads.Post
code_of κs a x y e f = by-equation

pub is-amount : Settled _ is-amount-kinds.ps is-amount-kinds.r is-amount-reads.Post
is-amount κs a x y e f = by-equation

pub amount-of : Settled _ amount-of-kinds.ps amount-of-kinds.r amount-of-reads.Post
amount-of κs a x y e f = by-equation

pub currency-of : Settled _ currency-of-kinds.ps currency-of-kinds.r currency-of-reads.Post
currency-of κs a x y e f = by-equation

pub account-of : Settled _ account-of-kinds.ps account-of-kinds.r account-of-reads.Post
account-of κs a x y e f = by-equation

pub message-code-of : Settled _ message-code-of-kinds.ps message-code-of-kinds.r message-code-of-reads.Post
message-code-of κs a x y e f = by-equation

pub is-iban : Settled _ is-iban-kinds.ps is-iban-kinds.r is-iban-reads.Post
is-iban κs a x y e f = by-equation

pub system-of : Settled _ system-of-kinds.ps system-of-kinds.r system-of-reads.Post
system-of κs a x y e f = by-equation

pub is-identifier : Settled _ is-identifier-kinds.ps is-identifier-kinds.r is-identifier-reads.Post
is-identifier κs a x y e f = by-equation

pub names-pacs-008 : Settled _ names-pacs-008-kinds.ps names-pacs-008-kinds.r names-pacs-008-reads.Post
names-pacs-008 κs a x y e f = by-equation

pub is_within : Settled _ is-within-kinds.ps is-within-kinds.r is-within-reads.Post
is_within κs a x y e f = by-equation

pub matches : Settled _ matches-kinds.ps matches-kinds.r matches-reads.Post
matches κs a x y e f = by-equation

pub all-within : Settled _ all-within-kinds.ps all-within-kinds.r all-within-reads.Post
all-within κs a x y e f = by-equation

pub identifier-of : Settled _ identifier-of-kinds.ps identifier-of-kinds.r identifier-of-reads.Post
identifier-of κs a x y e f = by-equation

pub text_of : Settled _ text-of-kinds.ps text-of-kinds.r text-of-reads.Post
text_of κs a x y e f = by-equation

pub same-identifier : Settled _ same-identifier-kinds.ps same-identifier-kinds.r same-identifier-reads.Post
same-identifier κs a x y e f = by-equation

pub is-uetr : Settled _ is-uetr-kinds.ps is-uetr-kinds.r is-uetr-reads.Post
is-uetr κs a x y e f = by-equation

pub uetr-of : Settled _ uetr-of-kinds.ps uetr-of-kinds.r uetr-of-reads.Post
uetr-of κs a x y e f = by-equation

pub same-uetr : Settled _ same-uetr-kinds.ps same-uetr-kinds.r same-uetr-reads.Post
same-uetr κs a x y e f = by-equation
