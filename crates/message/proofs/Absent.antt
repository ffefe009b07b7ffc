-- What an empty text gives, which is how a part of a message is absent, in this one way only; and that a field which is good is not absent.
-- Assumes nothing.
use Rattle.std.specs.Prelude.{ℕ, Option, Some, None}
use mathlib.Core.Path.{◌≡◌, refl, sym, ap, ◌∙◌}
use mathlib.Core.Bool.{Bool, true, false, ◌||◌, cond, false≢true}
use mathlib.Core.List.{List, []}
use Prim.Native.Nat.{ℕ}
use lib.Dec.{eqb}
use lib.ListN.{length}
use Rattle.shape.specs.Patterns.{fits, code_pattern, currency_pattern, time_pattern, uetr_pattern, account_pattern, message_pattern, sep_pattern, asp_pattern}
use Rattle.shape.specs.Dates.{time_of}
use Rattle.shape.specs.Fields.{code_of, is_amount, amount_of, currency_of, account_of, message_code_of, system_of, is_identifier}
use Rattle.shape.specs.Stored.{identifier_of, is_uetr, uetr_of}
use Rattle.shape.specs.declared.field.System.{System}
use Rattle.shape.specs.declared.field.System.TheVariants.{Sep, Asp, Neither}
use Rattle.shape.specs.declared.stored.Identifier.{Identifier as Stored}
use Rattle.shape.specs.declared.stored.Uetr.{Uetr as StoredUetr}
use Rattle.shape.proofs.ReadBack.{identifier-not-zeros, uetr-not-zeros}
use Rattle.remainder.specs.Remainder.{is_plain, remainder_of}
use Rattle.message.specs.declared.kinds.Shape.TheVariants.{Identifier, Time, Code, System as Listed, Uetr, Amount, GroupStatus}
use Rattle.message.specs.declared.Reply.{Reply}
use Rattle.message.specs.declared.Reply.TheVariants.{Accepts, Declines, Refuses}
use Rattle.message.specs.Good.{is_given, has_shape}
use Rattle.message.specs.Message.{name_of, agent_of, accepted_text, rejected_text, reply_of}

abbrev pub no-identifier : Stored
no-identifier = record { first = 0; second = 0; third = 0; fourth = 0; fifth = 0 }

abbrev pub no-uetr : StoredUetr
no-uetr = record { high = 0; low = 0 }

pub empty_code : code_of [] ≡ None
unfolding code_of code_pattern fits
empty_code = refl

pub empty-time : time_of [] ≡ None
unfolding time_of time_pattern fits
empty-time = refl

pub empty-amount : amount_of [] ≡ None
unfolding amount_of is_amount
empty-amount = refl

pub empty-currency : currency_of [] ≡ None
unfolding currency_of currency_pattern fits
empty-currency = refl

pub empty-identifier : identifier_of [] ≡ no-identifier
unfolding identifier_of is_identifier
empty-identifier = refl

pub empty-uetr : uetr_of [] ≡ no-uetr
unfolding uetr_of is_uetr uetr_pattern fits
empty-uetr = refl

pub empty_name : name_of [] ≡ record { stored = no-identifier; code = None }
unfolding name_of identifier_of is_identifier message_code_of message_pattern fits
empty_name = refl

pub empty-agent : agent_of [] [] ≡ record { system = Neither; code = None }
unfolding agent_of system_of sep_pattern asp_pattern code_of code_pattern fits
empty-agent = refl

pub empty-account : account_of [] ≡ record { digit = 0; code = 0; currency = 0 }
unfolding account_of account_pattern fits
empty-account = refl

pub empty-iban : remainder_of [] ≡ None
unfolding remainder_of is_plain
empty-iban = refl

pub empty-reply : reply_of [] [] ≡ None
unfolding reply_of fits
empty-reply = refl

given : (v : Option ℕ) → is_given v ≡ true → v ≡ None → ⊥
given v e z = false≢true (sym (ap is_given z) ∙ e)

-- a good code, time, amount, identifier, UETR and system is none of these, and a good GrpSts replies whatever TxSts is
pub good-code : (s : List ℕ) → has_shape Code s ≡ true → code_of s ≡ None → ⊥
unfolding has_shape
good-code s e = given (code_of s) e

pub good-time : (s : List ℕ) → has_shape Time s ≡ true → time_of s ≡ None → ⊥
unfolding has_shape
good-time s e = given (time_of s) e

pub good-amount : (s : List ℕ) → has_shape Amount s ≡ true → amount_of s ≡ None → ⊥
unfolding has_shape amount_of
good-amount s e z = given (amount_of s) (rw e) z

pub good-identifier : (s : List ℕ) → has_shape Identifier s ≡ true → identifier_of s ≡ no-identifier → ⊥
unfolding has_shape
good-identifier s e = identifier-not-zeros s e

pub good-uetr : (s : List ℕ) → has_shape Uetr s ≡ true → uetr_of s ≡ no-uetr → ⊥
unfolding has_shape
good-uetr s e = uetr-not-zeros s e

is-listed : System → Bool
is-listed Sep = true
is-listed Asp = true
is-listed Neither = false

pub good-system : (s : List ℕ) → has_shape Listed s ≡ true → system_of s ≡ Neither → ⊥
unfolding has_shape system_of is-listed
good-system s e z = false≢true (sym (ap is-listed z) ∙ told (fits sep_pattern s) (fits asp_pattern s) e)
  where
    told : (t u : Bool) → (t || u) ≡ true → is-listed (cond t Sep (cond u Asp Neither)) ≡ true
    told true u e = refl
    told false true e = refl
    told false false e = e

replies : Option Reply → Bool
replies None = false
replies (Some reply) = true

pub good-reply : (s t : List ℕ) → has_shape GroupStatus s ≡ true → reply_of s t ≡ None → ⊥
unfolding has_shape reply_of replies
good-reply s t e z = false≢true (sym (ap replies z) ∙ told (fits accepted_text s) (fits rejected_text s) e)
  where
    told : (a r : Bool) → (a || r) ≡ true → replies (cond a (Some Accepts) (cond r (Some (cond (eqb (length t) 0) Declines Refuses)) None)) ≡ true
    told true r e = refl
    told false true e = refl
    told false false e = e
