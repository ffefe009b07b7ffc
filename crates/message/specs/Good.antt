-- When a field is good, and the lowest number of one that is not: document 01, "Fields" and refusal 8.
-- A field is bad where it is missing and may not be, where its path stands more than once, and where it is ill-shaped: it holds elements, it
-- has a Ccy and is no amount or has none and is one, or its text is not of its shape.
use Rattle.std.specs.Prelude.{Bool, true, false, not, ◌&&◌, ◌||◌, cond, List, [], ◌∷◌, ℕ, suc, eqb, Option, Some, None}
use Rattle.shape.specs.Text.{bytes}
use Rattle.shape.specs.Patterns.{fits, sep_pattern, asp_pattern, account_pattern}
use Rattle.shape.specs.Dates.{time_of}
use Rattle.shape.specs.Fields.{code_of, is_amount, is_iban, is_identifier, names_pacs008}
use Rattle.shape.specs.Stored.{is_uetr}
use Rattle.outline.specs.Paths.{characters_of}
use Rattle.table.specs.declared.Kind.{Kind}
use Rattle.table.specs.declared.Kind.TheVariants.{Pacs008, Camt050, Pacs028, Pacs002}
use Rattle.message.specs.declared.kinds.Shape.{Shape}
use Rattle.message.specs.declared.kinds.Shape.TheVariants.{
  Identifier,
  Time,
  Code,
  System,
  Uetr,
  Amount,
  Iban,
  Account,
  Original,
  GroupStatus,
  TransactionStatus,
}
use Rattle.message.specs.declared.kinds.Ccy.{Ccy}
use Rattle.message.specs.declared.kinds.Ccy.TheVariants.{Absent, Any, Hryvnia}
use Rattle.message.specs.Fields.{Field, fields_of, pacs002_numbers}
use Rattle.message.specs.Held.{Held, missing, once, doubled, stands}
use Rattle.message.specs.Message.{text_in, numbered, accepted_text, rejected_text}

-- a value is given
abbrev pub is_given : Option ℕ → Bool
is_given (Some n) = true
is_given None = false

-- the characters have the shape
unfoldable pub has_shape : Shape → List ℕ → Bool
has_shape Identifier s = is_identifier s
has_shape Time s = is_given (time_of s)
has_shape Code s = is_given (code_of s)
has_shape System s = fits sep_pattern s || fits asp_pattern s
has_shape Uetr s = is_uetr s
has_shape Amount s = is_amount s
has_shape Iban s = is_iban s
has_shape Account s = fits account_pattern s
has_shape Original s = names_pacs008 s
has_shape GroupStatus s = fits accepted_text s || fits rejected_text s
has_shape TransactionStatus s = fits rejected_text s

-- a Ccy on amounts alone; in pacs.008 that of the hryvnia
unfoldable pub ccy_fits : Ccy → Option (List ℕ) → Bool
ccy_fits Absent None = true
ccy_fits Absent (Some ccy) = false
ccy_fits Any None = false
ccy_fits Any (Some ccy) = true
ccy_fits Hryvnia None = false
ccy_fits Hryvnia (Some ccy) = fits (bytes "UAH") ccy

-- an element without a text holds elements
unfoldable pub text_fits : Shape → Option (List ℕ) → Bool
text_fits shape None = false
text_fits shape (Some text) = has_shape shape (characters_of text)

unfoldable pub is_good : Bool → Shape → Ccy → Held → Bool
is_good optional shape ccy missing = optional
is_good optional shape ccy (once given inside text) = ccy_fits ccy given && text_fits shape text
is_good optional shape ccy doubled = false

-- a rule between two fields of a kind, by the number of the later one: whether what it holds goes with what the others hold. Every field of
-- document 01's kinds is judged by itself; in a pacs.002 a TxSts that stands does not go with the GrpSts ACCP, whatever its text
unfoldable pub goes_with : Kind → ℕ → List Held → Bool
goes_with Pacs008 number held = true
goes_with Camt050 number held = true
goes_with Pacs028 number held = true
goes_with Pacs002 number held =
    not (eqb number pacs002_numbers.transaction
    && (stands (numbered held pacs002_numbers.transaction) && fits accepted_text (text_in (numbered held pacs002_numbers.group))))

-- the number of the first field that is not good or does not go with the others, where the fields are numbered from k on and hold this; 0 where
-- there is none
unfoldable pub first_bad : (ℕ → Bool) → ℕ → List Field → List Held → ℕ
first_bad goes k [] held = 0
first_bad goes k (f ∷ fields) [] = 0
first_bad goes k (f ∷ fields) (h ∷ held) =
    cond (is_good f.optional f.shape f.ccy h && goes k) (first_bad goes (suc k) fields held) k

-- the lowest number of a bad field of a kind whose fields hold this
abbrev pub lowest_bad : Kind → List Held → ℕ
lowest_bad kind held = first_bad (λ (number : ℕ). goes_with kind number held) 1 (fields_of kind) held
