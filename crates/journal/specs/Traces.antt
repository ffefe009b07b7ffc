-- Earlier steps: the first one in a journal that leaves the trace that is looked for, with its place. The checks on repeated identifiers, on the
-- payment that a pacs.028 asks after and on the transfer that a pacs.002 answers (document 01, "The checks", 6, 10, 11 and 17; request 9 of
-- document 02, 35) see a journal through these alone.
use Rattle.std.specs.Prelude.{Bool, true, false, not, ◌&&◌, ◌||◌, cond, List, [], ◌∷◌, ℕ, suc, ltb, eqb, Option, Some, None}
use Rattle.shape.specs.declared.stored.Identifier.{Identifier}
use Rattle.shape.specs.Stored.{same_identifier, same_uetr}
use Rattle.table.specs.declared.Kind.TheVariants.{Pacs008, Camt050}
use Rattle.slip.specs.Meaning.{steps, kind_number}
use Rattle.layout.specs.declared.rows.Step.{Step}
use Rattle.journal.specs.declared.traces.Trace.{Trace}
use Rattle.journal.specs.declared.traces.Trace.TheVariants.{Message, Payment, Transfer, Waiting, Due}
use Rattle.journal.specs.declared.traces.Placed.{Placed}
use Rattle.journal.specs.Steps.{set_kind, is_kind}
use Rattle.journal.specs.Answers.{waits}
use Rattle.journal.specs.Working.{journal_of}

-- the step x at place k waits with this MsgId
unfoldable pub waits_as : Identifier → List ℕ → ℕ → Step → Bool
waits_as id s k x = same_identifier x.id id && waits s k x

-- of the step x at place k: a message of any kind with this MsgId, which a set has not; a pacs.008 with it; a pacs.008 or camt.050 with this UETR.
-- Rejected ones count. And a transfer that waits with this MsgId; one that waits for the answer of this bank
unfoldable pub leaves : Trace → List ℕ → ℕ → Step → Bool
leaves (Message id) s k x = not (is_kind set_kind x) && same_identifier x.id id
leaves (Payment id) s k x = is_kind (kind_number Pacs008) x && same_identifier x.id id
leaves (Transfer uetr) s k x = (is_kind (kind_number Pacs008) x || is_kind (kind_number Camt050) x) && same_uetr x.uetr uetr
leaves (Waiting id) s k x = waits_as id s k x
leaves (Due id receiver) s k x = eqb x.receiver receiver && waits_as id s k x

-- the first step that passes a test is the lowest one; it is given with its place, where the places of these steps are counted from k on
abbrev pub placed : ℕ → Step → Placed
placed place x = record { place = place; step = x }

unfoldable pub first_in : (ℕ → Step → Bool) → ℕ → List Step → Option Placed
first_in test k [] = None
first_in test k (x ∷ xs) = cond (test k x) (Some (placed k x)) (first_in test (suc k) xs)

unfoldable pub earliest : Trace → List ℕ → Option Placed
earliest trace s = first_in (leaves trace s) 0 (journal_of s)

-- a step that is looked for is there
unfoldable pub is_there : Option Placed → Bool
is_there (Some e) = true
is_there None = false

-- what became of a pacs.008 with this MsgId is known: there is one, and none of them waits
unfoldable pub is_known : Identifier → List ℕ → Bool
is_known id s = is_there (earliest (Payment id) s) && not (is_there (earliest (Waiting id) s))

-- what was found stands at a place that a journal has
abbrev pub place_fits : Option Placed → Bool
place_fits (Some e) = ltb e.place steps
place_fits None = true
