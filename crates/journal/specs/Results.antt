-- How a step ended: what a row of the journal may hold, kind by kind (document 01, "ranges are right" and "The slip", and request 9 of document 02).
-- A row holds what a message can bring about in its kind's order. What may stand on a slip is another table, of `slip`: every row's result may
-- (`proofs/ResultLaws.antt`).
use Rattle.std.specs.Prelude.{Bool, ◌&&◌, ◌||◌, ℕ, eqb, drop}
use Rattle.table.specs.declared.Kind.{Kind}
use Rattle.table.specs.declared.Kind.TheVariants.{Pacs008, Camt050, Pacs028, Pacs002}
use Rattle.table.specs.Checks.{rejecting, order_of, is_in}
use Rattle.slip.specs.declared.Status.{Status}
use Rattle.slip.specs.declared.Status.TheVariants.{Pdng, Accc, Rjct, Waits}
use Rattle.slip.specs.Meaning.{kind_number, status_number}

-- a check that a step of a kind can have failed by: one of its order, but for the first two, which are refusal 12 and make no step
unfoldable pub fails_by : Kind → ℕ → Bool
fails_by kind check = is_in check (drop 2 (order_of kind))

-- an end that is good, with 0, or RJCT with a check of those that can fail
abbrev pub ended : Status → (ℕ → Bool) → ℕ → ℕ → Bool
ended good failing status check =
    (eqb status (status_number good) && eqb check 0)
    || (eqb status (status_number Rjct) && failing check)

-- how a camt.050 or an answer ends: carried out, or by a check of its order
unfoldable pub ends_as : Kind → ℕ → ℕ → Bool
ends_as kind = ended Accc (fails_by kind)

-- how the submit of a pacs.008 ends: it waits, or is rejected by a check of its order
unfoldable pub sent_as : ℕ → ℕ → Bool
sent_as = ended Waits (fails_by Pacs008)

-- what can be told of a pacs.008 that waits no more: it was settled, or rejected by a check of its order or by its answer
unfoldable pub told_as : ℕ → ℕ → Bool
told_as = ended Accc (λ (check : ℕ). fails_by Pacs008 check || is_in check rejecting)

-- the status and the check that a row of a kind may hold; a pacs.028 has PDNG with its own check, else what it tells of the pacs.008
unfoldable pub result_fits : ℕ → ℕ → ℕ → Bool
result_fits kind status check =
    (eqb kind (kind_number Pacs008) && sent_as status check)
    || (eqb kind (kind_number Camt050) && ends_as Camt050 status check)
    || (eqb kind (kind_number Pacs028) && (eqb status (status_number Pdng) && fails_by Pacs028 check || told_as status check))
    || (eqb kind (kind_number Pacs002) && ends_as Pacs002 status check)
