-- The rule between the GrpSts and the TxSts of a pacs.002, by what is found of both.
-- Assumes nothing.
use mathlib.Core.Path.{◌≡◌, refl, ap, ◌∙◌}
use mathlib.Core.Bool.{Bool, true, false, not, ◌&&◌, cond}
use mathlib.Core.List.{List}
use Prim.Native.Nat.{ℕ, ◌-◌, ◌≤◌, ◌<◌}
use native.Mathlib.Omega.{arith}
use lib.Dec.{eqb}
use lib.ListN.{length}
use borrow.Author.Tests.{ne_eqb}
use Rattle.shape.specs.Patterns.{fits}
use Rattle.outline.specs.Rows.{ccy_at, inside_at, text_at}
use Rattle.table.specs.declared.Kind.TheVariants.{Pacs002}
use Rattle.message.specs.declared.kinds.Numbers.{Numbers}
use Rattle.message.specs.Fields.{pacs002_fields, pacs002_numbers, fields_of, numbers_of}
use Rattle.message.specs.Held.{Held, missing, once, doubled, stands}
use Rattle.message.specs.Good.{goes_with}
use Rattle.message.specs.Message.{text_in, numbered, accepted_text}
use Rattle.message.specs.Seen.{held_at}

-- something stands where something is counted
pub counted-stands : (s : List ℕ) (count start : ℕ) → stands (held_at s count start) ≡ not (eqb count 0)
unfolding held_at stands
counted-stands s count start = go (eqb count 0) (eqb count 1)
  where
    go : (t u : Bool) → stands (cond t missing (cond u (once (ccy_at s start) (inside_at s start) (text_at s start)) doubled)) ≡ not t
    go true u = refl
    go false true = refl
    go false false = refl

module _ (n : Numbers) (told : n ≡ numbers_of Pacs002) where
  -- the numbers of both, and that they are numbers of fields
  transaction-number : n.transaction ≡ pacs002_numbers.transaction
  unfolding numbers_of
  transaction-number = ap (λ (m : Numbers). m.transaction) told

  group-number : n.group ≡ pacs002_numbers.group
  unfolding numbers_of
  group-number = ap (λ (m : Numbers). m.group) told

  pub group-listed : (1 ≤ n.group) × (n.group - 1 < length (fields_of Pacs002))
  unfolding fields_of pacs002_fields
  group-listed = (omega (arith, group-number), omega (arith, group-number))

  pub transaction-listed : (1 ≤ n.transaction) × (n.transaction - 1 < length (fields_of Pacs002))
  unfolding fields_of pacs002_fields
  transaction-listed = (omega (arith, transaction-number), omega (arith, transaction-number))

  module _ (held : List Held) (number : ℕ) where
    -- the rule is one of TxSts alone
    pub goes-otherwise : (number ≡ n.transaction → ⊥) → true ≡ goes_with Pacs002 number held
    unfolding goes_with
    goes-otherwise other = rw (← transaction-number, ne_eqb number n.transaction other)

    -- and lets it go with any GrpSts where it does not stand, and with any but ACCP where it does
    beside : not (stands (numbered held pacs002_numbers.transaction) && fits accepted_text (text_in (numbered held pacs002_numbers.group)))
        ≡ goes_with Pacs002 pacs002_numbers.transaction held
    unfolding goes_with
    beside = refl

    pub goes-beside : number ≡ n.transaction → (own group : Held) → own ≡ numbered held number → group ≡ numbered held n.group
        → (t r : Bool) → t ≡ stands own → r ≡ fits accepted_text (text_in group) → not (t && r) ≡ goes_with Pacs002 number held
    goes-beside this own group o g t r e f =
        let same : number ≡ pacs002_numbers.transaction = this ∙ transaction-number in
        let own-is : own ≡ numbered held pacs002_numbers.transaction = o ∙ ap (numbered held) same in
        let group-is : group ≡ numbered held pacs002_numbers.group = g ∙ ap (numbered held) group-number in
        rw (e, f, own-is, group-is, same) beside
