-- A message of a known kind as it is judged: refused by its first bad field, or the message that the parts of the sheet make.
-- Assumes nothing.
use Rattle.std.specs.Prelude.{ℕ, Option, Some, None, Ok}
use mathlib.Core.Path.{◌≡◌, refl, sym, ap, ◌∙◌}
use mathlib.Core.Bool.{Bool, true, false, cond, false≢true}
use mathlib.Core.List.{List, map}
use Prim.Native.Nat.{◌+◌, ◌-◌, ◌≤◌}
use native.Mathlib.Omega.{arith}
use lib.Dec.{eqb}
use lib.ListN.{length, replicate, length-append, length-replicate}
use borrow.Author.Tests.{eq-eqb, ne_eqb}
use Rattle.std.proofs.lemmas.Bool.{eqb-true}
use Rattle.shape.specs.Fields.{currency_of}
use Rattle.table.specs.declared.Kind.{Kind}
use Rattle.message.specs.declared.Refusal.TheVariants.{BadField}
use Rattle.message.specs.declared.found.Spot.{Spot}
use Rattle.message.specs.declared.Message.{Message}
use Rattle.message.specs.declared.Received.{Received}
use Rattle.message.specs.Fields.{Field, fields_of, fields_most, numbers_of}
use Rattle.message.specs.Good.{is_given, lowest_bad}
use Rattle.message.specs.Message.{ccy_in, spot_in, numbered, message_from, message_of}
use Rattle.message.specs.Received.{no_spot, by_number, refusal, received_in, shown_in}
use Rattle.message.specs.Seen.{held_seen, bad_number}
use Rattle.message.proofs.Turns.{seen_at}
use Rattle.message.proofs.Stands.{Stands, seen_stands, all-stand, message-shown}

-- an array by number has a place for each number
pub numbers_fit : (at spots : List Spot) → at ≡ by_number spots → fields_most + 1 ≤ length at
numbers_fit at spots e =
    let left = fields_most - length spots in
    rw e (omega (arith, length-append spots (replicate left no_spot), length-replicate left no_spot))

-- what the number of the first bad field says
abbrev number_in : ℕ → Option ℕ → ℕ
number_in n (Some number) = number
number_in n None = n

some_bad : (n number : ℕ) → bad_number n ≡ Some number → (n ≡ 0 → ⊥) × (n ≡ number)
some_bad n number e = go (eqb n 0) refl e
  where
    go : (t : Bool) → eqb n 0 ≡ t → cond t None (Some n) ≡ Some number → (n ≡ 0 → ⊥) × (n ≡ number)
    go true f g = absurd (false≢true (ap is_given g))
    go false f g = (λ z. false≢true (sym f ∙ eq-eqb n 0 z), ap (number_in n) g)

none_bad : (n : ℕ) → bad_number n ≡ None → n ≡ 0
none_bad n e = go (eqb n 0) refl e
  where
    go : (t : Bool) → eqb n 0 ≡ t → cond t None (Some n) ≡ None → n ≡ 0
    go true f g = eqb-true n 0 f
    go false f g = absurd (false≢true (sym (ap is_given g)))

module _ (s : List ℕ) (kind : Kind) (counts starts : List ℕ) where
  each_seen : (k : ℕ) → Stands s (numbered (held_seen s kind counts starts) k)
  unfolding held_seen
  each_seen k = all-stand s (seen_at s counts starts) (λ (f : Field). seen_stands s _ _) (fields_of kind) k

  module _ (bad : Option ℕ) (first : bad ≡ bad_number (lowest_bad kind (held_seen s kind counts starts))) where
    pub judged-bad : (number : ℕ) → bad ≡ Some number → refusal (BadField number) ≡ received_in kind (held_seen s kind counts starts)
    unfolding received_in
    judged-bad number e =
        let told = some_bad (lowest_bad kind (held_seen s kind counts starts)) number (sym first ∙ e) in
        rw (ne_eqb (lowest_bad kind (held_seen s kind counts starts)) 0 told.0, told.1)

    pub judged-good : bad ≡ None → (spots : List Spot) (paid : Option ℕ) (message : Message)
        → spots ≡ by_number (map spot_in (held_seen s kind counts starts))
        → paid ≡ currency_of (ccy_in (numbered (held_seen s kind counts starts) (numbers_of kind).amount))
        → message ≡ message_from kind (shown_in s spots) paid
        → ◌≡◌ {A = Received} (record { answer = Ok message; spots = spots }) (received_in kind (held_seen s kind counts starts))
    unfolding received_in message_of
    judged-good e spots paid message a p m =
        let z = none_bad (lowest_bad kind (held_seen s kind counts starts)) (sym first ∙ e) in
        let whole = message-shown s (held_seen s kind counts starts) each_seen kind paid in
        rw (eq-eqb (lowest_bad kind (held_seen s kind counts starts)) 0 z, m, a, whole, p)
