-- What the field with a number holds: it stands one place before its number in the list, and past the list's end there is nothing.
-- Assumes nothing.
use mathlib.Core.Path.{◌≡◌, refl, sym, ◌∙◌}
use mathlib.Core.List.{List}
use Prim.Native.Nat.{ℕ, zero, suc, ◌-◌, ◌≤◌, ◌<◌}
use native.Mathlib.Omega.{arith}
use lib.ListN.{length, get_or, get_or-eq_default}
use Rattle.table.specs.declared.Kind.{Kind}
use Rattle.message.specs.declared.kinds.Entry.{Entry}
use Rattle.message.specs.Fields.{no_field, fields_of}
use Rattle.message.specs.Held.{Held, missing}
use Rattle.message.specs.Message.{numbered}
use Rattle.message.specs.Seen.{entry_of, held_at, held_seen}
use Rattle.message.proofs.Filled.{held-count, held-here}

numbered-at : (held : List Held) (number : ℕ) → (number ≡ 0 → ⊥) → numbered held number ≡ get_or held (number - 1) missing
numbered-at held zero h = absurd (h refl)
numbered-at held (suc k) h = let e : suc k - 1 ≡ k = omega arith in rw e

module _ (s : List ℕ) (kind : Kind) (counts starts : List ℕ) (number : ℕ) (some : number ≡ 0 → ⊥) where
  pub numbered-here : (e : Entry) → e ≡ entry_of (get_or (fields_of kind) (number - 1) no_field) → number - 1 < length (fields_of kind)
      → held_at s (get_or counts e.node 0) (get_or starts e.node 0) ≡ numbered (held_seen s kind counts starts) number
  numbered-here e here h =
      held-here s kind counts starts (number - 1) e here h ∙ sym (numbered-at (held_seen s kind counts starts) number some)

  pub numbered-nowhere : length (fields_of kind) ≤ number - 1 → missing ≡ numbered (held_seen s kind counts starts) number
  numbered-nowhere h =
      let past : length (held_seen s kind counts starts) ≤ number - 1 = omega (arith, held-count s kind counts starts) in
      rw (numbered-at (held_seen s kind counts starts) number some, get_or-eq_default (held_seen s kind counts starts) missing past)
