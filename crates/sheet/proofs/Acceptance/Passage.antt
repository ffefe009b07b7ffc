-- A passage of the sheet takes the machine from one state to another, whatever stands behind it. Passages are put together here.
-- Assumes nothing.
use Rattle.std.specs.Prelude.{Some}
use mathlib.Core.Path.{◌≡◌, subst, ◌∙◌}
use mathlib.Core.List.{List, [], ◌∷◌, ◌++◌, append_assoc}
use Prim.Native.Nat.{ℕ, suc, ◌+◌}
use native.Mathlib.Nat.{add-zero, add-suc, suc-add, add_assoc}
use lib.ListN.{length, length-append}
use Rattle.sheet.specs.Machine.{State, step}
use Rattle.sheet.specs.Answer.{run}

-- the passage w, from place i on, takes the machine from st to next
pub record Reads (st : State) (i : ℕ) (w : List ℕ) (next : State) : Type 0 where
  pub on : (rest : List ℕ) → run st i (w ++ rest) ≡ run next (i + length w) rest

-- one byte that the machine accepts
pub run-byte : (st next : State) (i b : ℕ) (s : List ℕ) → step st st.mode i b ≡ Some next → run st i (b ∷ s) ≡ run next (suc i) s
unfolding run
run-byte st next i b s e = rw (e, run)

-- the empty passage
pub nothing_read : (st : State) (i : ℕ) → Reads st i [] st
nothing_read st i = record { on = λ rest. rw add-zero }

-- a byte, and then the rest of the passage
pub byte-then : {st mid next : State} {i b : ℕ} {w : List ℕ} → step st st.mode i b ≡ Some mid → Reads mid (suc i) w next → Reads st i (b ∷ w) next
byte-then {st} {mid} {next} {i} {b} {w} e r = record { on = λ rest. run-byte st mid i b (w ++ rest) e ∙ r.on rest ∙ rw (suc-add, add-suc) }

-- one passage, and then another
pub passage-then : {st mid next : State} {i : ℕ} {w v : List ℕ} → Reads st i w mid → Reads mid (i + length w) v next → Reads st i (w ++ v) next
passage-then {st} {mid} {next} {i} {w} {v} r q =
    record { on = λ rest. rw (append_assoc w v rest) (r.on (v ++ rest)) ∙ q.on rest ∙ rw (length-append w v, add_assoc i (length w) (length v)) }

-- the same passage by other words: its place and the state behind it as equal ones
pub same-passage : {st next last : State} {i j : ℕ} {w : List ℕ} → Reads st i w next → i ≡ j → next ≡ last → Reads st j w last
same-passage {st} {next} {last} {i} {j} {w} r e q = subst (λ (k : ℕ). Reads st k w last) e (subst (λ (s : State). Reads st i w s) q r)
