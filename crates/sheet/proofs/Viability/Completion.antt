-- What was read before a refusal can be completed: the machine finishes the sheet from where it stands, and what it has then read is a good tree.
-- And what the machine accepts is well formed.
-- Assumes nothing.
use Rattle.std.specs.Prelude.{Option, Some, None}
use mathlib.Core.Path.{◌≡◌, refl, sym, ◌∙◌}
use mathlib.Core.List.{List, [], ◌∷◌, ◌++◌, append-nil, append_assoc}
use Prim.Native.Nat.{ℕ, suc, ◌+◌, ◌≤◌}
use native.Mathlib.Omega.{arith}
use lib.Dec.{lit<}
use lib.ListN.{length, take, length-append}
use lib.Seq.{take-append_seam}
use Rattle.sheet.specs.Grammar.{WellFormed, Viable}
use Rattle.sheet.specs.Machine.{whole, State, step}
use Rattle.sheet.specs.Answer.{accepted, refused, run, start}
use Rattle.sheet.proofs.Viability.Written.{nowhere, Holds, at-outer, at-whole, Leads}
use Rattle.sheet.proofs.Viability.Finish.{Finishes, there, byte, finishes}
use Rattle.sheet.proofs.Viability.Steps.{Kept, keeps}
use Rattle.sheet.proofs.Viability.Refusal.{goes_on, run-steps, not-both, ends_there, accepted-ends-whole}

step_keeps : (p : List ℕ) (st : State) (i b : ℕ) → Leads p st → Kept (p ++ (b ∷ [])) (step st st.mode i b)
step_keeps p st i b h = keeps st.starts st.depths i b h

-- in the last mode the bytes are a good tree's
whole-is-well-formed : {p : List ℕ} {ns : List (List ℕ)} {c : ℕ} → Holds whole p ns c → WellFormed p
whole-is-well-formed (at-whole w) = w

one-byte-less : (p : List ℕ) (b : ℕ) → Viable (p ++ (b ∷ [])) → Viable p
one-byte-less p b v = record { rest = b ∷ v.rest; whole = rw (append_assoc p (b ∷ []) v.rest) at v.whole }

-- bytes from which the machine finishes are viable
finished-is-viable : {st : State} {i : ℕ} (p : List ℕ) → Finishes st i → Leads p st → Viable p
finished-is-viable {st} p (there e) h = record { rest = []; whole = rw append-nil (whole-is-well-formed (rw e at h)) }
finished-is-viable {st} {i} p (byte {next} b e f) h = one-byte-less p b (finished-is-viable (p ++ (b ∷ [])) f (step_keeps p st i b h next e))

pub leads-to-viable : (p : List ℕ) (st : State) → Leads p st → Viable p
leads-to-viable p st h = finished-is-viable p (finishes h st.starts st.depths 0) h

-- where the bytes p lead to a state, and the machine goes on from it to a refusal at k, the first k bytes are viable
abbrev Stops : List ℕ → List ℕ → ℕ → Type 0
Stops p s k = (k ≤ length p + length s) × Viable (take k (p ++ s))

stops-here : (p s : List ℕ) (k : ℕ) → k ≡ length p → Viable p → Stops p s k
stops-here p s k e v = rw (e, take-append_seam) (omega arith, v)

stops-later : (p s : List ℕ) (b k : ℕ) → Stops (p ++ (b ∷ [])) s k → Stops p (b ∷ s) k
stops-later p s b k h =
    let size : length (p ++ (b ∷ [])) ≡ length p + 1 = length-append p (b ∷ []) in
    (omega arith, rw (append_assoc p (b ∷ []) s) at h.1)

stops-of : (o : Option State) (p s : List ℕ) (b i k : ℕ) → length p ≡ i → Viable p
    → ((next : State) → o ≡ Some next → run next (suc i) s ≡ refused k → Stops (p ++ (b ∷ [])) s k)
    → goes_on o i s ≡ refused k → Stops p (b ∷ s) k
stops-of None p s b i k n v more e = stops-here p (b ∷ s) k (cc) v
stops-of (Some next) p s b i k n v more e = stops-later p s b k (more next refl e)

stops : (s p : List ℕ) (st : State) (i k : ℕ) → length p ≡ i → Leads p st → run st i s ≡ refused k → Stops p s k
unfolding run
stops [] p st i k n h e = stops-here p [] k (ends_there st st.mode i k e ∙ sym n) (leads-to-viable p st h)
stops (b ∷ s) p st i k n h e =
    stops-of (step st st.mode i b) p s b i k n (leads-to-viable p st h)
    (λ next f r. stops s (p ++ (b ∷ [])) next (suc i) k (rw length-append (omega arith)) (step_keeps p st i b h next f) r)
    (sym (run-steps st i b s) ∙ e)

-- what holds at the start, before a byte is read
at-start : Leads [] start
at-start = at-outer (record { place = nowhere; few = lit< tt; shallow = lit< tt })

-- what was read before a refusal can be completed to a well-formed sheet
pub completes : (s : List ℕ) (k : ℕ) → run start 0 s ≡ refused k → (k ≤ length s) × Viable (take k s)
completes s k e =
    let stop = stops s [] start 0 k refl at-start e in
    (omega arith, stop.1)

-- where the bytes p lead to a state, and the machine goes on from it to the end, all of them are well formed
formed-of : (o : Option State) (p s : List ℕ) (b i n : ℕ) (ss ds : List ℕ)
    → ((next : State) → o ≡ Some next → run next (suc i) s ≡ accepted n ss ds → WellFormed ((p ++ (b ∷ [])) ++ s))
    → goes_on o i s ≡ accepted n ss ds → WellFormed (p ++ (b ∷ s))
formed-of None p s b i n ss ds more e = absurd (not-both (refused i) n i ss ds e refl)
formed-of (Some next) p s b i n ss ds more e = rw (append_assoc p (b ∷ []) s) at (more next refl e)

formed : (s p : List ℕ) (st : State) (i n : ℕ) (ss ds : List ℕ) → Leads p st → run st i s ≡ accepted n ss ds → WellFormed (p ++ s)
unfolding run
formed [] p st i n ss ds h e = rw append-nil (whole-is-well-formed (rw (accepted-ends-whole st st.mode i n ss ds e) at h))
formed (b ∷ s) p st i n ss ds h e =
    formed-of (step st st.mode i b) p s b i n ss ds
    (λ next f r. formed s (p ++ (b ∷ [])) next (suc i) n ss ds (step_keeps p st i b h next f) r)
    (sym (run-steps st i b s) ∙ e)

-- what the machine accepts is well formed
pub accepted-well-formed : (s : List ℕ) (n : ℕ) (ss ds : List ℕ) → run start 0 s ≡ accepted n ss ds → WellFormed s
accepted-well-formed s n ss ds e = formed s [] start 0 n ss ds at-start e
