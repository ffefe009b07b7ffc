-- A refusal is for good: whatever follows the byte that was refused, the sheet is refused there. So no well-formed sheet begins so.
-- Assumes nothing.
use Rattle.std.specs.Prelude.{Option, Some, None}
use mathlib.Core.Path.{◌≡◌, refl, sym, ◌∙◌}
use mathlib.Core.List.{List, [], ◌∷◌, ◌++◌}
use Prim.Native.Nat.{ℕ, zero, suc, ◌+◌, ◌≤◌, ◌<◌}
use native.Mathlib.Omega.{arith}
use native.Mathlib.Nat.{le_of_suc-le-suc}
use lib.ListN.{length, take}
use Rattle.sheet.specs.Grammar.{WellFormed, Viable, count_of, starts_from, depths_from, placed}
use Rattle.sheet.specs.Machine.{Mode, outer, begun, naming, attribute, tagged, texting, ending, between, turning, whole, State, step}
use Rattle.sheet.specs.Answer.{Reading, accepted, refused, ends, run, start}
use Rattle.sheet.proofs.Acceptance.Accepts.{accepts-well-formed}

-- what a step's outcome makes of the bytes behind it
abbrev pub goes_on : Option State → ℕ → List ℕ → Reading
goes_on None i s = refused i
goes_on (Some next) i s = run next (suc i) s

pub run-steps : (st : State) (i b : ℕ) (s : List ℕ) → run st i (b ∷ s) ≡ goes_on (step st st.mode i b) i s
unfolding run
run-steps st i b s = same (step st st.mode i b)
  where
    same : (o : Option State) → (elim o as (λ x. Reading) [ None ↦ refused i | Some next ↦ run next (suc i) s ]) ≡ goes_on o i s
    same None = refl
    same (Some next) = refl

-- a reading is not both
pub not-both : (r : Reading) (n k : ℕ) (starts depths : List ℕ) → r ≡ accepted n starts depths → r ≡ refused k → ⊥
not-both r n k starts depths a e = let z : ◌≡◌ {A = ℕ} 0 1 = cc in omega arith

-- a sheet that is refused at its end is refused at the place where it ends
pub ends_there : (st : State) (m : Mode) (i k : ℕ) → ends st m i ≡ refused k → k ≡ i
ends_there st whole i k e = let z : ◌≡◌ {A = ℕ} 0 1 = cc in absurd (omega arith)
ends_there st outer i k e = cc
ends_there st begun i k e = cc
ends_there st (naming n) i k e = cc
ends_there st (attribute r) i k e = cc
ends_there st (tagged ccy) i k e = cc
ends_there st (texting n) i k e = cc
ends_there st (ending r) i k e = cc
ends_there st between i k e = cc
ends_there st turning i k e = cc

-- a sheet that is accepted at its end ends in the last mode
pub accepted-ends-whole : (st : State) (m : Mode) (i n : ℕ) (ss ds : List ℕ) → ends st m i ≡ accepted n ss ds → m ≡ whole
accepted-ends-whole st whole i n ss ds e = refl
accepted-ends-whole st outer i n ss ds e = absurd (not-both (refused i) n i ss ds e refl)
accepted-ends-whole st begun i n ss ds e = absurd (not-both (refused i) n i ss ds e refl)
accepted-ends-whole st (naming w) i n ss ds e = absurd (not-both (refused i) n i ss ds e refl)
accepted-ends-whole st (attribute r) i n ss ds e = absurd (not-both (refused i) n i ss ds e refl)
accepted-ends-whole st (tagged ccy) i n ss ds e = absurd (not-both (refused i) n i ss ds e refl)
accepted-ends-whole st (texting k) i n ss ds e = absurd (not-both (refused i) n i ss ds e refl)
accepted-ends-whole st (ending r) i n ss ds e = absurd (not-both (refused i) n i ss ds e refl)
accepted-ends-whole st between i n ss ds e = absurd (not-both (refused i) n i ss ds e refl)
accepted-ends-whole st turning i n ss ds e = absurd (not-both (refused i) n i ss ds e refl)

-- a refusal stands at the place that is read, or behind it
ahead_of : (o : Option State) (s : List ℕ) (i k : ℕ) → ((next : State) → run next (suc i) s ≡ refused k → suc i ≤ k)
    → goes_on o i s ≡ refused k → i ≤ k
ahead_of None s i k more e = let h : k ≡ i = cc in omega arith
ahead_of (Some next) s i k more e = let h = more next e in omega arith

refusal-ahead : (s : List ℕ) (st : State) (i k : ℕ) → run st i s ≡ refused k → i ≤ k
unfolding run
refusal-ahead [] st i k e = let h = ends_there st st.mode i k e in omega arith
refusal-ahead (b ∷ s) st i k e =
    ahead_of (step st st.mode i b) s i k (λ next f. refusal-ahead s next (suc i) k f) (sym (run-steps st i b s) ∙ e)

-- once more bytes are read than stand before a refusal, what follows them makes no difference
same_of : (o : Option State) (s t : List ℕ) (i k : ℕ) → ((next : State) → run next (suc i) s ≡ refused k → run next (suc i) t ≡ refused k)
    → goes_on o i s ≡ refused k → goes_on o i t ≡ refused k
same_of None s t i k more e = e
same_of (Some next) s t i k more e = more next e

pub refused-whatever-follows : (j : ℕ) (s rest : List ℕ) (st : State) (i k : ℕ) → j ≤ length s → k < i + j
    → run st i s ≡ refused k → run st i (take j s ++ rest) ≡ refused k
refused-whatever-follows zero s rest st i k l h e = let a = refusal-ahead s st i k e in absurd (omega arith)
refused-whatever-follows (suc j) [] rest st i k l h e = absurd (omega arith)
refused-whatever-follows (suc j) (b ∷ s) rest st i k l h e =
    run-steps st i b (take j s ++ rest)
    ∙ same_of (step st st.mode i b) s (take j s ++ rest) i k
    (λ next f. refused-whatever-follows j s rest next (suc i) k (le_of_suc-le-suc l) (omega arith) f)
    (sym (run-steps st i b s) ∙ e)

-- a sheet that is refused is not well formed, since well-formed sheets are accepted
not-well-formed : (s : List ℕ) (k : ℕ) → run start 0 s ≡ refused k → WellFormed s → ⊥
not-well-formed s k e w =
    not-both (run start 0 s) (count_of w.tree) k (placed (starts_from w.tree 0)) (placed (depths_from w.tree 1))
    (accepts-well-formed s w) e

-- nor does a well-formed sheet begin with its bytes up to and with the one that was refused
pub refuses : (s : List ℕ) (k : ℕ) → run start 0 s ≡ refused k
    → (WellFormed s → ⊥) × ((j : ℕ) → k < j → j ≤ length s → Viable (take j s) → ⊥)
refuses s k e = (
  not-well-formed s k e,
  λ j h l v. not-well-formed (take j s ++ v.rest) k (refused-whatever-follows j s v.rest start 0 k l (omega arith) e) v.whole,
)
