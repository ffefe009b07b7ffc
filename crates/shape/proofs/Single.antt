-- A contract settles the answer where no second one satisfies it. The law is stated once, over any contract's own reading
-- (`F.Reads.Post`), or over its own clauses (`F.clauses`) where none is made, and each crate's `proofs/Settled.antt` has a line for each
-- of its public functions.
-- Assumes nothing.
use mathlib.Core.Path.{◌≡◌, sym, ◌∙◌}
use Prim.Native.Nat.{ℕ}
use mathlib.Core.List.{List}
use seplogic.Ra.Ura.{Ura}
use base.Logic.{SProp, ent, sep, via, id⊢, fst∗, snd∗}
use prog.Memory.{Memory}
use prog.Routine.{Routine}
use types.Logic.{Logic}
use contract.Lifetimes.{Lfts}
use contract.Monad.{Fun, conj, conj_l, conj_r, fact, fact_i, fact_use}
use denote.Triple.Clauses.{Ended, Clauses, AtExit}
use denote.Triple.Entry.{Args, Res}
use borrow.Fn.Kinds.{ParamKind, ResultKind, Dens, res_t, ended_of, Out}

-- at the same arguments two answers that the contract allows are the same answer
abbrev pub Settled : (n : ℕ) (ps : List (ParamKind n)) (r : ResultKind n) → Out n ps r → Type 0
Settled n ps r Post =
    (κs : Lfts n) (a : Dens κs ps) (x y : (res_t r κs).Denot) (e f : AtExit (ended_of n ps r) κs) → Post κs a x e → Post κs a y f → x ≡ y

-- a contract that is an equation settles it
pub by-equation : {A : Type 0} {x y z : A} → x ≡ z → y ≡ z → x ≡ y
by-equation p q = p ∙ sym q

-- the same where the function was lent what it may change: what stands there at exit is settled too
abbrev pub SettledWith : (n : ℕ) (ps : List (ParamKind n)) (r : ResultKind n) → Out n ps r → (B : Type 0) → ((κs : Lfts n) → AtExit (ended_of n ps r) κs → B) → Type 0
SettledWith n ps r Post B lent =
    (κs : Lfts n) (a : Dens κs ps) (x y : (res_t r κs).Denot) (e f : AtExit (ended_of n ps r) κs)
    → Post κs a x e → Post κs a y f → (x ≡ y) × (lent κs e ≡ lent κs f)

pub by-equations : {A B : Type 0} {x y z : A} {u v w : B} → (x ≡ z) × (u ≡ w) → (y ≡ z) × (v ≡ w) → (x ≡ y) × (u ≡ v)
by-equations p q = (by-equation p.0 q.0, by-equation p.1 q.1)

-- the same where the answer is a part of what was lent: what is shown of it is settled
abbrev pub SettledShown : (n : ℕ) (ps : List (ParamKind n)) (r : ResultKind n) → Out n ps r → (B : Type 0) → ((κs : Lfts n) → (res_t r κs).Denot → B) → Type 0
SettledShown n ps r Post B shown =
    (κs : Lfts n) (a : Dens κs ps) (x y : (res_t r κs).Denot) (e f : AtExit (ended_of n ps r) κs)
    → Post κs a x e → Post κs a y f → shown κs x ≡ shown κs y

-- where no plain reading is made (some proofs are walks of the code by hand), the clauses themselves: assertions, in any model of the logic
abbrev pub ClausesOf : Ended → Type 2
ClausesOf T = (M : Type 1) (𝓤 : Ura M) (𝓛 : Logic 𝓤) → (Memory → SProp 𝓤) → (Routine → Fun 𝓤) → Clauses 𝓤 T

-- the same over them: what they ensure of one answer and of another, at the same arguments, entails that what is seen of the two is the
-- same. Seen is the answer, or the part that it shows, or the answer and what stands at exit in what was lent
abbrev pub SettledWalked : (T : Ended) → ClausesOf T → (B : Type 0)
    → ((κs : Lfts T.signature.lifetimes) → Res T.signature κs → AtExit T κs → B) → Type 2
SettledWalked T clauses B seen =
    (M : Type 1) (𝓤 : Ura M) (𝓛 : Logic 𝓤) (mem : Memory → SProp 𝓤) (run : Routine → Fun 𝓤) (κs : Lfts T.signature.lifetimes)
    (a : Args T.signature κs) (g : (clauses M 𝓤 𝓛 mem run κs a).ghost) (x y : Res T.signature κs) (e f : AtExit T κs)
    → ent 𝓤 (conj 𝓤 ((clauses M 𝓤 𝓛 mem run κs a).ensures g x e) ((clauses M 𝓤 𝓛 mem run κs a).ensures g y f)) (fact 𝓤 (seen κs x e ≡ seen κs y f))

module _ {M : Type 1} (𝓤 : Ura M) where
  -- two assertions side by side say what each of them says
  pub beside : {P Q : SProp 𝓤} {φ ψ : Type 0} → ent 𝓤 P (fact 𝓤 φ) → ent 𝓤 Q (fact 𝓤 ψ) → ent 𝓤 (sep 𝓤 P Q) (fact 𝓤 (φ × ψ))
  beside {P} {Q} {φ} {ψ} p q =
      fact_use 𝓤 φ (via 𝓤 P (fst∗ 𝓤 P Q) p) (λ h. fact_use 𝓤 ψ (via 𝓤 Q (snd∗ 𝓤 P Q) q) (λ k. fact_i 𝓤 (φ × ψ) (sep 𝓤 P Q) (h, k)))

  -- what two assertions say makes a third fact
  pub both_say : {P Q : SProp 𝓤} {φ ψ χ : Type 0} → ent 𝓤 P (fact 𝓤 φ) → ent 𝓤 Q (fact 𝓤 ψ) → (φ → ψ → χ) → ent 𝓤 (conj 𝓤 P Q) (fact 𝓤 χ)
  both_say {P} {Q} {φ} {ψ} {χ} p q makes =
      fact_use 𝓤 φ (via 𝓤 P (conj_l 𝓤 P Q) p) (λ h. fact_use 𝓤 ψ (via 𝓤 Q (conj_r 𝓤 P Q) q) (λ k. fact_i 𝓤 χ (conj 𝓤 P Q) (makes h k)))

  -- contracts of one, two and three `ensures` that are plain facts settle what the facts settle
  pub one-clause : {φ ψ χ : Type 0} → (φ → ψ → χ) → ent 𝓤 (conj 𝓤 (fact 𝓤 φ) (fact 𝓤 ψ)) (fact 𝓤 χ)
  one-clause {φ} {ψ} = both_say (id⊢ 𝓤 (fact 𝓤 φ)) (id⊢ 𝓤 (fact 𝓤 ψ))

  pub two-clauses : {φ φ' ψ ψ' χ : Type 0} → (φ × φ' → ψ × ψ' → χ)
      → ent 𝓤 (conj 𝓤 (sep 𝓤 (fact 𝓤 φ) (fact 𝓤 φ')) (sep 𝓤 (fact 𝓤 ψ) (fact 𝓤 ψ'))) (fact 𝓤 χ)
  two-clauses {φ} {φ'} {ψ} {ψ'} =
      both_say (beside (id⊢ 𝓤 (fact 𝓤 φ)) (id⊢ 𝓤 (fact 𝓤 φ'))) (beside (id⊢ 𝓤 (fact 𝓤 ψ)) (id⊢ 𝓤 (fact 𝓤 ψ')))

  pub three-clauses : {φ φ' φ'' ψ ψ' ψ'' χ : Type 0} → (φ × (φ' × φ'') → ψ × (ψ' × ψ'') → χ)
      → ent 𝓤 (conj 𝓤 (sep 𝓤 (fact 𝓤 φ) (sep 𝓤 (fact 𝓤 φ') (fact 𝓤 φ''))) (sep 𝓤 (fact 𝓤 ψ) (sep 𝓤 (fact 𝓤 ψ') (fact 𝓤 ψ'')))) (fact 𝓤 χ)
  three-clauses {φ} {φ'} {φ''} {ψ} {ψ'} {ψ''} =
      both_say (beside (id⊢ 𝓤 (fact 𝓤 φ)) (beside (id⊢ 𝓤 (fact 𝓤 φ')) (id⊢ 𝓤 (fact 𝓤 φ''))))
      (beside (id⊢ 𝓤 (fact 𝓤 ψ)) (beside (id⊢ 𝓤 (fact 𝓤 ψ')) (id⊢ 𝓤 (fact 𝓤 ψ''))))
