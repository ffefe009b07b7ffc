-- One turn of the loop that works a journal forward: what comes out is what comes out of the steps that are left, and no number is high.
-- Assumes nothing.
use mathlib.Core.Path.{◌≡◌, sym, ap, subst, ◌∙◌}
use mathlib.Core.Bool.{Bool, true, false}
use mathlib.Core.List.{List}
use Prim.Native.Nat.{ℕ, suc, ◌+◌, ◌-◌, ◌≤◌, ◌<◌}
use native.Mathlib.Omega.{arith}
use native.Mathlib.Numerals.{add-one}
use lib.Dec.{leb}
use Rattle.shape.specs.Bytes.{every}
use Rattle.slip.specs.Meaning.{steps}
use Rattle.layout.specs.declared.rows.Head.{Head}
use Rattle.layout.specs.declared.rows.Step.{Step}
use Rattle.layout.specs.Seat.{head_of, step_of}
use Rattle.journal.specs.Steps.{sum_most, step_fits}
use Rattle.journal.specs.Working.{stepped, possible, steps_from, worked}
use Rattle.journal.proofs.Changed.{stepped-head}
use Rattle.journal.proofs.Backed.{possible-fits}
use Rattle.journal.proofs.Grown.{Grown, grown-more}
use Rattle.journal.proofs.WorkedLaws.{work-hit, work-miss, work-end}
use Rattle.seat.specs.Fit.{same, open_seat, comes_out}
use Rattle.seat.proofs.Opened.{opened-head, opened-grown}

-- what holds before each turn
pub record Worked (s : List ℕ) (opening count : ℕ) (sums t : List ℕ) (k : ℕ) : Type 0 where
  pub within : k ≤ count
  pub most : count ≤ steps
  pub grown : Grown k t
  pub counted : (head_of t).steps ≡ k
  pub whole : worked (steps_from s 0 count) (open_seat opening sums) ≡ worked (steps_from s k (count - k)) t

pub works-first : (s : List ℕ) (opening count : ℕ) (sums t : List ℕ) → count ≤ steps
    → every (λ (sum : ℕ). leb sum sum_most) sums ≡ true → t ≡ open_seat opening sums → Worked s opening count sums t 0
works-first s opening count sums t most fit e =
    rw e
    record {
      within = omega arith;
      most = most;
      grown = opened-grown opening sums fit;
      counted = ap (λ (h : Head). h.steps) (opened-head opening sums);
      whole = ap (λ (n : ℕ). worked (steps_from s 0 n) (open_seat opening sums)) (omega arith);
    }

pub works-next : (s : List ℕ) (opening count : ℕ) (sums t u : List ℕ) (k : ℕ) (x : Step) → Worked s opening count sums t k → k < count
    → x ≡ step_of s k → possible x t ≡ true → u ≡ stepped x t → Worked s opening count sums u (k + 1)
works-next s opening count sums t u k x w h read e now =
    let fits : step_fits x ≡ true = possible-fits x t e in
    let places : (head_of t).steps < steps = rw w.counted (omega (arith, w.most)) in
    rw now
    record {
      within = omega arith;
      most = w.most;
      grown = subst (λ (n : ℕ). Grown n (stepped x t)) (sym (add-one k)) (grown-more x k t w.grown fits places);
      counted = ap (λ (g : Head). g.steps) (stepped-head x t w.grown.long fits places) ∙ ap suc w.counted ∙ sym (add-one k);
      whole = w.whole ∙ work-hit s t x k count h read e;
    }

-- the two ways out
pub works-not : (s : List ℕ) (opening count : ℕ) (sums t : List ℕ) (k : ℕ) (x : Step) → Worked s opening count sums t k → k < count
    → x ≡ step_of s k → possible x t ≡ false → false ≡ comes_out s (worked (steps_from s 0 count) (open_seat opening sums))
works-not s opening count sums t k x w h read e = ap (comes_out s) (sym (w.whole ∙ work-miss s t x k count h read e))

pub works-last : (s : List ℕ) (opening count : ℕ) (sums t : List ℕ) (k : ℕ) (b : Bool) → Worked s opening count sums t k → count ≤ k
    → b ≡ same t s → b ≡ comes_out s (worked (steps_from s 0 count) (open_seat opening sums))
works-last s opening count sums t k b w h e = e ∙ ap (comes_out s) (sym (w.whole ∙ work-end s t k count h))
