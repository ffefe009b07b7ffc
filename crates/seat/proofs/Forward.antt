-- Working forward: a seat that was opened and then worked has the journal, the opening number and the opening sums that it was worked
-- from, so a fit seat stays fit by one step more and by its last step taken back.
-- Assumes nothing.
use Rattle.std.specs.Prelude.{Option, Some, None}
use mathlib.Core.Path.{◌≡◌, refl, sym, ap, subst, ◌∙◌}
use mathlib.Core.Bool.{Bool, true, ◌&&◌, false≢true}
use mathlib.Core.List.{List, [], ◌∷◌, ◌++◌}
use Prim.Native.Nat.{ℕ, ◌+◌, ◌-◌, ◌≤◌, ◌<◌}
use native.Mathlib.Omega.{arith}
use lib.Dec.{leb, eqb}
use lib.ListN.{length, length-append}
use borrow.Author.Tests.{leb-true, le-leb, eqb-true, eq-eqb}
use Rattle.shape.specs.Bytes.{every}
use Rattle.shape.proofs.Tests.{and_left, and_right}
use Rattle.slip.specs.Meaning.{openings, steps}
use Rattle.layout.specs.declared.rows.Head.{Head}
use Rattle.layout.specs.declared.rows.Step.{Step}
use Rattle.layout.specs.Parts.{part}
use Rattle.layout.specs.Rows.{head_row, head_in}
use Rattle.layout.specs.Seat.{accounts, seat_long, head_of, step_of}
use Rattle.journal.specs.Steps.{sum_most, no_step}
use Rattle.journal.specs.Working.{stepped, backed, possible, steps_from, journal_of, worked}
use Rattle.journal.specs.Low.{Low}
use Rattle.journal.proofs.Backed.{back-restores}
use Rattle.journal.proofs.Grown.{Grown, grown-low}
use Rattle.journal.proofs.WorkedLaws.{worked-none, worked-more, Last, worked-last, steps-length, Reached, reached, journal-long, journal-last}
use Rattle.seat.specs.Fit.{same, closed_seat, open_seat, sums_of, comes_out, open_fits, closed_fits}
use Rattle.seat.proofs.Opened.{
  opened-head,
  opened-length,
  opened-step,
  sums-length,
  same-sums,
  opened-sums,
  opened-padded,
  opened-most,
  opened-grown,
}

-- numbers that are the same by the test are the same, and the other way
pub same_true : (s t : List ℕ) → same s t ≡ true → s ≡ t
unfolding same
same_true [] [] e = refl
same_true [] (b ∷ t) e = absurd (false≢true e)
same_true (a ∷ s) [] e = absurd (false≢true e)
same_true (a ∷ s) (b ∷ t) e =
    let here : a ≡ b = eqb-true a b (and_left (eqb a b) (same s t) e) in
    let rest : s ≡ t = same_true s t (and_right (eqb a b) (same s t) e) in
    cc

pub same-itself : (s : List ℕ) → same s s ≡ true
unfolding same
same-itself [] = refl
same-itself (a ∷ s) = rw (eq-eqb a a refl, same-itself s)

-- a seat that was opened and worked: its count, opening number, journal and opening sums are those that it was worked from
module _ (opening : ℕ) (sums : List ℕ) (xs : List Step) (t : List ℕ) (few : length xs ≤ steps)
    (w : worked xs (open_seat opening sums) ≡ Some t) where
  nothing_yet : (head_of (open_seat opening sums)).steps ≡ 0
  nothing_yet = ap (λ (h : Head). h.steps) (opened-head opening sums)

  pub made : Reached xs (open_seat opening sums) t
  made =
      let zero-yet : (head_of (open_seat opening sums)).steps ≡ 0 = nothing_yet in
      reached xs (open_seat opening sums) t (opened-length opening sums) (omega arith) w

  pub made-count : (head_of t).steps ≡ length xs
  made-count =
      let zero-yet : (head_of (open_seat opening sums)).steps ≡ 0 = nothing_yet in
      let count : (head_of t).steps ≡ (head_of (open_seat opening sums)).steps + length xs = ap (λ (h : Head). h.steps) made.head in
      omega arith

  pub made-opening : (head_of t).opening ≡ opening
  made-opening = ap (λ (h : Head). h.opening) made.head ∙ ap (λ (h : Head). h.opening) (opened-head opening sums)

  pub made-journal : journal_of t ≡ xs
  unfolding journal_of
  made-journal =
      ap (λ (n : ℕ). steps_from t 0 n) made-count
      ∙ subst (λ (k : ℕ). steps_from t k (length xs) ≡ xs) nothing_yet made.journal

  pub made-free : (k : ℕ) → length xs ≤ k → k < steps → step_of t k ≡ no_step
  made-free k h b =
      let zero-yet : (head_of (open_seat opening sums)).steps ≡ 0 = nothing_yet in
      made.rest k (omega arith) b ∙ opened-step opening sums k b

  pub made-sums : length sums ≡ accounts → sums_of t ≡ sums
  unfolding sums_of
  made-sums l =
      same-sums t (open_seat opening sums) 0 accounts
      (λ (i : ℕ) (a : 0 ≤ i) (b : i < 0 + accounts). made.sums i (omega arith))
      ∙ opened-sums opening sums l

  pub made-grown : every (λ (sum : ℕ). leb sum sum_most) sums ≡ true → Grown (length xs) t
  made-grown e =
      let from-none : 0 + length xs ≡ length xs = omega arith in
      subst (λ (n : ℕ). Grown n t) from-none (made.grown 0 (opened-grown opening sums e))

-- what an open seat that fits is
pub record Fits (s : List ℕ) : Type 0 where
  pub least : 1 ≤ (head_of s).opening
  pub most : (head_of s).opening ≤ openings
  pub count : (head_of s).steps ≤ steps
  pub sums : every (λ (sum : ℕ). leb sum sum_most) (sums_of s) ≡ true
  pub comes : worked (journal_of s) (open_seat (head_of s).opening (sums_of s)) ≡ Some s

comes-out : (s : List ℕ) (o : Option (List ℕ)) → comes_out s o ≡ true → o ≡ Some s
comes-out s None e = absurd (false≢true e)
comes-out s (Some t) e = ap Some (same_true t s e)

pub open-fits : (s : List ℕ) → open_fits s ≡ true → Fits s
unfolding open_fits
open-fits s e =
    let least : Bool = leb 1 (head_of s).opening in
    let most : Bool = leb (head_of s).opening openings in
    let count : Bool = leb (head_of s).steps steps in
    let sums : Bool = every (λ (sum : ℕ). leb sum sum_most) (sums_of s) in
    let out : Bool = comes_out s (worked (journal_of s) (open_seat (head_of s).opening (sums_of s))) in
    let four = and_left (least && most && count && sums) out e in
    let three = and_left (least && most && count) sums four in
    let two = and_left (least && most) count three in
    record {
      least = leb-true 1 (head_of s).opening (and_left least most two);
      most = leb-true (head_of s).opening openings (and_right least most two);
      count = leb-true (head_of s).steps steps (and_right (least && most) count three);
      sums = and_right (least && most && count) sums four;
      comes = comes-out s (worked (journal_of s) (open_seat (head_of s).opening (sums_of s))) (and_right (least && most && count && sums) out e);
    }

pub fits-open : (s : List ℕ) → Fits s → open_fits s ≡ true
unfolding open_fits
fits-open s f =
    rw (
      le-leb 1 (head_of s).opening f.least,
      le-leb (head_of s).opening openings f.most,
      le-leb (head_of s).steps steps f.count,
      f.sums,
      f.comes,
    ) (same-itself s)

-- what was opened within the ranges and worked fits
pub fit-made : (opening : ℕ) (sums : List ℕ) (xs : List Step) (t : List ℕ) → 1 ≤ opening → opening ≤ openings → length sums ≡ accounts
    → every (λ (sum : ℕ). leb sum sum_most) sums ≡ true → length xs ≤ steps → worked xs (open_seat opening sums) ≡ Some t → open_fits t ≡ true
fit-made opening sums xs t a b l e few w =
    let number : (head_of t).opening ≡ opening = made-opening opening sums xs t few w in
    let long : (head_of t).steps ≡ length xs = made-count opening sums xs t few w in
    let stand : sums_of t ≡ sums = made-sums opening sums xs t few w l in
    let journal : journal_of t ≡ xs = made-journal opening sums xs t few w in
    fits-open t
    (record {
      least = omega arith;
      most = omega arith;
      count = omega arith;
      sums = rw stand e;
      comes = rw (number, stand, journal) w;
    })

pub sums-long : (s : List ℕ) → length (sums_of s) ≡ accounts
unfolding sums_of
sums-long s = sums-length s 0 accounts

-- one step more
pub fit-more : (x : Step) (s : List ℕ) → length s ≡ seat_long → open_fits s ≡ true → (head_of s).steps < steps → possible x s ≡ true
    → open_fits (stepped x s) ≡ true
fit-more x s l e b p =
    let f : Fits s = open-fits s e in
    let long : length (journal_of s) ≡ (head_of s).steps = journal-long s in
    let more : length (journal_of s ++ (x ∷ [])) ≡ length (journal_of s) + 1 = length-append (journal_of s) (x ∷ []) in
    fit-made (head_of s).opening (sums_of s) (journal_of s ++ (x ∷ [])) (stepped x s) f.least f.most (sums-long s) f.sums (omega arith)
    (worked-more x (journal_of s) (open_seat (head_of s).opening (sums_of s)) s f.comes p)

-- the last step taken back: what comes out is the seat before that step
pub fit-back : (s : List ℕ) → length s ≡ seat_long → open_fits s ≡ true → 1 ≤ (head_of s).steps → open_fits (backed s) ≡ true
fit-back s l e h =
    let f : Fits s = open-fits s e in
    let n : ℕ = (head_of s).steps - 1 in
    let xs : List Step = steps_from s 0 n in
    let most : (head_of s).steps ≤ steps = f.count in
    let long : length xs ≡ n = steps-length s 0 n in
    let few : length xs ≤ steps = omega arith in
    let from : List ℕ = open_seat (head_of s).opening (sums_of s) in
    let last : Last (step_of s n) xs from s =
    worked-last (step_of s n) xs from s (subst (λ (ys : List Step). worked ys from ≡ Some s) (journal-last s h) f.comes) in
    let r : Reached xs from last.behind = made (head_of s).opening (sums_of s) xs last.behind few last.before in
    let count : (head_of last.behind).steps ≡ length xs = made-count (head_of s).opening (sums_of s) xs last.behind few last.before in
    let room : (head_of last.behind).steps < steps = omega arith in
    let free : step_of last.behind (head_of last.behind).steps ≡ no_step =
    made-free (head_of s).opening (sums_of s) xs last.behind few last.before (head_of last.behind).steps (omega arith) room in
    let back : backed s ≡ last.behind =
    ap backed (sym last.comes) ∙ back-restores (step_of s n) last.behind r.long room free last.can in
    rw back (fit-made (head_of s).opening (sums_of s) xs last.behind f.least f.most (sums-long s) f.sums few last.before)

-- a seat that was opened within the ranges fits
pub fit_opened : (opening : ℕ) (sums : List ℕ) → 1 ≤ opening → opening ≤ openings → length sums ≤ accounts
    → every (λ (sum : ℕ). leb sum sum_most) sums ≡ true → open_fits (open_seat opening sums) ≡ true
fit_opened opening sums a b l e =
    let all : List ℕ = sums_of (open_seat opening sums) in
    subst (λ (s : List ℕ). open_fits s ≡ true) (opened-padded opening sums)
    (fit-made opening all [] (open_seat opening all) a b (sums-long (open_seat opening sums)) (opened-most opening sums e) (omega arith)
    (worked-none (open_seat opening all)))

-- a closed seat fits
closed-opening : (opening : ℕ) → (head_of (closed_seat opening)).opening ≡ opening
unfolding head_of closed_seat head_in head_row part
closed-opening opening = refl

pub fit-closed : (opening : ℕ) → opening ≤ openings → closed_fits (closed_seat opening) ≡ true
unfolding closed_fits
fit-closed opening h = rw (closed-opening opening, le-leb opening openings h) (same-itself (closed_seat opening))

-- a seat that fits has no high numbers
pub fit_low : (s : List ℕ) → length s ≡ seat_long → open_fits s ≡ true → Low s
fit_low s l e =
    let f : Fits s = open-fits s e in
    let long : length (journal_of s) ≡ (head_of s).steps = journal-long s in
    let most : (head_of s).steps ≤ steps = f.count in
    let few : length (journal_of s) ≤ steps = omega arith in
    grown-low (length (journal_of s)) s few (made-grown (head_of s).opening (sums_of s) (journal_of s) s few f.comes f.sums)
