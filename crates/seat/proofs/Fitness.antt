-- A head that is out of range makes an open seat unfit. Of a head in range and sums that are ones the numbers that come out decide whether
-- it is fit.
-- Assumes nothing.
use mathlib.Core.Path.{◌≡◌, sym, ap, ◌∙◌}
use mathlib.Core.Bool.{Bool, true, false, ◌&&◌, ◌||◌}
use mathlib.Core.List.{List}
use Prim.Native.Nat.{ℕ, ◌≤◌}
use native.Mathlib.Nat.{le_of_eq}
use lib.Dec.{leb, ltb}
use lib.ListN.{length}
use borrow.Author.Tests.{ltb-true, le-leb, lt-leb}
use Rattle.shape.specs.Bytes.{every}
use Rattle.shape.proofs.Tests.{and-false, or_cases}
use Rattle.slip.specs.Meaning.{openings, steps}
use Rattle.layout.specs.declared.rows.Head.{Head}
use Rattle.layout.specs.Seat.{accounts, head_of}
use Rattle.journal.specs.Steps.{sum_most}
use Rattle.journal.specs.Working.{journal_of, steps_from, worked}
use Rattle.seat.specs.Fit.{open_seat, sums_of, comes_out, open_fits}
use Rattle.seat.proofs.Opened.{sums-length}

-- the head is out of range, or in range
abbrev pub outside : Head → Bool
outside h = (ltb h.opening 1 || ltb openings h.opening) || ltb steps h.steps

abbrev inside : Head → Bool
inside h = (leb 1 h.opening && leb h.opening openings) && leb h.steps steps

not_in : (h : Head) → outside h ≡ true → inside h ≡ false
not_in h e =
    or_cases (ltb h.opening 1 || ltb openings h.opening) (ltb steps h.steps) e
    (λ (f : (ltb h.opening 1 || ltb openings h.opening) ≡ true).
    or_cases (ltb h.opening 1) (ltb openings h.opening) f
    (λ (g : ltb h.opening 1 ≡ true). rw (lt-leb 1 h.opening (ltb-true h.opening 1 g)))
    (λ (g : ltb openings h.opening ≡ true).
    rw (and-false (leb 1 h.opening) (leb h.opening openings) (lt-leb h.opening openings (ltb-true openings h.opening g)))))
    (λ (g : ltb steps h.steps ≡ true).
    and-false (leb 1 h.opening && leb h.opening openings) (leb h.steps steps) (lt-leb h.steps steps (ltb-true steps h.steps g)))

pub out_of_range : (s : List ℕ) (h : Head) → h ≡ head_of s → outside h ≡ true → false ≡ open_fits s
unfolding open_fits
out_of_range s h read e = rw (ap inside (sym read) ∙ not_in h e)

-- the sums that were read
pub sums-long : (s xs : List ℕ) → xs ≡ sums_of s → length xs ≤ accounts
unfolding sums_of
sums-long s xs e = le_of_eq (ap length e ∙ sums-length s 0 accounts)

-- a head in range and sums that are ones
pub open_by : (s : List ℕ) (h : Head) → h ≡ head_of s → 1 ≤ h.opening → h.opening ≤ openings → h.steps ≤ steps
    → (xs : List ℕ) → xs ≡ sums_of s → (b : Bool) → every (λ (sum : ℕ). leb sum sum_most) xs ≡ true
    → b ≡ comes_out s (worked (steps_from s 0 h.steps) (open_seat h.opening xs)) → b ≡ open_fits s
unfolding open_fits journal_of
open_by s h read low high few xs got b f out =
    rw (sym read, sym got, le-leb 1 h.opening low, le-leb h.opening openings high, le-leb h.steps steps few, f) out
