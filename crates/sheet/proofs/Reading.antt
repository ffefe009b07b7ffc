-- The machine's answer is the grammar's, and the grammar has only one.
-- Assumes nothing.
use mathlib.Core.Path.{◌≡◌, refl, ap, sym, subst, ◌∙◌}
use mathlib.Core.Bool.{Bool, true, false, cond, false≢true}
use mathlib.Core.List.{List}
use Prim.Native.Nat.{ℕ, ◌≤◌, ◌<◌}
use native.Mathlib.Omega.{arith}
use lib.Dec.{leb}
use lib.ListN.{length}
use borrow.Author.Tests.{leb-true, leb-false}
use Rattle.sheet.specs.Grammar.{Element, count_of, starts_from, depths_from, sheet_most, placed, WellFormed}
use Rattle.sheet.specs.Answer.{Reading, accepted, refused, run, start, reading_of}
use Rattle.sheet.specs.Right.{Right, whole, broken, long}
use Rattle.sheet.proofs.Acceptance.Accepts.{accepts-well-formed}
use Rattle.sheet.proofs.Acceptance.Unambiguous.{unambiguous}
use Rattle.sheet.proofs.Viability.Refusal.{refuses}
use Rattle.sheet.proofs.Viability.Completion.{completes, accepted-well-formed}

-- a sheet that is not too long, by the machine's answer; and any sheet
reads_short : (s : List ℕ) → length s ≤ sheet_most → (r : Reading) → run start 0 s ≡ r → Right s r
reads_short s l (accepted n ss ds) e =
    let w = accepted-well-formed s n ss ds e in
    subst (Right s) (sym (accepts-well-formed s w) ∙ e) (whole w l)
reads_short s l (refused k) e =
    let front = completes s k e in
    let none-further = refuses s k e in
    broken k l none-further.0 front.0 front.1 none-further.1

reads-any : (s : List ℕ) (t : Bool) → leb (length s) sheet_most ≡ t → Right s (cond t (run start 0 s) (refused sheet_most))
reads-any s true e = reads_short s (leb-true (length s) sheet_most e) (run start 0 s) refl
reads-any s false e = long (leb-false (length s) sheet_most e)

-- the machine's answer is the grammar's
pub reading-right : (s : List ℕ) → Right s (reading_of s)
unfolding reading_of
reading-right s = reads-any s (leb (length s) sheet_most) refl

-- the answer to a tree
abbrev answer : Element → Reading
answer e = accepted (count_of e) (placed (starts_from e 0)) (placed (depths_from e 1))

-- two trees of one sheet are one
pub same-tree : (s : List ℕ) (w v : WellFormed s) → w.tree ≡ v.tree
same-tree s w v = unambiguous w.tree v.tree w.good.parts v.good.parts (sym w.written ∙ v.written)

-- and there is only one right answer
pub right-only : (s : List ℕ) (a b : Reading) → Right s a → Right s b → a ≡ b
right-only s a b (whole w l) (whole v m) = ap answer (same-tree s w v)
right-only s a b (whole w l) (broken k m not-formed inside front further) = absurd (not-formed w)
right-only s a b (whole w l) (long m) = absurd (omega arith)
right-only s a b (broken k m not-formed inside front further) (whole w l) = absurd (not-formed w)
right-only s a b (broken k m not-formed inside front further) (broken j l no-formed within head ahead) =
    let no_less : k < j → ⊥ = λ h. further j h within head in
    let no_more : j < k → ⊥ = λ h. ahead k h inside front in
    ap refused (omega (arith, no_less, no_more))
right-only s a b (broken k m not-formed inside front further) (long l) = absurd (omega arith)
right-only s a b (long l) (whole w m) = absurd (omega arith)
right-only s a b (long l) (broken k m not-formed inside front further) = absurd (omega arith)
right-only s a b (long l) (long m) = refl

-- so a sheet is refused at one place, and what a good tree is written as, where it is not too long, at none
place_of : Reading → ℕ
place_of (accepted n starts depths) = 0
place_of (refused k) = k

is_accepted : Reading → Bool
is_accepted (accepted n starts depths) = true
is_accepted (refused k) = false

pub one_place : (s : List ℕ) (k j : ℕ) → Right s (refused k) → Right s (refused j) → k ≡ j
unfolding place_of
one_place s k j r t = ap place_of (right-only s (refused k) (refused j) r t)

pub formed-not-refused : (s : List ℕ) (w : WellFormed s) → length s ≤ sheet_most → (k : ℕ) → Right s (refused k) → ⊥
unfolding is_accepted
formed-not-refused s w l k r = false≢true (ap is_accepted (right-only s (refused k) (answer w.tree) r (whole w l)))
