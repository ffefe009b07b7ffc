-- The machine accepts every good tree as it is written, and gives its elements' starts and depths.
-- Assumes nothing.
use mathlib.Core.Path.{◌≡◌, refl, ap, sym, ◌∙◌}
use mathlib.Core.List.{List, [], append-nil}
use Prim.Native.Nat.{ℕ, ◌+◌}
use native.Mathlib.Omega.{arith}
use native.Mathlib.Nat.{zero-add}
use lib.ListN.{length}
use lib.Seq.{sets}
use Rattle.sheet.specs.Grammar.{Element, render, count_of, depth_of, starts_from, depths_from, element_most, placed, Good, WellFormed}
use Rattle.sheet.specs.Answer.{accepted, run, start, empty_list}
use Rattle.sheet.proofs.Acceptance.Opening.{open-outer}
use Rattle.sheet.proofs.Acceptance.Sizes.{count-starts, count-depths}
use Rattle.sheet.proofs.Acceptance.Filled.{behind, fills-front}
use Rattle.sheet.proofs.Acceptance.Elements.{reads-element, Room}

-- the sheet ends behind its outer element
ends-whole : (n i : ℕ) (xs ys : List ℕ) → run (behind start n xs ys) i [] ≡ accepted (0 + n) (sets empty_list 0 xs) (sets empty_list 0 ys)
unfolding run
ends-whole n i xs ys = refl

-- the same answer by other words
same_answer : (n m : ℕ) (xs ys us vs : List ℕ) → n ≡ m → xs ≡ us → ys ≡ vs → accepted n xs ys ≡ accepted m us vs
same_answer n m xs ys us vs p q r = cc

-- a good tree's sheet is accepted, with as many elements as the tree has, each at its start and its depth
pub accepts : (e : Element) → Good e → run start 0 (render e) ≡ accepted (count_of e) (placed (starts_from e 0)) (placed (depths_from e 1))
accepts e g =
    let xs : List ℕ = starts_from e 0 in
    let ys : List ℕ = depths_from e 1 in
    let room : Room start (count_of e) (depth_of e) = record { few = omega (arith, g.few); shallow = omega (arith, g.shallow) } in
    ap (λ (s : List ℕ). run start 0 s) (sym (append-nil (render e)))
    ∙ (reads-element e start 0 g.parts room (open-outer start 0)).on []
    ∙ ends-whole (count_of e) (0 + length (render e)) xs ys
    ∙ same_answer (0 + count_of e) (count_of e) (sets empty_list 0 xs) (sets empty_list 0 ys) (placed xs) (placed ys)
    (zero-add (count_of e))
    (fills-front xs element_most (omega (arith, count-starts e 0, g.few)))
    (fills-front ys element_most (omega (arith, count-depths e 1, g.few)))

-- so a well-formed sheet is accepted, with its tree's elements
pub accepts-well-formed : (s : List ℕ) (w : WellFormed s)
    → run start 0 s ≡ accepted (count_of w.tree) (placed (starts_from w.tree 0)) (placed (depths_from w.tree 1))
accepts-well-formed s w = ap (run start 0) w.written ∙ accepts w.tree w.good
