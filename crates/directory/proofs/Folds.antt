-- The loops over a directory: what is left of each from a place on, and one turn of it.
-- Assumes nothing.
use Rattle.std.specs.Prelude.{Some, None}
use Rattle.std.specs.List.{IsAllAdjacentAnswer}
use mathlib.Core.Path.{◌≡◌, refl, sym}
use mathlib.Core.Bool.{Bool, true, false}
use mathlib.Core.List.{List, [], ◌∷◌}
use Prim.Native.Nat.{ℕ, zero, suc, ◌+◌, ◌<◌, ◌≤◌}
use native.Mathlib.Omega.{arith}
use native.Mathlib.Numerals.{add-one}
use lib.Dec.{ltb}
use lib.ListN.{length, get_or, drop, drop_of_length-le}
use lib.Seq.{drop-cons}
use borrow.Author.Tests.{eq-eqb, ne_eqb}
use Rattle.shape.proofs.Tests.{and-false}
use Rattle.directory.specs.declared.Participant.{Participant}
use Rattle.directory.specs.declared.Gathered.{Gathered}
use Rattle.directory.specs.Directory.{found_from, ascending, listed}
use Rattle.directory.specs.Gathering.{none_gathered, added, gathered_from, gathered}

-- gathering: the whole is what is gathered so far and then the rest
pub count-added : (g : Gathered) (p : Participant) → (added g p).count ≡ g.count + 1
unfolding added
count-added g p = sym (add-one g.count)

pub gathered-first : (dir : List Participant) → gathered dir ≡ gathered_from none_gathered (drop 0 dir)
unfolding gathered
gathered-first dir = refl

from_cons : (g : Gathered) (p : Participant) (dir : List Participant) → gathered_from g (p ∷ dir) ≡ gathered_from (added g p) dir
unfolding gathered_from
from_cons g p dir = refl

from-none : (g : Gathered) → gathered_from g [] ≡ g
unfolding gathered_from
from-none g = refl

pub gathered_next : (g : Gathered) (dir : List Participant) (i : ℕ) (d : Participant) → i < length dir
    → gathered_from g (drop i dir) ≡ gathered_from (added g (get_or dir i d)) (drop (i + 1) dir)
gathered_next g dir i d l = rw (drop-cons dir i d l, from_cons g (get_or dir i d) (drop (suc i) dir), add-one i)

pub gathered-last : (g : Gathered) (dir : List Participant) (i : ℕ) → length dir ≤ i → gathered_from g (drop i dir) ≡ g
gathered-last g dir i l = rw (drop_of_length-le dir l, from-none g)

-- finding: the first record of what is left is the code's, or the code is found further on
pub found-here : (dir : List Participant) (i : ℕ) (d : Participant) (code : ℕ) → i < length dir → (get_or dir i d).code ≡ code
    → found_from i (drop i dir) code ≡ Some (listed i (get_or dir i d))
unfolding found_from
found-here dir i d code l e = rw (drop-cons dir i d l, eq-eqb _ _ e)

pub found-further : (dir : List Participant) (i : ℕ) (d : Participant) (code : ℕ) → i < length dir → ((get_or dir i d).code ≡ code → ⊥)
    → found_from i (drop i dir) code ≡ found_from (i + 1) (drop (i + 1) dir) code
unfolding found_from
found-further dir i d code l ne = rw (drop-cons dir i d l, ne_eqb _ _ ne, add-one i)

pub found-nowhere : (dir : List Participant) (i code : ℕ) → length dir ≤ i → found_from i (drop i dir) code ≡ None
unfolding found_from
found-nowhere dir i code l = rw (drop_of_length-le dir l)

-- ascending: where the answer is no, some record is not below the next
pub ascending-decided : (dir : List Participant) (d : Participant) (answer : Bool)
    → IsAllAdjacentAnswer (λ p q b. b ≡ ltb p.code q.code) dir answer → answer ≡ ascending dir
ascending-decided [] d true h = refl
ascending-decided [] d false (k, l, h) = absurd (omega arith)
ascending-decided (p ∷ []) d true h = refl
ascending-decided (p ∷ []) d false (k, l, h) = absurd (omega arith)
ascending-decided (p ∷ q ∷ dir) d true h =
    rw (sym (h 0 d (omega arith))) (ascending-decided (q ∷ dir) d true (λ k e l. let next : suc k + 1 ≡ suc (k + 1) = omega arith in rw next at (h (suc k) e (omega arith))))
ascending-decided (p ∷ q ∷ dir) d false (zero, l, h) = rw (sym (h d))
ascending-decided (p ∷ q ∷ dir) d false (suc k, l, h) =
    let next : suc k + 1 ≡ suc (k + 1) = omega arith in
    sym (and-false (ltb p.code q.code) (ascending (q ∷ dir)) (sym (ascending-decided (q ∷ dir) d false (k, omega arith, λ e. rw next at (h e)))))

pub ruleset loop_of_gather = (gathered-first, gathered_next, gathered-last, count-added)

pub ruleset loop_of_find = (found-here, found-further, found-nowhere)
