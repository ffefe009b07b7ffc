-- The laws of parts: what was put is found again, what lies apart is as it was, and rows that lie behind each other make up one part.
-- Assumes nothing.
use mathlib.Core.Path.{◌≡◌, refl, sym, ap, subst, ◌∙◌}
use mathlib.Core.Bool.{Bool, true, false}
use mathlib.Core.List.{List, [], ◌∷◌, ◌++◌}
use Prim.Native.Nat.{ℕ, zero, suc, ◌+◌, ◌-◌, ◌*◌, ◌≤◌, ◌<◌}
use native.Mathlib.Omega.{arith}
use native.Mathlib.Nat.{zero-add, suc-add, mul-zero, mul-suc, mul-le-mul_left, lt_of_not-le, le_of_eq}
use lib.Dec.{ltb}
use lib.ListN.{length, take, drop, length-take, length-drop, length-append, take-append-drop, drop_of_length-le}
use lib.Seq.{take_all, take_at, drop_at, take-append-le, drop-append-le, drop-append-add, drop-drop, drop-nil, take-add, length-take-le}
use borrow.Author.Tests.{ltb-true, ltb-false}
use Rattle.layout.specs.Parts.{part, put}

width : (a w : ℕ) → (a + w) - a ≡ w
width a w = omega arith

-- what is lent as `&s[a..a + w]` is a part, and what comes back from there stands in its place
pub lent : (s : List ℕ) (a w : ℕ) → take ((a + w) - a) (drop a s) ≡ part s a w
unfolding part
lent s a w = rw (width a w)

pub given_back : (s : List ℕ) (a w : ℕ) (ys : List ℕ) → take a s ++ (ys ++ drop ((a + w) - a) (drop a s)) ≡ put s a w ys
unfolding put
given_back s a w ys = rw (width a w)

-- lengths
pub part_length : (s : List ℕ) (a w : ℕ) → a + w ≤ length s → length (part s a w) ≡ w
unfolding part
part_length s a w h = simp (length-take, length-drop) (omega arith)

pub put-length : (s : List ℕ) (a w : ℕ) (ys : List ℕ) → length ys ≡ w → a + w ≤ length s → length (put s a w ys) ≡ length s
unfolding put
put-length s a w ys e h = simp (length-append, length-take, length-drop) (omega arith)

-- what was put is found again
pub part-put : (s : List ℕ) (a w : ℕ) (ys : List ℕ) → a + w ≤ length s → length ys ≡ w → part (put s a w ys) a w ≡ ys
unfolding part put
part-put s a w ys h e =
    let from : drop a (take a s ++ (ys ++ drop w (drop a s))) ≡ ys ++ drop w (drop a s) =
    drop_at (take a s) (ys ++ drop w (drop a s)) a (length-take-le a s (omega arith)) in
    ap (λ (t : List ℕ). take w t) from ∙ take_at ys (drop w (drop a s)) w e

-- a part of the first of two lists
part-front : (p q : List ℕ) (b v : ℕ) → b + v ≤ length p → part (p ++ q) b v ≡ part p b v
unfolding part
part-front p q b v h =
    ap (λ (t : List ℕ). take v t) (drop-append-le b p q (omega arith))
    ∙ take-append-le v (drop b p) q (simp length-drop (omega arith))

-- a part that lies before is as it was
pub part-put-before : (s : List ℕ) (a w : ℕ) (ys : List ℕ) (b v : ℕ) → b + v ≤ a → b + v ≤ length s → part (put s a w ys) b v ≡ part s b v
unfolding put
part-put-before s a w ys b v h l =
    let within : b + v ≤ length (take a s) = simp length-take (omega arith) in
    part-front (take a s) (ys ++ drop w (drop a s)) b v within
    ∙ sym (part-front (take a s) (drop a s) b v within)
    ∙ ap (λ (t : List ℕ). part t b v) (take-append-drop a s)

-- whatever lies behind is as it was
drop-put : (s ys : List ℕ) (a k : ℕ) → drop (a + (length ys + k)) (put s a (length ys) ys) ≡ drop (a + (length ys + k)) s
unfolding put
drop-put s ys zero k =
    ap (λ (n : ℕ). drop n (ys ++ drop (length ys) s)) (zero-add (length ys + k))
    ∙ drop-append-add ys (drop (length ys) s) k
    ∙ drop-drop k (length ys) s
    ∙ ap (λ (n : ℕ). drop n s) (sym (zero-add (length ys + k)))
drop-put [] ys (suc a) k =
    let short : length (ys ++ drop (length ys) []) ≤ suc a + (length ys + k) = simp (length-append, length-drop) (omega arith) in
    drop_of_length-le (ys ++ drop (length ys) []) short ∙ sym (drop-nil (suc a + (length ys + k)))
drop-put (x ∷ s) ys (suc a) k =
    ap (λ (n : ℕ). drop n (x ∷ (take a s ++ (ys ++ drop (length ys) (drop a s))))) (suc-add a (length ys + k))
    ∙ drop-put s ys a k
    ∙ ap (λ (n : ℕ). drop n (x ∷ s)) (sym (suc-add a (length ys + k)))

-- a part that lies behind is as it was
pub part-put-behind : (s : List ℕ) (a w : ℕ) (ys : List ℕ) (b v : ℕ) → a + w ≤ b → length ys ≡ w → part (put s a w ys) b v ≡ part s b v
unfolding part
part-put-behind s a w ys b v h e =
    let far : a + (length ys + (b - (a + w))) ≡ b = omega arith in
    let same : drop b (put s a (length ys) ys) ≡ drop b s =
    subst (λ (n : ℕ). drop n (put s a (length ys) ys) ≡ drop n s) far (drop-put s ys a (b - (a + w))) in
    ap (λ (t : List ℕ). take v t) (subst (λ (n : ℕ). drop b (put s a n ys) ≡ drop b s) e same)

-- of two things put in one place the second stays
pub put-put : (s : List ℕ) (a w : ℕ) (xs ys : List ℕ) → length xs ≡ w → a + w ≤ length s → put (put s a w xs) a w ys ≡ put s a w ys
unfolding put
put-put s a w xs ys e h =
    let long : length (take a s) ≡ a = length-take-le a s (omega arith) in
    let rest : List ℕ = drop w (drop a s) in
    let front : take a (take a s ++ (xs ++ rest)) ≡ take a s = take_at (take a s) (xs ++ rest) a long in
    let back : drop w (drop a (take a s ++ (xs ++ rest))) ≡ rest =
    ap (λ (t : List ℕ). drop w t) (drop_at (take a s) (xs ++ rest) a long) ∙ drop_at xs rest w e in
    ap (λ (t : List ℕ). t ++ (ys ++ drop w (drop a (take a s ++ (xs ++ rest))))) front
    ∙ ap (λ (t : List ℕ). take a s ++ (ys ++ t)) back

-- to put what stands there changes nothing
pub put-part : (s : List ℕ) (a w : ℕ) → a + w ≤ length s → put s a w (part s a w) ≡ s
unfolding put part
put-part s a w h =
    ap (λ (t : List ℕ). take a s ++ t) (take-append-drop w (drop a s)) ∙ take-append-drop a s

-- a part of v + w numbers is one of v and one of w behind it
pub part-add : (s : List ℕ) (a v w : ℕ) → part s a (v + w) ≡ part s a v ++ part s (a + v) w
unfolding part
part-add s a v w =
    take-add v w (drop a s) ∙ ap (λ (t : List ℕ). take v (drop a s) ++ take w t) (drop-drop v a s)

-- a list is the part of all its numbers
pub part-whole : (s : List ℕ) (n : ℕ) → length s ≡ n → part s 0 n ≡ s
unfolding part
part-whole s n e = take_all n s (le_of_eq e)

-- rows of one width, one behind the other: each ends where the next begins
pub row_ends : (w i j : ℕ) → i < j → w * i + w ≤ w * j
row_ends w i j h = subst (λ (n : ℕ). n ≤ w * j) (mul-suc w i) (mul-le-mul_left w h)

-- another row is as it was
pub row_other : (s : List ℕ) (a w i j : ℕ) (ys : List ℕ) → (i ≡ j → ⊥) → length ys ≡ w → (a + w * j) + w ≤ length s
    → part (put s (a + w * i) w ys) (a + w * j) w ≡ part s (a + w * j) w
row_other s a w i j ys apart e h = sides (ltb i j) refl
  where
    sides : (t : Bool) → ltb i j ≡ t → part (put s (a + w * i) w ys) (a + w * j) w ≡ part s (a + w * j) w
    sides true r =
        let ends : w * i + w ≤ w * j = row_ends w i j (ltb-true i j r) in
        part-put-behind s (a + w * i) w ys (a + w * j) w (omega arith) e
    sides false r =
        let not_behind : j ≤ i = ltb-false i j r in
        let ends : w * j + w ≤ w * i = row_ends w j i (lt_of_not-le (λ (l : i ≤ j). apart (omega arith))) in
        part-put-before s (a + w * i) w ys (a + w * j) w (omega arith) h

no_part : (s t : List ℕ) (a : ℕ) → part s a 0 ≡ part t a 0
unfolding part
no_part s t a = refl

-- two lists that agree in each of n rows agree in the part that the rows make up
pub rows_agree : (s t : List ℕ) (a w n : ℕ) → ((k : ℕ) → k < n → part s (a + w * k) w ≡ part t (a + w * k) w)
    → part s a (w * n) ≡ part t a (w * n)
rows_agree s t a w zero same = rw (mul-zero w) (no_part s t a)
rows_agree s t a w (suc n) same =
    let ahead : part s a (w * n) ≡ part t a (w * n) = rows_agree s t a w n (λ (k : ℕ) (h : k < n). same k (omega arith)) in
    let last : part s (a + w * n) w ≡ part t (a + w * n) w = same n (omega arith) in
    rw (mul-suc w n, part-add s a (w * n) w, part-add t a (w * n) w, ahead, last)

pub ruleset parts = (lent, given_back)
