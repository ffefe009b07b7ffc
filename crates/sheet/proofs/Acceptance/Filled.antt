-- The element list grows: the state behind some elements, and behind more of them; a list of empty places once it is filled from its front.
-- Assumes nothing.
use mathlib.Core.Path.{◌≡◌, ◌∙◌}
use mathlib.Core.List.{List, [], ◌∷◌, ◌++◌}
use Prim.Native.Nat.{ℕ, zero, suc, ◌+◌, ◌-◌, ◌≤◌}
use native.Mathlib.Omega.{arith}
use native.Mathlib.Nat.{add-zero, add_assoc, zero-add, sub-zero, suc-sub-suc, le_of_suc-le-suc}
use native.Mathlib.Numerals.{add-one}
use lib.ListN.{length, set, drop, replicate, length-replicate}
use lib.Seq.{sets, sets-eq}
use Rattle.sheet.specs.Machine.{State, goes, after_closing}
use Rattle.sheet.proofs.Acceptance.Opening.{counted}

-- the state behind n whole elements with these starts and depths
abbrev pub behind : State → ℕ → List ℕ → List ℕ → State
behind st n xs ys = record {
  mode = after_closing st.names;
  names = st.names;
  count = st.count + n;
  starts = sets st.starts st.count xs;
  depths = sets st.depths st.count ys;
}

-- what is set from a place on, and then what is set behind it
pub sets-append : (xs ys l : List ℕ) (k : ℕ) → sets (sets l k xs) (k + length xs) ys ≡ sets l k (xs ++ ys)
sets-append [] ys l k = rw add-zero
sets-append (x ∷ xs) ys l k = let e : k + suc (length xs) ≡ suc k + length xs = omega arith in rw e (sets-append xs ys (set l k x) (suc k))

-- one element alone
pub behind-one : (st : State) (i : ℕ) → goes (counted st i) (after_closing st.names) ≡ behind st 1 (i ∷ []) (suc (length st.names) ∷ [])
behind-one st i = rw add-one

-- one element and those inside it
pub behind-inside : (st : State) (i n : ℕ) (xs ys : List ℕ)
    → behind (counted st i) n xs ys ≡ behind st (suc n) (i ∷ xs) (suc (length st.names) ∷ ys)
behind-inside st i n xs ys = let e : suc st.count + n ≡ st.count + suc n = omega arith in rw e

-- some elements and then others
pub behind-both : (st : State) (n m : ℕ) (xs ys us vs : List ℕ) → length xs ≡ n → length ys ≡ n
    → behind (behind st n xs ys) m us vs ≡ behind st (n + m) (xs ++ us) (ys ++ vs)
behind-both st n m xs ys us vs p q =
    let a : sets (sets st.starts st.count xs) (st.count + n) us ≡ sets st.starts st.count (xs ++ us) = rw (← p) (sets-append xs us st.starts st.count) in
    let b : sets (sets st.depths st.count ys) (st.count + n) vs ≡ sets st.depths st.count (ys ++ vs) = rw (← q) (sets-append ys vs st.depths st.count) in
    rw (add_assoc st.count n m, a, b)

-- empty places without the first n
drop-empty : (m n : ℕ) → n ≤ m → drop n (replicate {A = ℕ} m 0) ≡ replicate (m - n) 0
drop-empty m zero h = rw sub-zero
drop-empty zero (suc n) h = absurd (omega arith)
drop-empty (suc m) (suc n) h = rw suc-sub-suc (drop-empty m n (le_of_suc-le-suc h))

-- empty places, filled from the front
pub fills-front : (xs : List ℕ) (m : ℕ) → length xs ≤ m → sets (replicate m 0) 0 xs ≡ xs ++ replicate (m - length xs) 0
fills-front xs m h =
    sets-eq xs (replicate m 0) 0 (rw (length-replicate, zero-add) h)
    ∙ rw (zero-add, drop-empty m (length xs) h)
