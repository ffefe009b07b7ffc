-- What holds of each entry of a list, and so of the lines of the table, which have twelve bytes each; and when a number is in a list.
-- Assumes nothing.
use mathlib.Core.Path.{◌≡◌, refl, sym, ◌∙◌}
use mathlib.Core.Bool.{Bool, true, false, cond, false≢true}
use mathlib.Core.List.{List, [], ◌∷◌}
use Prim.Native.Nat.{ℕ, zero, suc, ◌-◌, ◌<◌}
use native.Mathlib.Omega.{arith}
use native.Mathlib.Nat.{le_of_suc-le-suc}
use lib.Dec.{eqb}
use lib.ListN.{length, get_or}
use borrow.Author.Tests.{eqb-true, eq-eqb, ne_eqb}
use Rattle.shape.specs.Bytes.{every}
use Rattle.shape.proofs.Tests.{and_left, and_right}
use Rattle.std.specs.List.{list_any}
use Rattle.table.specs.Checks.{checks, blank, line_of, is_in}

-- a rule that holds of the default and, by a test, of each entry holds at every place
pub each : {A : Type 0} (f : A → Bool) (xs : List A) (d : A) → f d ≡ true → every f xs ≡ true → (k : ℕ) → f (get_or xs k d) ≡ true
each f [] d e t k = e
each f (x ∷ xs) d e t zero = and_left (f x) (every f xs) t
each f (x ∷ xs) d e t (suc k) = each f xs d e (and_right (f x) (every f xs) t) k

-- within a list the default is never given
pub get_d_any : {A : Type 0} (xs : List A) (k : ℕ) (d e : A) → k < length xs → get_or xs k d ≡ get_or xs k e
get_d_any [] k d e h = absurd (omega arith)
get_d_any (x ∷ xs) zero d e h = refl
get_d_any (x ∷ xs) (suc k) d e h = get_d_any xs k d e (le_of_suc-le-suc h)

is-long : List ℕ → Bool
is-long line = eqb (length line) 12

chosen : (t : Bool) (a b : List ℕ) → length a ≡ 12 → length b ≡ 12 → length (cond t a b) ≡ 12
chosen true a b p q = p
chosen false a b p q = q

-- so each line of the table, and the blank one, has twelve bytes
pub line-length : (n : ℕ) → length (line_of n) ≡ 12
unfolding line_of checks is-long
line-length n =
    chosen (eqb n 0) blank (get_or checks (n - 1) blank) refl
    (eqb-true (length (get_or checks (n - 1) blank)) 12 (each is-long checks blank refl refl (n - 1)))

agree : (t : Bool) (a b : ℕ) → eqb a b ≡ t → t ≡ eqb b a
agree true a b e = sym (eq-eqb b a (sym (eqb-true a b e)))
agree false a b e = sym (ne_eqb b a (λ h. false≢true (sym e ∙ eq-eqb a b (sym h))))

-- a number is in a list where an entry of the list equals it
pub is-in-any : (n : ℕ) (ks : List ℕ) → list_any (λ k. eqb k n) ks ≡ is_in n ks
is-in-any n [] = refl
is-in-any n (k ∷ ks) = cc (agree (eqb k n) k n refl, is-in-any n ks)
