-- The rules of the table. A test that computes looks at the whole table or at a whole order, and a law carries it to each entry.
-- Assumes nothing.
use mathlib.Core.Path.{◌≡◌, refl, sym, ap, subst, ◌∙◌}
use mathlib.Core.Logic.{◌⊎◌, inl, inr, ⊎_elim}
use mathlib.Core.Bool.{Bool, true, false, not, ◌&&◌, ◌||◌, cond, false≢true}
use mathlib.Core.List.{List, [], ◌∷◌}
use Prim.Native.Nat.{ℕ, zero, suc, ◌+◌, ◌-◌, ◌<◌, ◌≤◌}
use native.Mathlib.Omega.{arith}
use native.Mathlib.Nat.{eq-or-lt_of_le, le_of_suc-le-suc}
use lib.Dec.{eqb, leb}
use lib.ListN.{length, get_or, take}
use borrow.Author.Tests.{eqb-true, eq-eqb, not-true}
use Rattle.shape.specs.Bytes.{is_digit, is_capital, is_digit_or_capital, every}
use Rattle.shape.specs.Numbers.{decimal}
use Rattle.shape.specs.Patterns.{fits, within}
use Rattle.shape.specs.Text.{bytes}
use Rattle.shape.proofs.Tests.{and_left, and_right, or_cases, or_left, or_right, in-range}
use Rattle.table.specs.Checks.{checks_most, checks, number_in, iso_in, absent, blank, line_of, sep_of, iso_of, from, rejecting, order_of, is_in, runs}
use Rattle.table.specs.declared.Kind.{Kind}
use Rattle.table.specs.declared.Kind.TheVariants.{Pacs008, Camt050, Pacs028, Pacs002}
use Rattle.table.proofs.Lines.{each}

-- four capitals or digits
abbrev pub is_code : List ℕ → Bool
is_code s = eqb (length s) 4 && every is_digit_or_capital s

-- law: what is tested of so many numbers from a on holds of each of them
pub counted : (f : ℕ → Bool) (a m : ℕ) → every f (from a m) ≡ true → (n : ℕ) → a ≤ n → n < a + m → f n ≡ true
counted f a zero t n h k = absurd (omega arith)
counted f a (suc m) t n h k =
    ⊎_elim (λ (e : a ≡ n). subst (λ (x : ℕ). f x ≡ true) e (and_left (f a) (every f (from (suc a) m)) t))
    (λ (l : a < n). counted f (suc a) m (and_right (f a) (every f (from (suc a) m)) t) n l (omega arith))
    (eq-or-lt_of_le h)

-- the table has a line for each check
pub checks-counted : length checks ≡ checks_most
unfolding checks
checks-counted = refl

-- the line of a check bears its number
pub numbers-count : (n : ℕ) → 1 ≤ n → n ≤ checks_most → number_in (line_of n) ≡ n
unfolding line_of checks decimal
numbers-count n h k =
    eqb-true (number_in (line_of n)) n
    (counted (λ (x : ℕ). eqb (number_in (line_of x)) x) 1 checks_most refl n h (omega arith))

-- the SEP code of a check is four capitals or digits
pub sep-is-code : (n : ℕ) → 1 ≤ n → n ≤ checks_most → is_code (sep_of n) ≡ true
unfolding sep_of line_of checks is_digit_or_capital is_digit is_capital
sep-is-code n h k = counted (λ (x : ℕ). is_code (sep_of x)) 1 checks_most refl n h (omega arith)

-- two texts are the same
same : List ℕ → List ℕ → Bool
same [] [] = true
same [] (b ∷ t) = false
same (a ∷ s) [] = false
same (a ∷ s) (b ∷ t) = eqb a b && same s t

same_true : (s t : List ℕ) → same s t ≡ true → s ≡ t
unfolding same
same_true [] [] e = refl
same_true [] (b ∷ t) e = absurd (false≢true e)
same_true (a ∷ s) [] e = absurd (false≢true e)
same_true (a ∷ s) (b ∷ t) e =
    cc (eqb-true a b (and_left (eqb a b) (same s t) e), same_true s t (and_right (eqb a b) (same s t) e))

-- law: what is tested of the blank line and of each line holds of the line of any number
of-line : (f : List ℕ → Bool) → f blank ≡ true → every f checks ≡ true → (n : ℕ) → f (line_of n) ≡ true
unfolding line_of
of-line f e t n = chosen (eqb n 0)
  where
    chosen : (b : Bool) → f (cond b blank (get_or checks (n - 1) blank)) ≡ true
    chosen true = e
    chosen false = each f checks blank e t (n - 1)

-- the ISO code in a line is four capitals or digits, or absent
pub iso-is-code : (n : ℕ) → (is_code (iso_in (line_of n)) ≡ true) ⊎ (iso_in (line_of n) ≡ absent)
unfolding checks same is_digit_or_capital is_digit is_capital
iso-is-code n =
    or_cases (is_code (iso_in (line_of n))) (same (iso_in (line_of n)) absent)
    (of-line (λ (line : List ℕ). is_code (iso_in line) || same (iso_in line) absent) refl refl n)
    inl (λ e. inr (same_true (iso_in (line_of n)) absent e))

-- a line is two digits, a SEP code and an ISO code or blanks, with a blank between
pub lines-shaped : (n : ℕ) → 1 ≤ n → n ≤ checks_most → (fits (bytes "## **** ****") (line_of n) || fits (bytes "## ****     ") (line_of n)) ≡ true
unfolding line_of checks fits within is_digit_or_capital is_digit is_capital
lines-shaped n h k =
    counted (λ (x : ℕ). fits (bytes "## **** ****") (line_of x) || fits (bytes "## ****     ") (line_of x)) 1 checks_most refl n h (omega arith)

-- camt.050 uses no ISO code
pub camt-050-has-none : (n : ℕ) → iso_of Camt050 n ≡ absent
unfolding iso_of
camt-050-has-none n = refl

-- law: what is tested of each number in a list holds of a number that is in it
pub of_entry : (f : ℕ → Bool) (ks : List ℕ) → every f ks ≡ true → (n : ℕ) → is_in n ks ≡ true → f n ≡ true
of_entry f [] t n i = absurd (false≢true i)
of_entry f (k ∷ ks) t n i =
    or_cases (eqb n k) (is_in n ks) i
    (λ e. subst (λ (x : ℕ). f x ≡ true) (sym (eqb-true n k e)) (and_left (f k) (every f ks) t))
    (λ e. of_entry f ks (and_right (f k) (every f ks) t) n e)

-- the numbers of the table
in_table : ℕ → Bool
in_table n = leb 1 n && leb n checks_most

orders-in-table : (kind : Kind) → every in_table (order_of kind) ≡ true
unfolding order_of in_table
orders-in-table Pacs008 = refl
orders-in-table Camt050 = refl
orders-in-table Pacs028 = refl
orders-in-table Pacs002 = refl

-- only checks of the table run
pub runs-in-table : (kind : Kind) (n : ℕ) → runs kind n ≡ true → (1 ≤ n) × (n ≤ checks_most)
unfolding runs in_table
runs-in-table kind n r = in-range 1 checks_most n (of_entry in_table (order_of kind) (orders-in-table kind) n r)

-- a check that rejects a transfer is one of its answer's
pub rejecting-runs : (n : ℕ) → is_in n rejecting ≡ true → runs Pacs002 n ≡ true
unfolding runs order_of
rejecting-runs n r = of_entry (λ (k : ℕ). is_in k (order_of Pacs002)) rejecting refl n r

-- each check that runs for a kind which uses ISO codes has one
pub iso-given-008 : (n : ℕ) → runs Pacs008 n ≡ true → is_code (iso_of Pacs008 n) ≡ true
unfolding runs order_of iso_of line_of checks is_digit_or_capital is_digit is_capital
iso-given-008 n r = of_entry (λ (k : ℕ). is_code (iso_of Pacs008 k)) (order_of Pacs008) refl n r

pub iso-given-028 : (n : ℕ) → runs Pacs028 n ≡ true → is_code (iso_of Pacs028 n) ≡ true
unfolding runs order_of iso_of line_of checks is_digit_or_capital is_digit is_capital
iso-given-028 n r = of_entry (λ (k : ℕ). is_code (iso_of Pacs028 k)) (order_of Pacs028) refl n r

pub iso-given-002 : (n : ℕ) → runs Pacs002 n ≡ true → is_code (iso_of Pacs002 n) ≡ true
unfolding runs order_of iso_of line_of checks is_digit_or_capital is_digit is_capital
iso-given-002 n r = of_entry (λ (k : ℕ). is_code (iso_of Pacs002 k)) (order_of Pacs002) refl n r

-- no number of the list is in what follows it
distinct : List ℕ → Bool
distinct [] = true
distinct (k ∷ ks) = not (is_in k ks) && distinct ks

-- the number at a place of a list is in the list
stands : (ks : List ℕ) (i : ℕ) → i < length ks → is_in (get_or ks i 0) ks ≡ true
stands [] i h = absurd (omega arith)
stands (k ∷ ks) zero h = or_left (eqb k k) (is_in k ks) (eq-eqb k k refl)
stands (k ∷ ks) (suc i) h = or_right (eqb (get_or ks i 0) k) (is_in (get_or ks i 0) ks) (stands ks i (le_of_suc-le-suc h))

-- law: in a list that is distinct two places have two numbers
of_places : (ks : List ℕ) → distinct ks ≡ true → (i j : ℕ) → i < j → j < length ks → get_or ks i 0 ≡ get_or ks j 0 → ⊥
unfolding distinct
of_places [] d i j l h e = omega arith
of_places (k ∷ ks) d i zero l h e = omega arith
of_places (k ∷ ks) d zero (suc j) l h e =
    false≢true
    (sym (not-true (is_in k ks) (and_left (not (is_in k ks)) (distinct ks) d))
    ∙ ap (λ (x : ℕ). is_in x ks) e ∙ stands ks j (le_of_suc-le-suc h))
of_places (k ∷ ks) d (suc i) (suc j) l h e =
    of_places ks (and_right (not (is_in k ks)) (distinct ks) d) i j (le_of_suc-le-suc l) (le_of_suc-le-suc h) e

orders-distinct : (kind : Kind) → distinct (order_of kind) ≡ true
unfolding order_of distinct
orders-distinct Pacs008 = refl
orders-distinct Camt050 = refl
orders-distinct Pacs028 = refl
orders-distinct Pacs002 = refl

-- no check stands twice in an order
pub order-distinct : (kind : Kind) (i j : ℕ) → i < j → j < length (order_of kind) → get_or (order_of kind) i 0 ≡ get_or (order_of kind) j 0 → ⊥
order-distinct kind = of_places (order_of kind) (orders-distinct kind)

-- checks 1 and 2, of the sender, stand first in each order
pub sender-first : (kind : Kind) → take 2 (order_of kind) ≡ 1 ∷ 2 ∷ []
unfolding order_of
sender-first Pacs008 = refl
sender-first Camt050 = refl
sender-first Pacs028 = refl
sender-first Pacs002 = refl
