-- What the bytes read so far are, for each mode: the front of a sheet that is written from a partly grown tree.
-- Assumes nothing.
use Rattle.std.specs.Prelude.{Option, Some, None}
use mathlib.Core.Path.{◌≡◌}
use mathlib.Core.Bool.{true}
use mathlib.Core.List.{List, [], ◌∷◌, ◌++◌}
use Prim.Native.Nat.{ℕ, suc, ◌+◌, ◌≤◌, ◌<◌}
use lib.ListN.{length}
use Rattle.shape.specs.Text.{bytes}
use Rattle.shape.specs.Patterns.{fits, currency_pattern}
use Rattle.sheet.specs.Grammar.{Element, Elements, opening, render, render_all, count_of, count_all, depth_of, depth_all}
use Rattle.sheet.specs.Grammar.{element_most, depth_most, is_name, is_ccy, is_content, good_parts, good_all, WellFormed}
use Rattle.sheet.specs.Machine.{Mode, outer, begun, naming, attribute, tagged, texting, ending, between, turning, whole, State, is_next}
use Rattle.sheet.proofs.Acceptance.Parts.{given}

-- What stands before a place where an element may begin: the opening tags of the elements around it and their finished children.
-- Beside the bytes stand the names of the open elements, innermost first, and the number of elements begun.
-- `Grown` is such a place behind a child.
mutual
  pub data Place : List ℕ → List (List ℕ) → ℕ → Type 0 where
    nowhere : Place [] [] 0
    inside : {q n : List ℕ} {ns : List (List ℕ)} {c : ℕ} → Place q ns c → is_name n ≡ true → Place (q ++ opening n None) (n ∷ ns) (suc c)
    behind : {q : List ℕ} {ns : List (List ℕ)} {c : ℕ} → Grown q ns c → Place q ns c

  pub data Grown : List ℕ → List (List ℕ) → ℕ → Type 0 where
    grown : {q n : List ℕ} {ns : List (List ℕ)} {c : ℕ} → Place q ns c → is_name n ≡ true → (es : Elements) → good_all es ≡ true
        → length (n ∷ ns) < depth_most → depth_all es + length (n ∷ ns) ≤ depth_most
        → Grown (q ++ (opening n None ++ render_all es)) (n ∷ ns) (suc c + count_all es)

-- a place where one more element may begin
pub record Room (q : List ℕ) (ns : List (List ℕ)) (c : ℕ) : Type 0 where
  pub place : Place q ns c
  pub few : c < element_most
  pub shallow : length ns < depth_most

-- the text t goes as the pattern r of an attribute says
pub data Follows : List ℕ → List ℕ → Type 0 where
  ends : Follows [] []
  goes : {c b : ℕ} {r t : List ℕ} → is_next c b ≡ true → Follows r t → Follows (c ∷ r) (b ∷ t)

-- behind q, the bytes p and then t end in an opening tag of the name n with a Ccy
pub record Tag (p q n t : List ℕ) : Type 0 where
  pub ccy : List ℕ
  pub capitals : fits currency_pattern ccy ≡ true
  pub written : p ++ t ≡ q ++ opening n (Some ccy)

-- the bytes, the open names and the number of elements begun, in each mode
pub data Holds : Mode → List ℕ → List (List ℕ) → ℕ → Type 0 where
  at-outer : {q : List ℕ} {ns : List (List ℕ)} {c : ℕ} → Room q ns c → Holds outer q ns c
  at-begun : {q : List ℕ} {ns : List (List ℕ)} {c : ℕ} → Room q ns c → Holds begun (q ++ bytes "<") ns c
  at-naming : {q n : List ℕ} {ns : List (List ℕ)} {c : ℕ} → Room q ns c → is_name n ≡ true → Holds (naming n) (q ++ (bytes "<" ++ n)) ns (suc c)
  at-attribute : {p q n r : List ℕ} {d c : ℕ} {ns : List (List ℕ)} → Room q ns c → is_name n ≡ true
      → ((t : List ℕ) → Follows (d ∷ r) t → Tag p q n t) → Holds (attribute (d ∷ r)) p (n ∷ ns) (suc c)
  at-tagged : {q n : List ℕ} {ns : List (List ℕ)} {c : ℕ} → Room q ns c → is_name n ≡ true → (ccy : Option (List ℕ)) → is_ccy ccy ≡ true
      → Holds (tagged (given ccy)) (q ++ opening n ccy) (n ∷ ns) (suc c)
  at-texting : {q n : List ℕ} {ns : List (List ℕ)} {c k : ℕ} → Room q ns c → is_name n ≡ true → (ccy : Option (List ℕ)) → is_ccy ccy ≡ true
      → (text : List ℕ) → is_content text ≡ true → length text ≡ k → Holds (texting k) (q ++ (opening n ccy ++ text)) (n ∷ ns) (suc c)
  at-ending : {p q n r : List ℕ} {d c total : ℕ} {ns : List (List ℕ)} → Place q ns c → (e : Element) → good_parts e ≡ true
      → depth_of e + length ns ≤ depth_most → total ≡ c + count_of e → total ≤ element_most
      → p ++ (d ∷ r) ≡ q ++ render e → Holds (ending (d ∷ r)) p (n ∷ ns) total
  at-between : {q : List ℕ} {ns : List (List ℕ)} {c : ℕ} → Grown q ns c → c ≤ element_most → Holds between q ns c
  at-turning : {q : List ℕ} {ns : List (List ℕ)} {c : ℕ} → Grown q ns c → c ≤ element_most → Holds turning (q ++ bytes "<") ns c
  at-whole : {p : List ℕ} {ns : List (List ℕ)} {c : ℕ} → WellFormed p → Holds whole p ns c

-- a state by its parts
abbrev pub state : Mode → List (List ℕ) → ℕ → List ℕ → List ℕ → State
state m ns c ss ds = record { mode = m; names = ns; count = c; starts = ss; depths = ds }

-- the bytes p lead to the state
abbrev pub Leads : List ℕ → State → Type 0
Leads p st = Holds st.mode p st.names st.count
