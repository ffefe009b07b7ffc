-- What tags make of the bytes: an opening tag with a Ccy, a closing tag, and a closed element that joins the one around it.
-- Assumes nothing.
use Rattle.std.specs.Prelude.{Some, None}
use mathlib.Core.Path.{◌≡◌, refl, ◌∙◌}
use mathlib.Core.Bool.{true}
use mathlib.Core.List.{List, [], ◌∷◌, ◌++◌, append_assoc}
use Prim.Native.Nat.{ℕ, suc, ◌+◌, ◌≤◌}
use Prim.Native.Char.{code}
use native.Mathlib.Omega.{arith}
use lib.ListN.{length}
use borrow.Author.Tests.{eqb-true}
use Rattle.shape.specs.Text.{bytes}
use Rattle.shape.specs.Bytes.{is_capital}
use Rattle.shape.specs.Patterns.{fits, within, currency_pattern}
use Rattle.sheet.specs.Grammar.{Element, parent, Elements, opening, render, render_all, count_of, count_all, depth_of, depth_all}
use Rattle.sheet.specs.Grammar.{depth_most, element_most, is_name, is_ccy, good_parts, good_all}
use Rattle.sheet.specs.Machine.{tagged, ending, after_closing}
use Rattle.sheet.proofs.Acceptance.Parts.{name-not-empty}
use Rattle.sheet.proofs.Viability.Written.{Place, nowhere, inside, behind, grown, Room, Follows, ends, goes, Tag, Holds}
use Rattle.sheet.proofs.Viability.Written.{at-tagged, at-ending, at-between, at-whole}
use Rattle.sheet.proofs.Viability.Growing.{joins}

-- what goes as `Ccy="^^^">` behind a name and a blank makes an opening tag
pub spelled : (q n t : List ℕ) → Follows (bytes "Ccy=\"^^^\">") t → Tag ((q ++ (bytes "<" ++ n)) ++ bytes " ") q n t
unfolding fits within currency_pattern
spelled q n t (goes {b = b0} e0 (goes {b = b1} e1 (goes {b = b2} e2 (goes {b = b3} e3 (goes {b = b4} e4
    (goes {b = b5} e5 (goes {b = b6} e6 (goes {b = b7} e7 (goes {b = b8} e8 (goes {b = b9} e9 ends)))))))))) =
    let c5 : is_capital b5 ≡ true = e5 in
    let c6 : is_capital b6 ≡ true = e6 in
    let c7 : is_capital b7 ≡ true = e7 in
    record {
      ccy = b5 ∷ b6 ∷ b7 ∷ [];
      capitals = rw (c5, c6, c7);
      written = rw (
        eqb-true b0 (code "C") e0,
        eqb-true b1 (code "c") e1,
        eqb-true b2 (code "y") e2,
        eqb-true b3 (code "=") e3,
        eqb-true b4 34 e4,
        eqb-true b8 34 e8,
        eqb-true b9 (code ">") e9,
      ) (simp append_assoc);
    }

-- the last byte of an opening tag with a Ccy
pub tag-with-ccy : {p q n t : List ℕ} {ns : List (List ℕ)} {c : ℕ} → Room q ns c → is_name n ≡ true → Tag p q n t
    → Holds (tagged true) (p ++ t) (n ∷ ns) (suc c)
unfolding is_ccy
tag-with-ccy room name tag = rw tag.written (at-tagged room name (Some tag.ccy) tag.capitals)

pub one-byte-on : {p q n : List ℕ} (b : ℕ) (t : List ℕ) → Tag p q n (b ∷ t) → Tag (p ++ (b ∷ [])) q n t
one-byte-on {p} b t tag = record { ccy = tag.ccy; capitals = tag.capitals; written = append_assoc p (b ∷ []) t ∙ tag.written }

-- the closing tag of an element is read: it joins the one around it, or is the whole sheet
pub closed : {q : List ℕ} {ns : List (List ℕ)} {c : ℕ} → Place q ns c → (e : Element) → good_parts e ≡ true → depth_of e + length ns ≤ depth_most
    → c + count_of e ≤ element_most → Holds (after_closing ns) (q ++ render e) ns (c + count_of e)
closed nowhere e good depth few =
    at-whole (record { tree = e; good = record { parts = good; shallow = omega arith; few = omega arith }; written = refl })
closed (inside place name) e good depth few = at-between (joins (inside place name) e good depth) few
closed (behind (grown place name es goods room depths)) e good depth few =
    at-between (joins (behind (grown place name es goods room depths)) e good depth) few

-- an opening tag, what it holds and a closing tag, byte by byte and as an element is written
pub regrouped : (q tag held name : List ℕ) → ((q ++ (tag ++ held)) ++ bytes "<") ++ (bytes "/" ++ name) ≡ q ++ (tag ++ (held ++ (bytes "</" ++ name)))
regrouped q tag held name = simp append_assoc

-- behind `</` the closing tag of an element with children begins
pub turned : {q : List ℕ} {ns : List (List ℕ)} {c : ℕ} (n : List ℕ) (es : Elements) → Place q ns c → is_name n ≡ true → good_all es ≡ true
    → depth_all es + length (n ∷ ns) ≤ depth_most → suc c + count_all es ≤ element_most
    → Holds (ending (n ++ bytes ">")) (((q ++ (opening n None ++ render_all es)) ++ bytes "<") ++ bytes "/") (n ∷ ns) (suc c + count_all es)
unfolding good_parts depth_of count_of render
turned [] es place name goods depths few = absurd (name-not-empty name)
turned {q} {c} (x ∷ n) es place name goods depths few =
    let number : suc c + count_all es ≡ c + suc (count_all es) = omega arith in
    let front : List ℕ = (q ++ (opening (x ∷ n) None ++ render_all es)) ++ bytes "<" in
    let tail : List ℕ = x ∷ n ++ bytes ">" in
    let written = append_assoc front (bytes "/") tail ∙ regrouped q (opening (x ∷ n) None) (render_all es) tail in
    at-ending place (parent (x ∷ n) es) (rw (name, goods)) (omega arith) number few written
