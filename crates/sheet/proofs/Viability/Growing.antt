-- A part that grows stays good: a name or a text by one byte, an element's children by one child.
-- Assumes nothing.
use Rattle.std.specs.Prelude.{None}
use mathlib.Core.Path.{◌≡◌, refl}
use mathlib.Core.Bool.{Bool, true}
use mathlib.Core.List.{List, [], ◌∷◌, ◌++◌, append_assoc}
use Prim.Native.Nat.{ℕ, suc, ◌+◌, ◌-◌, ◌≤◌, ◌<◌}
use native.Mathlib.Omega.{arith}
use lib.ListN.{length, length-append}
use borrow.Author.Tests.{le-leb}
use Rattle.shape.specs.Bytes.{every, is_text}
use Rattle.shape.proofs.Tests.{and_left, and_right}
use Rattle.sheet.specs.Grammar.{Element, Elements, one, more, opening, render, render_all, count_of, count_all}
use Rattle.sheet.specs.Grammar.{depth_of, depth_all, good_parts, good_all, name_most, text_most, depth_most, is_name_byte, is_name, is_content}
use Rattle.sheet.proofs.Acceptance.Parts.{name-letter, name-bytes, name-not-empty, content-bytes, first_good, others-good}
use Rattle.sheet.proofs.Acceptance.Sizes.{some-depth}
use Rattle.sheet.proofs.Viability.Written.{Place, inside, behind, Grown, grown}

-- one element more behind the others
appended : Elements → Element → Elements
appended (one e) last = more e (one last)
appended (more e es) last = more e (appended es last)

appended-render : (es : Elements) (last : Element) → render_all (appended es last) ≡ render_all es ++ render last
unfolding appended render_all
appended-render (one e) last = refl
appended-render (more e es) last = rw (appended-render es last, append_assoc)

appended-behind : (q tag : List ℕ) (es : Elements) (last : Element)
    → q ++ (tag ++ render_all (appended es last)) ≡ (q ++ (tag ++ render_all es)) ++ render last
appended-behind q tag es last = simp (appended-render, append_assoc)

appended-count : (es : Elements) (last : Element) → count_all (appended es last) ≡ count_all es + count_of last
unfolding appended count_all
appended-count (one e) last = refl
appended-count (more e es) last = rw (appended-count es last) (omega arith)

appended-depth : (es : Elements) (last : Element) (d : ℕ) → depth_all es ≤ d → depth_of last ≤ d → depth_all (appended es last) ≤ d
unfolding appended depth_all
appended-depth (one e) last d h l = omega arith
appended-depth (more e es) last d h l = let t = appended-depth es last d (omega arith) l in omega arith

appended-good : (es : Elements) (last : Element) → good_all es ≡ true → good_parts last ≡ true → good_all (appended es last) ≡ true
unfolding appended good_all
appended-good (one e) last g h = rw (g, h)
appended-good (more e es) last g h = rw (first_good e es g, appended-good es last (others-good e es g) h)

-- a finished child joins the children of the element around it
pub joins : {q n : List ℕ} {ns : List (List ℕ)} {c : ℕ} → Place q (n ∷ ns) c → (e : Element) → good_parts e ≡ true
    → depth_of e + length (n ∷ ns) ≤ depth_most → Grown (q ++ render e) (n ∷ ns) (c + count_of e)
unfolding render_all count_all depth_all good_all
joins (inside {q} {n} place name) e good depth =
    let deep = some-depth e in
    rw (append_assoc q (opening n None) (render e)) (grown place name (one e) good (omega arith) depth)
joins (behind (grown {q} {n} {ns} {c} place name es goods room depths)) e good depth =
    let number : suc c + count_all (appended es e) ≡ suc c + count_all es + count_of e = rw (appended-count es e) (omega arith) in
    let deep = appended-depth es e (depth_most - length (n ∷ ns)) (omega arith) (omega arith) in
    rw (← appended-behind q (opening n None) es e, ← number) (grown place name (appended es e) (appended-good es e goods good) room (omega arith))

every-longer : (f : ℕ → Bool) (s : List ℕ) (b : ℕ) → every f s ≡ true → f b ≡ true → every f (s ++ (b ∷ [])) ≡ true
every-longer f [] b e h = rw h
every-longer f (x ∷ s) b e h = rw (and_left (f x) (every f s) e, every-longer f s b (and_right (f x) (every f s) e) h)

-- a name goes on with a letter or digit, up to 35
pub name-grows : (n : List ℕ) (b : ℕ) → is_name n ≡ true → is_name_byte b ≡ true → length n < name_most → is_name (n ++ (b ∷ [])) ≡ true
unfolding is_name
name-grows [] b e h l = absurd (name-not-empty e)
name-grows (x ∷ n) b e h l =
    let others = every-longer is_name_byte n b (name-bytes x n e) h in
    let short = le-leb (suc (length (n ++ (b ∷ [])))) name_most (rw length-append (omega arith)) in
    rw (name-letter x n e, others, short)

-- a text goes on with a byte of a text, up to 140
pub content-grows : (s : List ℕ) (b : ℕ) → is_content s ≡ true → is_text b ≡ true → length s < text_most → is_content (s ++ (b ∷ [])) ≡ true
unfolding is_content
content-grows s b e h l =
    let texts = every-longer is_text s b (content-bytes s e) h in
    let long = le-leb 1 (length (s ++ (b ∷ []))) (rw length-append (omega arith)) in
    let short = le-leb (length (s ++ (b ∷ []))) text_most (rw length-append (omega arith)) in
    rw (long, short, texts)
