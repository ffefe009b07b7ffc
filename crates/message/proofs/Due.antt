-- The answer to a sheet is what the sheet is due by the grammar, and a sheet is due no second answer.
-- Assumes nothing.
use Rattle.std.specs.Prelude.{Err}
use mathlib.Core.Path.{◌≡◌, ap, sym, subst}
use mathlib.Core.List.{List, []}
use Prim.Native.Nat.{ℕ}
use Rattle.sheet.specs.Grammar.{sheet_most}
use Rattle.sheet.specs.Answer.{Reading, reading_of}
use Rattle.sheet.specs.Right.{Right, whole, broken, long}
use Rattle.sheet.proofs.Reading.{reading-right, one_place, formed-not-refused}
use Rattle.outline.specs.Rows.{Row, rows}
use Rattle.outline.proofs.OfSheet.{same_rows, rows-of-sheet}
use Rattle.message.specs.declared.Refusal.TheVariants.{IllFormed}
use Rattle.message.specs.Held.{kind_of}
use Rattle.message.specs.Message.{Answer}
use Rattle.message.specs.Received.{received_as, received_from, received_of}
use Rattle.message.specs.Lowest.{Told}
use Rattle.message.specs.Due.{Due, ill-formed, formed}
use Rattle.message.proofs.Lowest.{told, told-only}

-- the answer to a sheet that is rightly read so
read-due : (s : List ℕ) (r : Reading) → Right s r → Due s (received_from s r).answer
unfolding received_from
read-due s r (whole w l) =
    let told-rows : List Row = rows w.tree 0 [] in
    formed w l _
    (subst (λ (rs : List Row). Told told-rows (received_as (kind_of rs) rs).answer) (sym (rows-of-sheet s w)) (told told-rows))
read-due s r (broken k l not-formed inside front further) = ill-formed k (broken k l not-formed inside front further)
read-due s r (long l) = ill-formed sheet_most (long l)

-- the answer is what the sheet is due
pub answer-due : (s : List ℕ) → Due s (received_of s).answer
unfolding received_of
answer-due s = read-due s (reading_of s) (reading-right s)

-- and there is no second one
pub due-only : (s : List ℕ) (a b : Answer) → Due s a → Due s b → a ≡ b
due-only s a b (ill-formed place r) (ill-formed other t) = ap (λ (k : ℕ). Err (IllFormed k)) (one_place s place other r t)
due-only s a b (ill-formed place r) (formed w l c t) = absurd (formed-not-refused s w l place r)
due-only s a b (formed w l c t) (ill-formed place r) = absurd (formed-not-refused s w l place r)
due-only s a b (formed w l c t) (formed v m d u) =
    told-only (rows v.tree 0 []) c d (subst (λ (rs : List Row). Told rs c) (same_rows s w v) t) u

-- so what a sheet is due is what it is answered
pub due-received : (s : List ℕ) (a : Answer) → Due s a → (received_of s).answer ≡ a
due-received s a d = due-only s (received_of s).answer a (answer-due s) d
