-- A table of refusals and an answer whose number none of its lines has: no test of the table holds, and the answer is the one behind the table. And
-- a room in which a seat begins with another head is another room, so a room with a step more in one of its seats is.
-- Assumes nothing.
use mathlib.Core.Path.{◌≡◌, refl, sym, ap, ◌∙◌}
use mathlib.Core.Bool.{Bool, true, false, ◌&&◌, not, cond}
use mathlib.Core.List.{List, [], ◌∷◌, ◌++◌}
use Prim.Native.Nat.{ℕ, suc, ◌*◌, ◌<◌}
use native.Mathlib.Omega.{arith}
use lib.Dec.{eqb}
use lib.ListN.{length, take, drop}
use lib.Seq.{drop_at, length-take-le}
use borrow.Author.Tests.{eqb-false, not-true}
use Rattle.shape.proofs.Tests.{and_left, and_right}
use Rattle.slip.specs.Meaning.{seats}
use Rattle.layout.specs.declared.rows.Head.{Head}
use Rattle.layout.specs.declared.rows.Step.{Step}
use Rattle.layout.specs.Parts.{part, put}
use Rattle.layout.specs.Rows.{head_row, head_in}
use Rattle.layout.specs.Seat.{seat_long, room_long, head_of, with_head, with_step, seat_of, with_seat}
use Rattle.journal.specs.Working.{effect, counting, stepped}
use Rattle.seat.specs.Fit.{room_fits}
use Rattle.seat.proofs.Rooms.{room-long}
use Rattle.centre.specs.Answers.{Told, first}

-- an answer with another number than the line in front: the line's test does not hold, and the rest of the table answers
passed : (t : Bool) (line rest now : Told) → not (eqb line.number now.number) ≡ true → now ≡ cond t line rest → (t ≡ false) × (now ≡ rest)
passed true line rest now n e =
    absurd (eqb-false line.number now.number (not-true (eqb line.number now.number) n) (ap (λ (x : Told). x.number) (sym e)))
passed false line rest now n e = (refl, e)

-- no line of a table has a number; no test of it holds
abbrev pub others : ℕ → List (Bool × Told) → Bool
others n [] = true
others n (r ∷ rest) = not (eqb r.1.number n) && others n rest

abbrev pub AllPass : List (Bool × Told) → Type 0
AllPass [] = Unit {0}
AllPass (r ∷ rest) = (r.0 ≡ false) × AllPass rest

-- an answer whose number no line has comes from behind the table
pub all-passed : (table : List (Bool × Told)) (last now : Told) → others now.number table ≡ true → now ≡ first table last
    → AllPass table × (now ≡ last)
all-passed [] last now n e = (tt, e)
all-passed (r ∷ rest) last now n e =
    let here = and_left (not (eqb r.1.number now.number)) (others now.number rest) n in
    let behind-it = and_right (not (eqb r.1.number now.number)) (others now.number rest) n in
    let one = passed r.0 r.1 (first rest last) now here e in
    let more = all-passed rest last now behind-it one.1 in
    ((one.0, more.0), more.1)

-- the head that a seat begins with is the one that is found in its room
pub put-head : (room : List ℕ) (k : ℕ) (h : Head) (rest : List ℕ) → length room ≡ room_long → k < seats
    → head_of (seat_of (with_seat room k (head_row h ++ rest)) k) ≡ h
unfolding head_of seat_of with_seat part put head_in head_row
put-head room k h rest l b =
    ap (λ (t : List ℕ). head_in (take 3 (take seat_long t)))
    (drop_at (take (seat_long * k) room) ((head_row h ++ rest) ++ drop seat_long (drop (seat_long * k) room)) (seat_long * k)
    (length-take-le (seat_long * k) room (omega arith)))

-- so a room with a seat that begins with another head is another room
pub other-room : (room : List ℕ) (k : ℕ) (h : Head) (rest : List ℕ) → room_fits room ≡ true → k < seats → room ≡ with_seat room k (head_row h ++ rest)
    → head_of (seat_of room k) ≡ h
other-room room k h rest f b e =
    ap (λ (r : List ℕ). head_of (seat_of r k)) e ∙ put-head room k h rest (room-long room f) b

-- a room with one step more in a seat counts it
pub step-counted : (room : List ℕ) (k : ℕ) (x : Step) → room_fits room ≡ true → k < seats → room ≡ with_seat room k (stepped x (seat_of room k)) → ⊥
unfolding stepped with_head put
step-counted room k x f b e =
    let s : List ℕ = seat_of room k in
    let head = other-room room k (counting (suc (head_of s).steps) (head_of s)) (drop 3 (with_step (effect x s) (head_of s).steps x)) f b e in
    let more : (head_of s).steps ≡ suc (head_of s).steps = ap (λ (h : Head). h.steps) head in
    omega arith
