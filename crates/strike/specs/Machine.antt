-- A room of seats that takes calls, and what is asked of it so that demand 3 holds. Nothing is said of what a call, an answer or the numbers
-- of a seat are: an answer is all that a call gives back, a slip that it wrote among it.
use Rattle.std.specs.Prelude.{◌≡◌, ℕ, Option, Some}

-- what a call did in its seat, by its answer: it changed nothing, it was a step, it took the last step back, or it opened or closed the seat
pub data Deed : Type 0 where
  quiet : Deed
  step : Deed
  back : Deed
  fresh : Deed

-- `own` and `answered` work on one seat's part: what a call makes of it, and what it answers
pub record Machine : Type 1 where
  pub Room : Type 0
  pub Call : Type 0
  pub Answer : Type 0
  pub Part : Type 0
  pub new : Room
  pub seat_of : Call → Option ℕ
  pub after : Call → Room → Room
  pub answer : Call → Room → Answer
  pub part : ℕ → Room → Part
  pub own : Call → Part → Part
  pub answered : Call → Part → Answer
  pub deed : Call → Answer → Deed

pub record Laws (M : Machine) : Type 1 where
  -- a new room is fit, and each call keeps it so
  pub Fit : M.Room → Type 0
  pub new-fit : Fit M.new
  pub keeps-fit : (c : M.Call) (r : M.Room) → Fit r → Fit (M.after c r)
  -- a call goes by its own seat's part alone, and leaves the parts of the other seats
  pub by-own : (c : M.Call) (k : ℕ) (r : M.Room) → Fit r → M.seat_of c ≡ Some k → M.part k (M.after c r) ≡ M.own c (M.part k r)
  pub by-answered : (c : M.Call) (k : ℕ) (r : M.Room) → Fit r → M.seat_of c ≡ Some k → M.answer c r ≡ M.answered c (M.part k r)
  pub others-stay : (c : M.Call) (k : ℕ) (r : M.Room) → Fit r → (M.seat_of c ≡ Some k → ⊥) → M.part k (M.after c r) ≡ M.part k r
  -- the parts that seats have: a new one, and what a call for the seat makes of one
  pub Sound : ℕ → M.Part → Type 0
  pub new-sound : (k : ℕ) → Sound k (M.part k M.new)
  pub keeps-sound : (c : M.Call) (k : ℕ) (p : M.Part) → Sound k p → M.seat_of c ≡ Some k → Sound k (M.own c p)
  -- a quiet call changes nothing
  pub quiet-stays : (c : M.Call) (k : ℕ) (p : M.Part) → Sound k p → M.seat_of c ≡ Some k → M.deed c (M.answered c p) ≡ quiet → M.own c p ≡ p
  -- a step and then a take-back give back the part before
  pub back-restores : (c b : M.Call) (k : ℕ) (p : M.Part) → Sound k p → M.seat_of c ≡ Some k → M.seat_of b ≡ Some k
      → M.deed c (M.answered c p) ≡ step → M.deed b (M.answered b (M.own c p)) ≡ back → M.own b (M.own c p) ≡ p
  -- nothing can be taken back in a new seat, or right after it was opened or closed
  pub none-in-new : (b : M.Call) (k : ℕ) → M.seat_of b ≡ Some k → M.deed b (M.answered b (M.part k M.new)) ≡ back → ⊥
  pub none-after-fresh : (c b : M.Call) (k : ℕ) (p : M.Part) → Sound k p → M.seat_of c ≡ Some k → M.seat_of b ≡ Some k
      → M.deed c (M.answered c p) ≡ fresh → M.deed b (M.answered b (M.own c p)) ≡ back → ⊥
