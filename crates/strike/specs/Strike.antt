-- Demand 3 of document 01, over any machine: for any list of calls on any seats, from a new room, and any chosen seat, strike out all calls for
-- other seats, then each successful take-back with the step it took back and every call between them. Run from a new room, the calls left give
-- that seat the same stored numbers and each of them its same answer and slip.
use Rattle.std.specs.Prelude.{◌≡◌, Bool, true, false, cond, List, [], ◌∷◌, ◌++◌, map, ℕ, eqb, Option, Some, None}
use Rattle.strike.specs.Machine.{Deed, quiet, step, back, fresh, Machine, Laws}

module _ (M : Machine) where
  -- a call with its answer
  abbrev pub Event : Type 0
  Event = M.Call × M.Answer

  -- the room behind a list of calls, and what each of them answered
  unfoldable pub after_all : List M.Call → M.Room → M.Room
  after_all [] r = r
  after_all (c ∷ calls) r = after_all calls (M.after c r)

  unfoldable pub events : List M.Call → M.Room → List Event
  events [] r = []
  events (c ∷ calls) r = (c, M.answer c r) ∷ events calls (M.after c r)

  abbrev pub is_for : ℕ → Option ℕ → Bool
  is_for k None = false
  is_for k (Some seat) = eqb seat k

  -- what is left when all calls for other seats are struck out, and those that name none
  unfoldable pub own_events : ℕ → List Event → List Event
  own_events k [] = []
  own_events k (e ∷ es) = cond (is_for k (M.seat_of e.0)) (e ∷ own_events k es) (own_events k es)

  -- of the events so far, the newest first: without the newest step and all that came behind it
  unfoldable pub before_step : List Event → List Event
  before_step [] = []
  before_step (e ∷ older) = elim (M.deed e.0 e.1) [ step ↦ older | quiet ↦ before_step older | back ↦ before_step older | fresh ↦ before_step older ]

  -- one event more: a take-back strikes itself out with the step and what stands between
  abbrev pub struck : Deed → Event → List Event → List Event
  struck quiet e older = e ∷ older
  struck step e older = e ∷ older
  struck fresh e older = e ∷ older
  struck back e older = before_step older

  -- the events that are left, where these older ones are left already, the newest first
  unfoldable pub left_from : List Event → List Event → List Event
  left_from older [] = older
  left_from older (e ∷ es) = left_from (struck (M.deed e.0 e.1) e older) es

  -- and in the order in which they came
  abbrev pub reversed : List Event → List Event
  reversed [] = []
  reversed (e ∷ es) = reversed es ++ (e ∷ [])

  unfoldable pub left : ℕ → List Event → List Event
  left k es = reversed (left_from [] (own_events k es))

  abbrev pub calls_of : List Event → List M.Call
  calls_of es = map (λ (e : Event). e.0) es

  -- the demand
  pub record Struck (k : ℕ) (calls : List M.Call) : Type 0 where
    pub same-answers : events (calls_of (left k (events calls M.new))) M.new ≡ left k (events calls M.new)
    pub same_numbers : M.part k (after_all (calls_of (left k (events calls M.new))) M.new) ≡ M.part k (after_all calls M.new)

  abbrev pub Demand3 : Type 1
  Demand3 = Laws M → (k : ℕ) (calls : List M.Call) → Struck k calls
