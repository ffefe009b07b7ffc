-- What reading an element finds, said of the machine in any surroundings that leave it so many levels.
use Rattle.std.specs.Prelude.{◌≡◌, Bool, not, ◌&&◌, List, ℕ, ◌+◌, ◌≤◌, ◌<◌, ltb, eqb, length, Result, Ok, Err}
use Prim.Native.Char.{code}
use Rattle.sheet.specs.Grammar.{depth_most, element_most}
use Rattle.sheet.specs.Machine.{Mode, begun, State, after_closing}
use Rattle.sheet.specs.Answer.{refused}
use Rattle.sheet.specs.Parts.{run_at}
use Rattle.sheet.specs.declared.parts.Refused.{Refused}
use Rattle.sheet.specs.declared.element.Came.{Came}

-- how far reading came, with the elements that were begun, is what reading an element gives
abbrev pub came_of : Result ℕ Refused → ℕ → Result Came Refused
came_of (Ok p) count = Ok (record { place = p; count = count })
came_of (Err e) count = Err e

-- a child may begin with the byte, right behind an opening tag
abbrev pub may_hold : ℕ → Bool → ℕ → ℕ → Bool
may_hold b ccy left count = eqb b (code "<") && not ccy && ltb 1 left && ltb count element_most

abbrev pub state_of : Mode → List (List ℕ) → ℕ → List ℕ → List ℕ → State
state_of m names count starts depths = record { mode = m; names = names; count = count; starts = starts; depths = depths }

-- from after an element's `<` reading comes to the place after the element, or is refused
abbrev pub ElementComes : List ℕ → ℕ → List (List ℕ) → ℕ → List ℕ → List ℕ → Result Came Refused → List ℕ → List ℕ → Type 0
ElementComes s at names count starts depths (Ok r) starts' depths' =
    run_at s (state_of begun names count starts depths) at ≡ run_at s (state_of (after_closing names) names r.count starts' depths') r.place
ElementComes s at names count starts depths (Err e) starts' depths' =
    run_at s (state_of begun names count starts depths) at ≡ refused e.place

-- where an element is read from: after a `<` of a sheet, with a level and a place in both lists left for it
abbrev pub ElementRoom : List ℕ → ℕ → ℕ → ℕ → List ℕ → List ℕ → Type 0
ElementRoom s at left count starts depths =
    (0 < at) × (at ≤ length s) × (0 < left) × (left ≤ depth_most)
    × (count < element_most) × (length starts ≡ element_most) × (length depths ≡ element_most)

pub record ElementRead (s : List ℕ) (at left count : ℕ) (starts depths : List ℕ) (r : Result Came Refused) (starts' depths' : List ℕ) : Type 0 where
  pub comes : (names : List (List ℕ)) → length names + left ≡ depth_most → ElementComes s at names count starts depths r starts' depths'
  pub places : (came : Came) → r ≡ Ok came → (at < came.place) × (came.place ≤ length s) × (count < came.count) × (came.count ≤ element_most)
  pub long-starts : length starts' ≡ element_most
  pub long-depths : length depths' ≡ element_most
