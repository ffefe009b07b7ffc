-- The one number that C gets for a sheet. Document 01 has no such number: it is our own, made so that an answer fits a register.
-- A sheet has at most 256 elements and a place is at most 8192, so a number of elements and a refusal never meet.
use Rattle.std.specs.Prelude.{cond, List, ℕ, ◌+◌, ◌-◌, ◌*◌, ltb, get_or}
use Rattle.sheet.specs.Grammar.{element_most}
use Rattle.sheet.specs.Answer.{Reading, accepted, refused, empty_list}

-- what is added to the place of a refusal
abbrev pub refused_from : ℕ
refused_from = 1000000

-- the number of elements of an accepted sheet; of a refused one its place and a million
unfoldable pub number_of : Reading → ℕ
number_of (accepted n starts depths) = n
number_of (refused i) = refused_from + i

-- where the elements start and how deep each stands; of a refused sheet there are only empty places
abbrev pub starts_of : Reading → List ℕ
starts_of (accepted n starts depths) = starts
starts_of (refused i) = empty_list

abbrev pub depths_of : Reading → List ℕ
depths_of (accepted n starts depths) = depths
depths_of (refused i) = empty_list

-- the start of an element, below element_most; the depth of one, below twice that; else the number above. 0 for an element that is not there
abbrev pub number_at : Reading → ℕ → ℕ
number_at a which =
    cond (ltb which element_most) (get_or (starts_of a) which 0)
    (cond (ltb which (2 * element_most)) (get_or (depths_of a) (which - element_most) 0)
    (number_of a))
