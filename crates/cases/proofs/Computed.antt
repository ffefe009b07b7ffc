-- The cases hold because every call, worked out, gives what stands beside it: both sides of the statement come to the same lists of answers.
-- They are worked out case by case, and then joined.
-- Assumes nothing.
use mathlib.Core.List.{List, [], ◌∷◌, ◌++◌, map, map-append}
use mathlib.Core.Path.{◌≡◌, refl}
use Rattle.cases.specs.Cases.{Case, case1, case2, case3, case4, case5, case6, case7, case8, case9, case10, case11, played, Cases}
use Rattle.cases.proofs.Opened.{opened}
use Rattle.cases.proofs.Filled.{filled}

-- the statement, over some of the cases
record Hold (cs : List Case) : Type 0 where
  same : map played cs ≡ map (λ (case : Case). case.answers) cs

infixr 50 ◌and◌
◌and◌ : {cs ds : List Case} → Hold cs → Hold ds → Hold (cs ++ ds)
◌and◌ {cs = cs} {ds = ds} h k = record { same = rw (map-append, map-append, h.same, k.same) }

holds1 : Hold case1
unfolding opened
holds1 = record { same = refl }

holds2 : Hold case2
unfolding opened
holds2 = record { same = refl }

holds3 : Hold case3
unfolding opened
holds3 = record { same = refl }

holds4 : Hold case4
unfolding opened
holds4 = record { same = refl }

holds5 : Hold case5
unfolding opened
holds5 = record { same = refl }

holds6 : Hold case6
unfolding opened
holds6 = record { same = refl }

holds7 : Hold case7
unfolding opened
holds7 = record { same = refl }

holds8 : Hold case8
unfolding opened
holds8 = record { same = refl }

holds9 : Hold case9
unfolding opened
holds9 = record { same = refl }

holds10 : Hold case10
unfolding opened
holds10 = record { same = refl }

holds11 : Hold case11
holds11 = record { same = filled }

pub cases : Cases
cases = (holds1 and holds2 and holds3 and holds4 and holds5 and holds6 and holds7 and holds8 and holds9 and holds10 and holds11).same
