-- What a line that names a bank means for the directory that the calls are made with: the bank stands at its end.
-- Assumes nothing.
use mathlib.Core.Path.{◌≡◌, refl, ◌∙◌, ap, sym}
use mathlib.Core.List.{List, [], ◌∷◌, ◌++◌, append-nil}
use Prim.Native.Nat.{suc, ◌-◌, ◌<◌}
use native.Mathlib.Omega.{arith}
use lib.ListN.{length, take}
use lib.Seq.{take-suc-set}
use borrow.Author.Tests.{lt-ltb, le-ltb}
use Rattle.directory.specs.declared.Participant.{Participant}
use Rattle.directory.specs.declared.Gathered.{Gathered}
use Rattle.directory.specs.Directory.{records_most}
use Rattle.directory.specs.Gathering.{none_gathered, added, directory_in}
use Rattle.class.specs.Banks.{with_bank}

-- a lesson begins with no bank
pub nobody-named : directory_in none_gathered ≡ []
unfolding directory_in
nobody-named = refl

-- while fewer than sixteen are named, one more stands behind them
pub one-more-named : (g : Gathered) (p : Participant) → length g.records ≡ records_most → g.count < records_most
    → directory_in (with_bank g p) ≡ directory_in g ++ (p ∷ [])
unfolding directory_in with_bank added
one-more-named g p l h =
    let places : g.count < length g.records = omega arith in
    let none : g.count - records_most ≡ 0 = omega arith in
    let none_more : suc g.count - records_most ≡ 0 = omega arith in
    rw (le-ltb records_most g.count (omega arith), lt-ltb g.count records_most h, none, none_more, take-suc-set g.records g.count p places)
    (append-nil (take g.count g.records ++ (p ∷ [])) ∙ ap (λ (s : List Participant). s ++ (p ∷ [])) (sym (append-nil (take g.count g.records))))
