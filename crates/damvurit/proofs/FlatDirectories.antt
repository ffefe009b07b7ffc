-- Going through the numbers of a directory four at a time: what is gathered of all of them is what is gathered of those that are left, behind the
-- records before. Fewer than four that are left, or a record that is not good, make the whole no directory.
-- Assumes nothing.
use mathlib.Core.Path.{◌≡◌, refl}
use mathlib.Core.Bool.{Bool, true, false, cond}
use mathlib.Core.List.{List, [], ◌∷◌, ◌++◌}
use Rattle.std.specs.Prelude.{Some, None, min}
use native.Mathlib.Omega.{arith}
use Prim.Native.Nat.{ℕ, suc, ◌<◌}
use lib.ListN.{length}
use Rattle.directory.specs.declared.Participant.{Participant}
use Rattle.directory.specs.declared.Gathered.{Gathered}
use Rattle.directory.specs.Gathering.{none_gathered, added, gathered_from, gathered}
use Rattle.damvurit.specs.Flat.{record_good, record_of, record_in, flat_good, flat_records, flat_directory}

-- what is gathered of numbers behind records that were gathered before
unfoldable pub gathered_behind : Gathered → List ℕ → Gathered
gathered_behind g numbers = cond (flat_good numbers) (gathered_from g (flat_records numbers)) none_gathered

pub at-start : (s : List ℕ) → gathered (flat_directory s) ≡ gathered_behind none_gathered s
unfolding flat_directory gathered gathered_from gathered_behind
at-start s = either (flat_good s)
  where
    either : (good : Bool) → gathered_from none_gathered (cond good (flat_records s) []) ≡ cond good (gathered_from none_gathered (flat_records s)) none_gathered
    either true = refl
    either false = refl

-- no numbers are left
pub none_left : (g : Gathered) (xs : List ℕ) → length xs ≡ 0 → gathered_behind g xs ≡ g
unfolding gathered_behind flat_good flat_records gathered_from
none_left g [] none = refl
none_left g (a ∷ xs) none = absurd (omega arith)

-- a row off the front: four numbers, or as many as there are. One that is no record makes the whole no directory; one that is goes after the others
pub row-missing : (g : Gathered) (row rest : List ℕ) → length row ≡ min 4 (length (row ++ rest)) → 0 < length (row ++ rest) → record_in row ≡ None
    → gathered_behind g (row ++ rest) ≡ none_gathered
unfolding gathered_behind flat_good record_in
row-missing g [] rest long some none = absurd (omega arith)
row-missing g (a ∷ []) [] long some none = refl
row-missing g (a ∷ []) (x ∷ rest) long some none = absurd (omega arith)
row-missing g (a ∷ b ∷ []) [] long some none = refl
row-missing g (a ∷ b ∷ []) (x ∷ rest) long some none = absurd (omega arith)
row-missing g (a ∷ b ∷ c ∷ []) [] long some none = refl
row-missing g (a ∷ b ∷ c ∷ []) (x ∷ rest) long some none = absurd (omega arith)
row-missing g (a ∷ b ∷ c ∷ d ∷ []) rest long some none = either (record_good b c d) refl
  where
    either : (good : Bool) → record_good b c d ≡ good → gathered_behind g (a ∷ b ∷ c ∷ d ∷ rest) ≡ none_gathered
    either true e = let there : Some (record_of a b c d) ≡ None = rw e at none in absurd cc
    either false e = rw e
row-missing g (a ∷ b ∷ c ∷ d ∷ x ∷ row) rest long some none = absurd (omega arith)

pub row-there : (g : Gathered) (row rest : List ℕ) (p : Participant) → record_in row ≡ Some p
    → gathered_behind g (row ++ rest) ≡ gathered_behind (added g p) rest
unfolding gathered_behind flat_good flat_records gathered_from record_in
row-there g [] rest p is = absurd cc
row-there g (a ∷ []) rest p is = absurd cc
row-there g (a ∷ b ∷ []) rest p is = absurd cc
row-there g (a ∷ b ∷ c ∷ []) rest p is = absurd cc
row-there g (a ∷ b ∷ c ∷ d ∷ []) rest p is = either (record_good b c d) refl
  where
    either : (good : Bool) → record_good b c d ≡ good → gathered_behind g (a ∷ b ∷ c ∷ d ∷ rest) ≡ gathered_behind (added g p) rest
    either true e =
        let there : Some (record_of a b c d) ≡ Some p = rw e at is in
        let same : record_of a b c d ≡ p = cc in
        rw (e, same)
    either false e = let there : None ≡ Some p = rw e at is in absurd cc
row-there g (a ∷ b ∷ c ∷ d ∷ x ∷ row) rest p is = absurd cc

pub one-more : (g : Gathered) (p : Participant) → (added g p).count ≡ suc g.count
unfolding added
one-more g p = refl
