-- Two sums for each record: the test at a record and its two sums, one record further on, and at the end. Where it holds, there are twice
-- as many sums as records.
-- Assumes nothing.
use mathlib.Core.Path.{◌≡◌, refl, ap, ◌∙◌}
use mathlib.Core.Bool.{Bool, true, false, ◌&&◌, false≢true}
use mathlib.Core.List.{List, [], ◌∷◌, ◌++◌}
use Prim.Native.Nat.{ℕ, ◌*◌, ◌≤◌}
use native.Mathlib.Omega.{arith}
use Rattle.std.proofs.Common.{min}
use lib.ListN.{length, get_or, take, length-take, length-append}
use Rattle.shape.proofs.Tests.{and_right}
use Rattle.directory.specs.declared.Participant.{Participant}
use Rattle.directory.specs.declared.Gathered.{Gathered}
use Rattle.directory.specs.Directory.{records_most}
use Rattle.directory.specs.Gathering.{records_in}
use Rattle.layout.specs.Seat.{accounts}
use Rattle.seat.specs.Calls.{pair_good, sums_good}

pub good_length : (dir : List Participant) (sums : List ℕ) → sums_good dir sums ≡ true → length sums ≡ 2 * length dir
unfolding sums_good
good_length [] [] e = refl
good_length [] (a ∷ sums) e = absurd (false≢true e)
good_length (p ∷ dir) [] e = absurd (false≢true e)
good_length (p ∷ dir) (a ∷ []) e = absurd (false≢true e)
good_length (p ∷ dir) (a ∷ b ∷ sums) e =
    let rest : length sums ≡ 2 * length dir = good_length dir sums (and_right (pair_good p a b) (sums_good dir sums) e) in
    omega (arith, rest)

good_none : sums_good [] [] ≡ true
unfolding sums_good
good_none = refl

good-one : (p : Participant) (dir : List Participant) (a b : ℕ) (sums : List ℕ)
    → sums_good (p ∷ dir) (a ∷ b ∷ sums) ≡ (pair_good p a b && sums_good dir sums)
unfolding sums_good
good-one p dir a b sums = refl

-- the records of a directory that holds few are few
pub records-few : (g : Gathered) → g.count ≤ records_most → length (records_in g) ≤ records_most
records-few g h =
    let long : length (take g.count g.records) ≡ min g.count (length g.records) = length-take g.count g.records in
    omega (arith, long, h)

-- no more sums than a seat has accounts
pub sums-few : (dir : List Participant) (sums : List ℕ) → length dir ≤ records_most → sums_good dir sums ≡ true → length sums ≤ accounts
sums-few dir sums few e = omega (arith, good_length dir sums e, few)

module _ (dir : List Participant) (sums : List ℕ) where
  -- another number of sums
  pub pairs-unlike : (length sums ≡ 2 * length dir → ⊥) → sums_good dir sums ≡ false
  pairs-unlike apart = go (sums_good dir sums) refl
    where
      go : (t : Bool) → sums_good dir sums ≡ t → sums_good dir sums ≡ false
      go true e = absurd (apart (good_length dir sums e))
      go false e = e

-- one record and its two sums, and what is left
pair-turn : (p : Participant) (dir : List Participant) (pair sums : List ℕ) → length pair ≡ 2
    → sums_good (p ∷ dir) (pair ++ sums) ≡ (pair_good p (get_or pair 0 0) (get_or pair 1 0) && sums_good dir sums)
pair-turn p dir [] sums long = absurd (omega (arith, long))
pair-turn p dir (a ∷ []) sums long = absurd (omega (arith, long))
pair-turn p dir (a ∷ b ∷ []) sums long = good-one p dir a b sums
pair-turn p dir (a ∷ b ∷ c ∷ pair) sums long = absurd (omega (arith, long))

module _ {p : Participant} {dir rest : List Participant} {sums : List ℕ} (pair left : List ℕ) (one : dir ≡ p ∷ rest) (two : sums ≡ pair ++ left)
    (long : length pair ≡ 2) where
  pairs-turn : sums_good dir sums ≡ (pair_good p (get_or pair 0 0) (get_or pair 1 0) && sums_good rest left)
  pairs-turn = ap (λ (t : List Participant). sums_good t sums) one ∙ ap (sums_good (p ∷ rest)) two ∙ pair-turn p rest pair left long

  pub pairs-hit : pair_good p (get_or pair 0 0) (get_or pair 1 0) ≡ true → sums_good dir sums ≡ sums_good rest left
  pairs-hit e = pairs-turn ∙ ap (λ (t : Bool). t && sums_good rest left) e

  pub pairs-miss : pair_good p (get_or pair 0 0) (get_or pair 1 0) ≡ false → sums_good dir sums ≡ false
  pairs-miss e = pairs-turn ∙ ap (λ (t : Bool). t && sums_good rest left) e

  pub pairs-left : length sums ≡ 2 * length dir → length left ≡ 2 * length rest
  pairs-left h = omega (arith, h, ap length one, ap length two, long, length-append pair left)

pub pairs_end : (dir : List Participant) (sums : List ℕ) → length dir ≡ 0 → length sums ≡ 0 → sums_good dir sums ≡ true
unfolding sums_good
pairs_end [] [] h k = refl
pairs_end [] (a ∷ sums) h k = absurd (omega (arith, k))
pairs_end (p ∷ dir) sums h k = absurd (omega (arith, h))
