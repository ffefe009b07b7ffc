-- What is gathered is the directory: all records are counted, sixteen are kept, and the test of fitness on what was gathered is the
-- directory's own, since a directory with more than sixteen records is unfit by its count alone. So is that of the directory that what was
-- gathered stands for, which has as many records as were counted.
-- Assumes nothing.
use mathlib.Core.Path.{◌≡◌, refl, sym, ◌∙◌}
use mathlib.Core.Bool.{Bool, true, false, cond, false≢true}
use mathlib.Core.List.{List, [], ◌∷◌, ◌++◌, append-nil}
use Prim.Native.Nat.{suc, ◌+◌, ◌-◌, ◌≤◌, ◌<◌}
use native.Mathlib.Omega.{arith}
use lib.Dec.{leb, ltb}
use lib.ListN.{length, set, replicate, length-set, length-append, length-take, length-replicate}
use lib.Seq.{take-suc-set, append_snoc}
use borrow.Author.Tests.{lt-ltb, leb-true}
use Rattle.shape.proofs.Tests.{and-false}
use Rattle.directory.specs.declared.Participant.{Participant}
use Rattle.directory.specs.declared.Gathered.{Gathered}
use Rattle.directory.specs.Directory.{records_most, is_fit}
use Rattle.directory.specs.Gathering.{nobody, none_gathered, added, gathered_from, gathered, records_in, directory_in, fit_gathered}
use Rattle.directory.proofs.Finds.{fit-few}

count-from : (g : Gathered) (dir : List Participant) → (gathered_from g dir).count ≡ g.count + length dir
unfolding gathered_from added
count-from g [] = omega arith
count-from g (p ∷ dir) = count-from (added g p) dir ∙ omega arith

-- a record more, while there is a place for it, stands behind those before
added-records : (g : Gathered) (p : Participant) → length g.records ≡ records_most → g.count < records_most
    → records_in (added g p) ≡ records_in g ++ (p ∷ [])
unfolding added
added-records g p places h = rw (lt-ltb g.count records_most h) (take-suc-set g.records g.count p (omega arith))

added-places : (g : Gathered) (p : Participant) → length g.records ≡ records_most → length (added g p).records ≡ records_most
unfolding added
added-places g p places = by-room (ltb g.count records_most)
  where
    by-room : (room : Bool) → length (cond room (set g.records g.count p) g.records) ≡ records_most
    by-room true = length-set g.records g.count p ∙ places
    by-room false = places

added-count : (g : Gathered) (p : Participant) → (added g p).count ≡ suc g.count
unfolding added
added-count g p = refl

records-from : (g : Gathered) (dir : List Participant) → length g.records ≡ records_most → g.count + length dir ≤ records_most
    → records_in (gathered_from g dir) ≡ records_in g ++ dir
unfolding gathered_from
records-from g [] places h = sym (append-nil (records_in g))
records-from g (p ∷ dir) places h =
    records-from (added g p) dir (added-places g p places) (omega (arith, added-count g p))
    ∙ rw (added-records g p places (omega arith)) (append_snoc (records_in g) p dir)

places-from : (g : Gathered) (dir : List Participant) → length g.records ≡ records_most → length (gathered_from g dir).records ≡ records_most
unfolding gathered_from
places-from g [] places = places
places-from g (p ∷ dir) places = places-from (added g p) dir (added-places g p places)

gathered-places : (dir : List Participant) → length (gathered dir).records ≡ records_most
unfolding gathered
gathered-places dir = places-from none_gathered dir refl

pub gathered-count : (dir : List Participant) → (gathered dir).count ≡ length dir
unfolding gathered
gathered-count dir = count-from none_gathered dir ∙ omega arith

pub gathered-records : (dir : List Participant) → length dir ≤ records_most → records_in (gathered dir) ≡ dir
unfolding gathered
gathered-records dir h = records-from none_gathered dir refl (omega arith)

pub fits-is-fit : (dir : List Participant) → fit_gathered (gathered dir) ≡ is_fit dir
unfolding fit_gathered is_fit
fits-is-fit dir = by_count (leb (length dir) records_most) refl
  where
    by_count : (few : Bool) → leb (length dir) records_most ≡ few → fit_gathered (gathered dir) ≡ is_fit dir
    by_count true e = rw (gathered-records dir (leb-true (length dir) records_most e), gathered-count dir)
    by_count false e = rw (gathered-count dir, e, and-false (leb 1 (length dir)) false refl)

-- no more records than places: nothing stands behind them
directory-few : (g : Gathered) → g.count ≤ records_most → directory_in g ≡ records_in g
unfolding directory_in
directory-few g h =
    let none : g.count - records_most ≡ 0 = omega arith in
    rw none (append-nil (records_in g))

directory-count : (g : Gathered) → length g.records ≡ records_most → length (directory_in g) ≡ g.count
unfolding directory_in
directory-count g places =
    length-append (records_in g) (replicate (g.count - records_most) nobody)
    ∙ rw (length-take g.count g.records, length-replicate (g.count - records_most) nobody) (omega arith)

-- the test on what was gathered is the fitness of the directory that this stands for
pub directory-fit : (g : Gathered) → length g.records ≡ records_most → fit_gathered g ≡ is_fit (directory_in g)
unfolding fit_gathered is_fit
directory-fit g places = by_count (leb g.count records_most) refl
  where
    count : length (directory_in g) ≡ g.count
    count = directory-count g places

    by_count : (few : Bool) → leb g.count records_most ≡ few → fit_gathered g ≡ is_fit (directory_in g)
    by_count true e = rw (count, directory-few g (leb-true g.count records_most e))
    by_count false e = rw (count, e, and-false (leb 1 g.count) false refl)

unfit : (g : Gathered) → leb g.count records_most ≡ false → fit_gathered g ≡ false
unfolding fit_gathered
unfit g e = rw (e, and-false (leb 1 g.count) false refl)

pub few-gathered : (g : Gathered) → fit_gathered g ≡ true → g.count ≤ records_most
few-gathered g fit = by_count (leb g.count records_most) refl
  where
    by_count : (few : Bool) → leb g.count records_most ≡ few → g.count ≤ records_most
    by_count true e = leb-true g.count records_most e
    by_count false e = absurd (false≢true (sym (unfit g e) ∙ fit))

pub directory-records : (g : Gathered) → fit_gathered g ≡ true → directory_in g ≡ records_in g
directory-records g fit = directory-few g (few-gathered g fit)

pub directory-gathered : (dir : List Participant) → is_fit dir ≡ true → directory_in (gathered dir) ≡ dir
directory-gathered dir fit =
    directory-few (gathered dir) (rw (gathered-count dir) (fit-few dir fit)) ∙ gathered-records dir (fit-few dir fit)

pub directory-fit-gathered : (dir : List Participant) → is_fit (directory_in (gathered dir)) ≡ is_fit dir
directory-fit-gathered dir = sym (directory-fit (gathered dir) (gathered-places dir)) ∙ fits-is-fit dir
