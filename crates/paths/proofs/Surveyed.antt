-- What a survey says of the rows of a sheet: how many stand at a path, which one if it is one, and how many right below the outer one.
-- Each is shown of the rows behind any path, on top of anything that was seen before.
-- Assumes nothing.
use mathlib.Core.Path.{◌≡◌, refl, sym, ap, ◌∙◌, subst}
use mathlib.Core.Bool.{Bool, true, false, cond, false≢true}
use mathlib.Core.List.{List, [], ◌∷◌}
use Prim.Native.Nat.{ℕ, ◌+◌}
use native.Mathlib.Omega.{arith}
use lib.Dec.{eqb}
use lib.ListN.{length, get_or, take, set, length-set, get_or-replicate}
use lib.Seq.{get_or-set_same, get_or-set_other}
use Rattle.sheet.specs.Answer.{Reading, accepted, refused, reading_of}
use Rattle.outline.specs.Rows.{Row, name_at, around_at, row_on, rows_from, rows_of}
use Rattle.outline.specs.Paths.{same_path, standing, at_depth}
use Rattle.outline.proofs.Paths.{same-path, path-same}
use Rattle.paths.specs.Tree.{nowhere, nodes, node_of}
use Rattle.paths.specs.Survey.{unseen, noted, seen_from, seen_in, standing_of, survey_of}
use Rattle.std.specs.Prelude.{Ok}
use Rattle.sheet.proofs.Descent.{not-read}
use Rattle.paths.specs.declared.Standing.{Standing}
use Rattle.paths.proofs.Nodes.{node-below, one-path}

-- what is set at the node of one path, read at the node of another
module _ (q : List (List ℕ)) (somewhere : node_of q ≡ nowhere → ⊥) (here : List (List ℕ)) (l : List ℕ) (a : ℕ) (long : length l ≡ nodes) where
  set_here : same_path here q ≡ true → get_or (set l (node_of here) a) (node_of q) 0 ≡ a
  set_here e =
      rw (same-path here q e)
      (get_or-set_same l (node_of q) a 0 (omega (arith, node-below q)))

  set-elsewhere : same_path here q ≡ false → get_or (set l (node_of here) a) (node_of q) 0 ≡ get_or l (node_of q) 0
  set-elsewhere e =
      get_or-set_other l (node_of here) (node_of q) a 0
      (λ n. false≢true (sym e ∙ ap (λ (p : List (List ℕ)). same_path p q) (one-path here q (sym n) somewhere) ∙ path-same q))

-- one row more or not
module _ (q : List (List ℕ)) (somewhere : node_of q ≡ nowhere → ⊥) (here : List (List ℕ)) (counts : List ℕ) (long : length counts ≡ nodes) where
  count-goes : (row : Row) (rest : List Row) (t : Bool) → same_path here q ≡ t
      → get_or (set counts (node_of here) (get_or counts (node_of here) 0 + 1)) (node_of q) 0 + length rest
      ≡ get_or counts (node_of q) 0 + length (cond t (row ∷ rest) rest)
  count-goes row rest true e =
      let f : get_or counts (node_of here) 0 ≡ get_or counts (node_of q) 0 = ap (λ (p : List (List ℕ)). get_or counts (node_of p) 0) (same-path here q e) in
      omega (arith, set_here q somewhere here counts (get_or counts (node_of here) 0 + 1) long e)
  count-goes row rest false e =
      omega (arith, set-elsewhere q somewhere here counts (get_or counts (node_of here) 0 + 1) long e)

no_rows : (rows : List Row) → length rows ≡ 0 → rows ≡ []
no_rows [] e = refl
no_rows (row ∷ rows) e = absurd (omega arith)

module _ (s : List ℕ) (q : List (List ℕ)) (somewhere : node_of q ≡ nowhere → ⊥) where
  counted-from : (path : List (List ℕ)) (more ds : List ℕ) (seen : Standing) → length seen.counts ≡ nodes
      → get_or (seen_from s path more ds seen).counts (node_of q) 0 ≡ get_or seen.counts (node_of q) 0 + length (standing q (rows_from s path more ds))
  unfolding seen_from rows_from standing
  counted-from path [] ds seen h = omega arith
  counted-from path (a ∷ more) [] seen h = omega arith
  counted-from path (a ∷ more) (d ∷ ds) seen h =
      let here = name_at s a ∷ around_at d path in
      counted-from here more ds (noted here a seen) (rw length-set h)
      ∙ count-goes q somewhere here seen.counts h (row_on s here a) (standing q (rows_from s here more ds)) (same_path here q) refl

  -- where no more rows stand at the path its start stays
  start-goes : (here : List (List ℕ)) (a : ℕ) (starts : List ℕ) → length starts ≡ nodes → (row : Row) (rest : List Row) (t : Bool) → same_path here q ≡ t
      → length (cond t (row ∷ rest) rest) ≡ 0 → (length rest ≡ 0) × (get_or (set starts (node_of here) a) (node_of q) 0 ≡ get_or starts (node_of q) 0)
  start-goes here a starts h row rest true e z = absurd (omega arith)
  start-goes here a starts h row rest false e z = (z, set-elsewhere q somewhere here starts a h e)

  start-kept : (path : List (List ℕ)) (more ds : List ℕ) (seen : Standing) → length seen.starts ≡ nodes → length (standing q (rows_from s path more ds)) ≡ 0
      → get_or (seen_from s path more ds seen).starts (node_of q) 0 ≡ get_or seen.starts (node_of q) 0
  unfolding seen_from rows_from standing
  start-kept path [] ds seen h z = refl
  start-kept path (a ∷ more) [] seen h z = refl
  start-kept path (a ∷ more) (d ∷ ds) seen h z =
      let here = name_at s a ∷ around_at d path in
      let goes = start-goes here a seen.starts h (row_on s here a) (standing q (rows_from s here more ds)) (same_path here q) refl z in
      start-kept here more ds (noted here a seen) (rw length-set h) goes.0 ∙ goes.1

  -- the one row at the path is this one, or one of the rest
  one-here : (here : List (List ℕ)) (a : ℕ) (seen : Standing) → length seen.starts ≡ nodes → (rest : List Row) (last : Standing)
      → (length rest ≡ 0 → get_or last.starts (node_of q) 0 ≡ get_or (set seen.starts (node_of here) a) (node_of q) 0)
      → (length rest ≡ 1 → rest ≡ row_on s q (get_or last.starts (node_of q) 0) ∷ [])
      → (t : Bool) → same_path here q ≡ t → length (cond t (row_on s here a ∷ rest) rest) ≡ 1
      → cond t (row_on s here a ∷ rest) rest ≡ row_on s q (get_or last.starts (node_of q) 0) ∷ []
  one-here here a seen h rest last kept found true e z =
      let none : length rest ≡ 0 = omega arith in
      rw (kept none, set_here q somewhere here seen.starts a h e, no_rows rest none, same-path here q e)
  one-here here a seen h rest last kept found false e z = found z

  found_from : (path : List (List ℕ)) (more ds : List ℕ) (seen : Standing) → length seen.starts ≡ nodes → length (standing q (rows_from s path more ds)) ≡ 1
      → standing q (rows_from s path more ds) ≡ row_on s q (get_or (seen_from s path more ds seen).starts (node_of q) 0) ∷ []
  unfolding seen_from rows_from standing
  found_from path [] ds seen h z = absurd (omega arith)
  found_from path (a ∷ more) [] seen h z = absurd (omega arith)
  found_from path (a ∷ more) (d ∷ ds) seen h z =
      let here = name_at s a ∷ around_at d path in
      one-here here a seen h (standing q (rows_from s here more ds)) (seen_from s here more ds (noted here a seen))
      (start-kept here more ds (noted here a seen) (rw length-set h)) (found_from here more ds (noted here a seen) (rw length-set h)) (same_path here q) refl z

-- a node's count is the number of rows at its path
pub counted : (s : List ℕ) (n : ℕ) (starts depths : List ℕ) (q : List (List ℕ)) → (node_of q ≡ nowhere → ⊥)
    → get_or (seen_in s n starts depths).counts (node_of q) 0 ≡ length (standing q (rows_of s n starts depths))
unfolding rows_of
counted s n starts depths q somewhere =
    counted-from s q somewhere [] (take n starts) (take n depths) unseen refl
    ∙ rw (get_or-replicate {A = ℕ} nodes (node_of q) 0 0 (node-below q)) (omega arith)

-- where that is one, the node's start gives the row
pub found : (s : List ℕ) (n : ℕ) (starts depths : List ℕ) (q : List (List ℕ)) → (node_of q ≡ nowhere → ⊥)
    → length (standing q (rows_of s n starts depths)) ≡ 1
    → standing q (rows_of s n starts depths) ≡ row_on s q (get_or (seen_in s n starts depths).starts (node_of q) 0) ∷ []
unfolding rows_of
found s n starts depths q somewhere one = found_from s q somewhere [] (take n starts) (take n depths) unseen refl one

body-goes : (b : ℕ) (row : Row) (rest : List Row) (t : Bool) → b + cond t 1 0 + length rest ≡ b + length (cond t (row ∷ rest) rest)
body-goes b row rest true = omega arith
body-goes b row rest false = omega arith

bodies-from : (s : List ℕ) (path : List (List ℕ)) (more ds : List ℕ) (seen : Standing)
    → (seen_from s path more ds seen).bodies ≡ seen.bodies + length (at_depth 2 (rows_from s path more ds))
unfolding seen_from rows_from at_depth
bodies-from s path [] ds seen = omega arith
bodies-from s path (a ∷ more) [] seen = omega arith
bodies-from s path (a ∷ more) (d ∷ ds) seen =
    let here = name_at s a ∷ around_at d path in
    bodies-from s here more ds (noted here a seen)
    ∙ body-goes seen.bodies (row_on s here a) (at_depth 2 (rows_from s here more ds)) (eqb (length here) 2)

-- the bodies are the rows with two names in their path
pub bodies-counted : (s : List ℕ) (n : ℕ) (starts depths : List ℕ)
    → (seen_in s n starts depths).bodies ≡ length (at_depth 2 (rows_of s n starts depths))
unfolding rows_of
bodies-counted s n starts depths = bodies-from s [] (take n starts) (take n depths) unseen ∙ omega arith

-- the lists of a survey have a place for each node
long-from : (s : List ℕ) (path : List (List ℕ)) (more ds : List ℕ) (seen : Standing) → length seen.counts ≡ nodes → length seen.starts ≡ nodes
    → (length (seen_from s path more ds seen).counts ≡ nodes) × (length (seen_from s path more ds seen).starts ≡ nodes)
unfolding seen_from
long-from s path [] ds seen h k = (h, k)
long-from s path (a ∷ more) [] seen h k = (h, k)
long-from s path (a ∷ more) (d ∷ ds) seen h k =
    let here = name_at s a ∷ around_at d path in
    long-from s here more ds (noted here a seen) (rw length-set h) (rw length-set k)

long-read : (s : List ℕ) (r : Reading) (seen : Standing) → standing_of s r ≡ Ok seen → (length seen.counts ≡ nodes) × (length seen.starts ≡ nodes)
unfolding standing_of
long-read s (refused k) seen e = absurd (not-read e)
long-read s (accepted n starts depths) seen e =
    let same : seen_in s n starts depths ≡ seen = cc in
    subst (λ (x : Standing). (length x.counts ≡ nodes) × (length x.starts ≡ nodes)) same (long-from s [] (take n starts) (take n depths) unseen refl refl)

pub survey-long : (s : List ℕ) (seen : Standing) → survey_of s ≡ Ok seen → (length seen.counts ≡ nodes) × (length seen.starts ≡ nodes)
unfolding survey_of
survey-long s seen e = long-read s (reading_of s) seen e
