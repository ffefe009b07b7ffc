-- The elements that are left, one after the other, with the path kept as a stack of nodes.
-- Assumes nothing.
use mathlib.Core.Path.{◌≡◌, refl, sym, ap, ◌∙◌}
use mathlib.Core.Bool.{Bool, true, false, cond}
use mathlib.Core.List.{List, [], ◌∷◌}
use Prim.Native.Nat.{ℕ, zero, suc, ◌+◌, ◌-◌, ◌<◌, ◌≤◌}
use native.Mathlib.Omega.{arith}
use native.Mathlib.Numerals.{add-one}
use mir.Val.{bool_byte}
use lib.Dec.{eqb, ltb}
use lib.ListN.{length, get_or, take, drop, set, replicate, length-drop, length-set}
use lib.Seq.{drop-drop, get_or-set_same, get_or-set_other}
use borrow.Author.Tests.{ltb-false, eqb-true, eqb-false}
use Rattle.sheet.specs.Grammar.{element_most}
use Rattle.outline.specs.Rows.{name_at, around_at}
use Rattle.outline.proofs.Walk.{list-goes, list-ends, around-low}
use Rattle.paths.specs.Tree.{above, nodes, child_of, node_of}
use Rattle.paths.specs.Survey.{zeros, unseen, noted, seen_from}
use Rattle.paths.specs.declared.Standing.{Standing}
use Rattle.paths.proofs.Nodes.{node-below}

-- the path of the element before the k-th
pub path_before : List ℕ → List ℕ → List ℕ → ℕ → List (List ℕ)
path_before s starts depths zero = []
path_before s starts depths (suc k) = name_at s (get_or starts k 0) ∷ around_at (get_or depths k 0) (path_before s starts depths k)

-- what was noted up to here
abbrev pub so_far : ℕ → List ℕ → List ℕ → Standing
so_far bodies counts places = record { bodies = bodies; counts = counts; starts = places }

-- at the k-th element: the stack has the node of each front of the path, and what is left makes the whole of what was noted
pub record Walked (s : List ℕ) (count : ℕ) (starts depths stack : List ℕ) (level bodies : ℕ) (counts places : List ℕ) (k : ℕ) : Type 0 where
  pub within : k ≤ count
  pub low : level ≤ k
  pub few : bodies ≤ k
  pub stack-long : length stack ≡ element_most + 1
  pub counts-long : length counts ≡ nodes
  pub places-long : length places ≡ nodes
  pub each-few : (v : ℕ) → get_or counts v 0 ≤ k
  pub deep : length (path_before s starts depths k) ≡ level
  pub stacked : (i : ℕ) → i ≤ level → get_or stack i 0 ≡ node_of (drop (level - i) (path_before s starts depths k))
  pub left : seen_from s [] (take count starts) (take count depths) unseen
      ≡ seen_from s (path_before s starts depths k) (drop k (take count starts)) (drop k (take count depths)) (so_far bodies counts places)

no-count : (n v : ℕ) → get_or {A = ℕ} (replicate n 0) v 0 ≡ 0
no-count zero v = refl
no-count (suc n) zero = refl
no-count (suc n) (suc v) = no-count n v

only_above : (i : ℕ) → i ≤ 0 → get_or (replicate (element_most + 1) above) i 0 ≡ node_of (drop (0 - i) [])
unfolding node_of
only_above zero h = refl
only_above (suc i) h = absurd (omega arith)

-- more than was counted before by one at most
raised : (l : List ℕ) (k w : ℕ) → ((v : ℕ) → get_or l v 0 ≤ k) → w < length l → (v : ℕ) → get_or (set l w (get_or l w 0 + 1)) v 0 ≤ k + 1
raised l k w h b v = go (eqb v w) refl
  where
    go : (t : Bool) → eqb v w ≡ t → get_or (set l w (get_or l w 0 + 1)) v 0 ≤ k + 1
    go true e = rw (eqb-true v w e, get_or-set_same l w (get_or l w 0 + 1) 0 b) (omega (arith, h w))
    go false e = rw (get_or-set_other l w v (get_or l w 0 + 1) 0 (eqb-false v w e)) (omega (arith, h v))

pub one_at_most : (t : Bool) → cond t 1 0 ≤ 1
one_at_most true = omega arith
one_at_most false = omega arith

-- one for an element right below the outer one
pub one_body : (t : Bool) → bool_byte t ≡ cond t 1 0
one_body true = refl
one_body false = refl

-- the names around an element at depth d are so many as the stack is cut down to
cut_down : (d level j : ℕ) → j ≡ cond (ltb (d - 1) level) (d - 1) level → level - (d - 1) ≡ level - j
cut_down d level j e = go (ltb (d - 1) level) refl e
  where
    go : (t : Bool) → ltb (d - 1) level ≡ t → j ≡ cond t (d - 1) level → level - (d - 1) ≡ level - j
    go true f e = omega arith
    go false f e = omega (arith, ltb-false (d - 1) level f)

seen_step : (s : List ℕ) (path : List (List ℕ)) (a d : ℕ) (more ds : List ℕ) (seen : Standing)
    → seen_from s path (a ∷ more) (d ∷ ds) seen ≡ seen_from s (name_at s a ∷ around_at d path) more ds (noted (name_at s a ∷ around_at d path) a seen)
unfolding seen_from
seen_step s path a d more ds seen = refl

pub begins : (s : List ℕ) (count : ℕ) (starts depths : List ℕ) → Walked s count starts depths (replicate (element_most + 1) above) 0 0 zeros zeros 0
unfolding path_before
begins s count starts depths = record {
  within = omega arith;
  low = omega arith;
  few = omega arith;
  stack-long = refl;
  counts-long = refl;
  places-long = refl;
  each-few = λ v. omega (arith, no-count nodes v);
  deep = refl;
  stacked = only_above;
  left = refl;
}

module _ {s : List ℕ} {count : ℕ} {starts depths stack : List ℕ} {level bodies : ℕ} {counts places : List ℕ} {k : ℕ} (w : Walked s count starts depths stack level bodies counts places k) where
  pub all_seen : count ≤ k → so_far bodies counts places ≡ seen_from s [] (take count starts) (take count depths) unseen
  unfolding seen_from
  all_seen h = sym (w.left ∙ rw (list-ends starts count k h))

  module _ {j : ℕ} (around : j ≡ cond (ltb (get_or depths k 0 - 1) level) (get_or depths k 0 - 1) level) where
    pub cut_low : j ≤ level
    cut_low = around-low j (get_or depths k 0 - 1) level around

    pub around-below : get_or stack j 0 < nodes
    around-below = rw (w.stacked j cut_low) (node-below (drop (level - j) (path_before s starts depths k)))

    around-cut : around_at (get_or depths k 0) (path_before s starts depths k) ≡ drop (level - j) (path_before s starts depths k)
    around-cut = rw (w.deep, cut_down (get_or depths k 0) level j around)

    here : path_before s starts depths (k + 1) ≡ name_at s (get_or starts k 0) ∷ drop (level - j) (path_before s starts depths k)
    unfolding path_before
    here = rw (add-one k, around-cut)

    here-deep : length (path_before s starts depths (k + 1)) ≡ j + 1
    here-deep = rw here (omega (arith, length-drop (level - j) (path_before s starts depths k), w.deep, cut_low))

    module _ {node : ℕ} (child : node ≡ child_of (get_or stack j 0) (name_at s (get_or starts k 0))) where
      here-node : node_of (path_before s starts depths (k + 1)) ≡ node
      unfolding node_of
      here-node = rw (here, ← w.stacked j cut_low, child)

      node-low : node < nodes
      node-low = rw (← here-node) (node-below (path_before s starts depths (k + 1)))

      next-nodes : j + 1 < length stack → (i : ℕ) → i ≤ j + 1
          → get_or (set stack (j + 1) node) i 0 ≡ node_of (drop ((j + 1) - i) (path_before s starts depths (k + 1)))
      next-nodes room i h = go (eqb i (j + 1)) refl
        where
          go : (t : Bool) → eqb i (j + 1) ≡ t → get_or (set stack (j + 1) node) i 0 ≡ node_of (drop ((j + 1) - i) (path_before s starts depths (k + 1)))
          go true e =
              let f : i ≡ j + 1 = eqb-true i (j + 1) e in
              let g : (j + 1) - (j + 1) ≡ 0 = omega arith in
              rw (f, g, get_or-set_same stack (j + 1) node 0 room, here-node)
          go false e =
              let below : i ≤ j = omega (arith, eqb-false i (j + 1) e) in
              let f : (j + 1) - i ≡ suc (j - i) = omega arith in
              let g : (level - j) + (j - i) ≡ level - i = omega (arith, cut_low) in
              rw (get_or-set_other stack (j + 1) i node 0 (eqb-false i (j + 1) e), here, f, drop-drop (j - i) (level - j) (path_before s starts depths k), g)
              (w.stacked i (omega (arith, cut_low)))

      noted_here : {b : ℕ} → b ≡ cond (eqb (j + 1) 2) 1 0
          → noted (path_before s starts depths (k + 1)) (get_or starts k 0) (so_far bodies counts places)
          ≡ so_far (bodies + b) (set counts node (get_or counts node 0 + 1)) (set places node (get_or starts k 0))
      noted_here body = rw (here-deep, here-node, body)

      here-whole : name_at s (get_or starts k 0) ∷ around_at (get_or depths k 0) (path_before s starts depths k) ≡ path_before s starts depths (k + 1)
      unfolding path_before
      here-whole = rw (add-one k)

      seen-goes : {b : ℕ} → b ≡ cond (eqb (j + 1) 2) 1 0 → k < count → k < length starts → k < length depths
          → seen_from s (path_before s starts depths k) (drop k (take count starts)) (drop k (take count depths)) (so_far bodies counts places)
          ≡ seen_from s (path_before s starts depths (k + 1)) (drop (k + 1) (take count starts)) (drop (k + 1) (take count depths))
          (so_far (bodies + b) (set counts node (get_or counts node 0 + 1)) (set places node (get_or starts k 0)))
      seen-goes body h hs hd =
          rw (list-goes starts count k h hs, list-goes depths count k h hd)
          (seen_step s (path_before s starts depths k) (get_or starts k 0) (get_or depths k 0) (drop (k + 1) (take count starts)) (drop (k + 1) (take count depths)) (so_far bodies counts places)
          ∙ ap (λ (path : List (List ℕ)). seen_from s path (drop (k + 1) (take count starts)) (drop (k + 1) (take count depths)) (noted path (get_or starts k 0) (so_far bodies counts places))) here-whole
          ∙ ap (λ (seen : Standing). seen_from s (path_before s starts depths (k + 1)) (drop (k + 1) (take count starts)) (drop (k + 1) (take count depths)) seen) (noted_here body))

      pub turn : {b : ℕ} → b ≡ cond (eqb (j + 1) 2) 1 0 → count ≤ element_most → k < count → k < length starts → k < length depths
          → Walked s count starts depths (set stack (j + 1) node) (j + 1) (bodies + b) (set counts node (get_or counts node 0 + 1)) (set places node (get_or starts k 0)) (k + 1)
      turn {b} body hc h hs hd = record {
        within = omega arith;
        low = omega (arith, cut_low, w.low);
        few = omega (arith, one_at_most (eqb (j + 1) 2), w.few);
        stack-long = length-set stack (j + 1) node ∙ w.stack-long;
        counts-long = length-set counts node (get_or counts node 0 + 1) ∙ w.counts-long;
        places-long = length-set places node (get_or starts k 0) ∙ w.places-long;
        each-few = raised counts k node w.each-few (omega (arith, node-low, w.counts-long));
        deep = here-deep;
        stacked = next-nodes (omega (arith, cut_low, w.low, w.stack-long));
        left = w.left ∙ seen-goes body h hs hd;
      }
