-- A survey of a sheet: of each node of the tree, how often it stands in the sheet and where it starts, the last time; and how many elements
-- stand right below the outer one. Of a sheet that is refused there is its place and nothing else.
-- What the survey says of the rows of a sheet is stated in `proofs/Surveyed.antt`.
use Rattle.std.specs.Prelude.{cond, List, [], ◌∷◌, ℕ, ◌+◌, eqb, length, get_or, set, replicate, take, Result, Ok, Err}
use Rattle.sheet.specs.Answer.{Reading, accepted, refused, reading_of}
use Rattle.outline.specs.Rows.{name_at, around_at}
use Rattle.paths.specs.Tree.{nodes, node_of}
use Rattle.sheet.specs.declared.parts.Refused.{Refused}
use Rattle.paths.specs.declared.Standing.{Standing}

abbrev pub zeros : List ℕ
zeros = replicate nodes 0

-- nothing is seen yet
abbrev pub unseen : Standing
unseen = record { bodies = 0; counts = zeros; starts = zeros }

-- one more element, of this path and start
abbrev pub noted : List (List ℕ) → ℕ → Standing → Standing
noted path a seen = record {
  bodies = seen.bodies + cond (eqb (length path) 2) 1 0;
  counts = set seen.counts (node_of path) (get_or seen.counts (node_of path) 0 + 1);
  starts = set seen.starts (node_of path) a;
}

-- the elements that start at these places and stand at these depths, behind one of this path, on top of what was seen
unfoldable pub seen_from : List ℕ → List (List ℕ) → List ℕ → List ℕ → Standing → Standing
seen_from s path [] ds seen = seen
seen_from s path (a ∷ more-starts) [] seen = seen
seen_from s path (a ∷ more-starts) (d ∷ ds) seen =
    let here = name_at s a ∷ around_at d path in
    seen_from s here more-starts ds (noted here a seen)

-- the elements that a sheet was read to have
abbrev pub seen_in : List ℕ → ℕ → List ℕ → List ℕ → Standing
seen_in s n starts depths = seen_from s [] (take n starts) (take n depths) unseen

-- a sheet that was read so
unfoldable pub standing_of : List ℕ → Reading → Result Standing Refused
standing_of s (refused k) = Err (record { place = k })
standing_of s (accepted n starts depths) = Ok (seen_in s n starts depths)

unfoldable pub survey_of : List ℕ → Result Standing Refused
survey_of s = standing_of s (reading_of s)
