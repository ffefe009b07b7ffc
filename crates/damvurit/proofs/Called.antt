-- From the centre's answer to C's result: the directory that was gathered of the numbers stands for them, the detail that is told is small, and
-- what is told of the answer is what the call tells.
-- Assumes nothing.
use mathlib.Core.Path.{◌≡◌, ap, ◌∙◌}
use mathlib.Core.List.{List}
use native.Mathlib.Omega.{arith}
use Prim.Native.Nat.{ℕ, suc, ◌+◌, ◌*◌, ◌≤◌}
use Rattle.slip.specs.Meaning.{openings}
use Rattle.directory.specs.declared.Gathered.{Gathered}
use Rattle.directory.specs.Gathering.{gathered, directory_in}
use Rattle.seat.specs.declared.settings.Wish.{Wish}
use Rattle.centre.specs.declared.Ticket.{Ticket}
use Rattle.centre.specs.Answers.{Answer, Told, told}
use Rattle.centre.specs.Calls.{open_told, open_after, set_told, set_after, read_told}
use Rattle.centre.specs.Submit.{submit_told, submit_after, submit_slip}
use Rattle.centre.proofs.LentDirectories.{open_by, set-by, submit-by, read_by}
use Rattle.damvurit.specs.Flat.{flat_directory}
use Rattle.damvurit.specs.Boundary.{detail_most, detail_unit, result_number, opening_in, open_result}
use Rattle.damvurit.proofs.Formed.{number-low}

-- the detail of an answer is the one that the call tells
module _ (answer : Answer) (t : Told) (e : told answer ≡ t) where
  pub low : t.detail ≤ detail_most → (told answer).detail ≤ detail_most
  low h = let same : (told answer).detail ≡ t.detail = ap (λ (x : Told). x.detail) e in omega arith

  pub plain : t.detail ≡ 0 → (told answer).detail ≤ detail_most
  plain h = let same : (told answer).detail ≡ t.detail = ap (λ (x : Told). x.detail) e in omega arith

-- the numbers of a directory, and what was gathered of them
module _ (s : List ℕ) (g : Gathered) (all : g ≡ gathered (flat_directory s)) (answer : Answer) where
  module _ (seat : ℕ) (sums room left : List ℕ) where
    pub open-called : (told answer ≡ open_told (directory_in g) seat sums room) × (left ≡ open_after (directory_in g) seat sums room)
        → (told answer ≡ open_told (flat_directory s) seat sums room) × (left ≡ open_after (flat_directory s) seat sums room)
    open-called call =
        let same = open_by seat sums room g (flat_directory s) all in
        (call.0 ∙ same.0, call.1 ∙ same.1)

  module _ (ticket : Ticket) (owner number : ℕ) (given wish : Wish) (is : given ≡ wish) (room left : List ℕ) where
    pub set-called : (told answer ≡ set_told (directory_in g) ticket owner number given room) × (left ≡ set_after (directory_in g) ticket owner number given room)
        → (told answer ≡ set_told (flat_directory s) ticket owner number wish room) × (left ≡ set_after (flat_directory s) ticket owner number wish room)
    set-called call =
        let same = set-by ticket owner number given room g (flat_directory s) all in (
          call.0 ∙ same.0 ∙ ap (λ (w : Wish). set_told (flat_directory s) ticket owner number w room) is,
          call.1 ∙ same.1 ∙ ap (λ (w : Wish). set_after (flat_directory s) ticket owner number w room) is,
        )

  module _ (ticket : Ticket) (sender today : ℕ) (sheet slip room left written : List ℕ) where
    pub submit-called : (told answer ≡ submit_told (directory_in g) ticket sender today sheet slip room)
        × ((left ≡ submit_after (directory_in g) ticket sender today sheet slip room) × (written ≡ submit_slip (directory_in g) ticket sender today sheet slip room))
        → (told answer ≡ submit_told (flat_directory s) ticket sender today sheet slip room)
        × ((left ≡ submit_after (flat_directory s) ticket sender today sheet slip room) × (written ≡ submit_slip (flat_directory s) ticket sender today sheet slip room))
    submit-called call =
        let same = submit-by ticket sender today sheet slip room g (flat_directory s) all in
        (call.0 ∙ same.0, (call.1.0 ∙ same.1, call.1.1 ∙ same.2))

  pub read-called : (ticket : Ticket) (owner number : ℕ) (room : List ℕ) → told answer ≡ read_told (directory_in g) ticket owner number room
      → told answer ≡ read_told (flat_directory s) ticket owner number room
  read-called ticket owner number room call = call ∙ read_by ticket owner number room g (flat_directory s) all

-- what opening gives fits, and is the definition's
module _ (answer : Answer) (t : Told) (e : told answer ≡ t) (none : t.detail ≡ 0) (few : opening_in t ≤ suc openings) (r n : ℕ)
    (is : r ≡ result_number (told answer)) (gives : n ≡ opening_in (told answer)) where
  pub opening-few : n ≤ suc openings
  opening-few = let same : opening_in (told answer) ≡ opening_in t = ap (λ (x : Told). opening_in x) e in omega arith

  pub result-few : r ≤ 12
  unfolding result_number
  result-few =
      let same : (told answer).detail ≡ t.detail = ap (λ (x : Told). x.detail) e in
      omega (arith, number-low answer)

  pub open-result : r + detail_unit * n ≡ open_result t
  unfolding open_result
  open-result = rw (is, gives, e)
