-- Which step answers which, and what has become of a step: request 9 of document 02. A row never changes once it is written: a transfer's row keeps
-- what its own submit did, the answer's row what the answer did, and names the step that it answers.
use Rattle.std.specs.Prelude.{Bool, true, false, not, ◌&&◌, ◌||◌, cond, List, ℕ, zero, suc, ◌-◌, leb, eqb, Option, Some, None}
use Rattle.layout.specs.declared.rows.Step.{Step}
use Rattle.layout.specs.Seat.{head_of, step_of}
use Rattle.journal.specs.declared.results.Outcome.{Outcome}
use Rattle.journal.specs.Steps.{moves, is_waiting}

-- the place of the first step that names the one with this number, among n steps from place j on
unfoldable pub answer_from : List ℕ → ℕ → ℕ → ℕ → Option ℕ
answer_from s number j zero = None
answer_from s number j (suc n) = cond (eqb (step_of s j).answers number) (Some j) (answer_from s number (suc j) n)

-- the place of the answer to the step at a place
unfoldable pub answer_to : List ℕ → ℕ → Option ℕ
answer_to s k = answer_from s (suc k) 0 (head_of s).steps

unfoldable pub is_answered : Option ℕ → Bool
is_answered (Some j) = true
is_answered None = false

-- the step x at place k waits: its row says so, and no row answers it
unfoldable pub waits : List ℕ → ℕ → Step → Bool
waits s k x = is_waiting x && not (is_answered (answer_to s k))

-- what a row holds
abbrev pub row_result : List ℕ → ℕ → Outcome
row_result s k = record { status = (step_of s k).status; check = (step_of s k).check }

-- what has become of the step at a place: the result of its answer, where there is one, else its own
unfoldable pub result_in : List ℕ → ℕ → Option ℕ → Outcome
result_in s k (Some j) = row_result s j
result_in s k None = row_result s k

unfoldable pub result_now : List ℕ → ℕ → Outcome
result_now s k = result_in s k (answer_to s k)

-- two steps move the same between the same accounts
unfoldable pub same_movement : Step → Step → Bool
same_movement x y = eqb x.debit y.debit && eqb x.credit y.credit && eqb x.amount y.amount

-- a step may be the next one, by what it answers: nothing, or an earlier transfer that waits; and if it moves money, it is what that one is to move
unfoldable pub answerable : Step → List ℕ → Bool
answerable x s =
    cond (eqb x.answers 0) true
    (leb x.answers (head_of s).steps
    && waits s (x.answers - 1) (step_of s (x.answers - 1))
    && (not (moves x) || same_movement x (step_of s (x.answers - 1))))
