-- What is found in the journal of a fit seat fits, as each step there was possible when it was worked.
-- Assumes nothing.
use Rattle.std.specs.Prelude.{Some}
use mathlib.Core.Path.{◌≡◌}
use mathlib.Core.Bool.{true}
use mathlib.Core.List.{List}
use Prim.Native.Nat.{ℕ, ◌<◌}
use native.Mathlib.Omega.{arith}
use Rattle.shape.specs.Bytes.{every}
use Rattle.layout.specs.declared.rows.Step.{Step}
use Rattle.layout.specs.Seat.{head_of, step_of}
use Rattle.journal.specs.declared.traces.Trace.{Trace}
use Rattle.journal.specs.Steps.{step_fits}
use Rattle.journal.specs.Working.{journal_of}
use Rattle.journal.specs.Traces.{leaves, earliest, placed}
use Rattle.journal.proofs.WorkedLaws.{worked-fits, each_step}
use Rattle.journal.proofs.TraceLaws.{first_fits}
use Rattle.seat.specs.Fit.{open_seat, sums_of, open_fits}
use Rattle.seat.proofs.Forward.{open-fits}

pub journal-fits : (s : List ℕ) → open_fits s ≡ true → every step_fits (journal_of s) ≡ true
journal-fits s e = worked-fits (journal_of s) (open_seat (head_of s).opening (sums_of s)) s (open-fits s e).comes

pub row_fits : (s : List ℕ) → open_fits s ≡ true → (j : ℕ) → j < (head_of s).steps → step_fits (step_of s j) ≡ true
unfolding journal_of
row_fits s e j h = each_step step_fits s 0 (head_of s).steps (journal-fits s e) j (omega arith) (omega arith)

pub earliest-fits : (trace : Trace) (s : List ℕ) (k : ℕ) (x : Step) → open_fits s ≡ true → earliest trace s ≡ Some (placed k x) → step_fits x ≡ true
unfolding earliest
earliest-fits trace s k x f e = first_fits (leaves trace s) 0 (journal_of s) k x (journal-fits s f) e
