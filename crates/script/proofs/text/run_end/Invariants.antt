-- What is left to pass ends where the whole does, whatever test the closure computes.
use Rattle.std.proofs.Common.{◌≡◌, Bool, ℕ, ◌+◌, ◌<◌, drop}
use Rattle.script.specs.Places.{run}
use Rattle.script.proofs.text.run_end.Given as goal

abbrev pub invariant-loop-i : goal.invariant-loop-i
invariant-loop-i g l =
    (f : ℕ → Bool) → ((b : ℕ) (r : Bool) → b < 256 → goal.F-post g l.passes b r → r ≡ f b) → l.fn.from + run f (drop l.fn.from l.s) ≡ l.i + run f (drop l.i l.s)
