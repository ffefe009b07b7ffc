-- Each turn takes the word that stands at the rest, and what is left to take is the same.
use Rattle.std.proofs.Common.{◌≡◌, ◌≤◌, drop, length}
use Rattle.script.specs.Words.{values_most}
use Rattle.script.specs.Lines.{take_from, taken}
use Rattle.script.proofs.values.take_values.Given as goal

abbrev pub invariant-loop-count : goal.invariant-loop-count
invariant-loop-count l = record {
  within : l.rest ≤ length l.s;
  room : length l.values ≡ values_most;
  left : taken l.wants l.s l.fn.from ≡ take_from (drop l.count l.wants) l.s l.count l.values l.rest;
}
