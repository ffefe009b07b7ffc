-- What is gathered of all numbers stays what is gathered of the rows that are left, after the records before.
use Rattle.std.proofs.Common.{◌≡◌, ◌≤◌, ◌+◌, length}
use Rattle.std.specs.Slice.Iter.{chunks_rest, chunks_size}
use Rattle.directory.specs.Gathering.{gathered}
use Rattle.damvurit.specs.Flat.{flat_directory}
use Rattle.damvurit.proofs.FlatDirectories.{gathered_behind}
use Rattle.damvurit.proofs.flat.gather_flat.Given as goal

abbrev pub invariant-loop-row : goal.invariant-loop-row
invariant-loop-row l = record {
  next : (goal.iterator-loop-row).can_next l.row-iterator;
  finite : (goal.iterator-loop-row).is_finite l.row-iterator;
  size : chunks_size l.row-iterator ≡ 4;
  few : l.out.count + length (chunks_rest l.row-iterator) ≤ length l.dir;
  rest : gathered (flat_directory l.dir) ≡ gathered_behind l.out (chunks_rest l.row-iterator);
}
