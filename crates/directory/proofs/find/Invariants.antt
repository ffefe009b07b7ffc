-- What is found of the code is what is found from this place on.
use Rattle.std.proofs.Common.{◌≡◌, drop}
use Rattle.directory.specs.Directory.{found, found_from}
use Rattle.directory.proofs.find.Given as goal

abbrev pub invariant-loop-place : goal.invariant-loop-place
invariant-loop-place l = found l.dir l.code ≡ found_from l.place (drop l.place l.dir) l.code
