use Rattle.lister.specs.Listing.{path_text}
use Rattle.lister.specs.Writing.{Wrote, names_of}
use Rattle.lister.proofs.row.put_path.Given as goal

-- the names so far are written, each after its slash
abbrev pub invariant-loop-start : goal.invariant-loop-start
invariant-loop-start l = Wrote l.initial.out l.initial.at (path_text (names_of l.s l.path l.start-index)) l.out l.at
