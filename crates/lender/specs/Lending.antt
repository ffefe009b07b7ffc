-- How many records of a gathered directory are lent: all of them, or none where there are more than places. Of the records past the
-- places only the number is known, and with these the directory is not fit; a directory of no records is not fit either. That a call says
-- the same of both is proved in `proofs/Directories.antt`.
use Rattle.std.specs.Prelude.{cond, ℕ, ltb, List, take}
use Rattle.directory.specs.declared.Participant.{Participant}
use Rattle.directory.specs.declared.Gathered.{Gathered}
use Rattle.directory.specs.Directory.{records_most}

abbrev pub lent_count : Gathered → ℕ
lent_count g = cond (ltb records_most g.count) 0 g.count

abbrev pub lent_in : Gathered → List Participant
lent_in g = take (lent_count g) g.records
