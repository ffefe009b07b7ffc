-- The records of a directory gathered by value: the first sixteen, in places that are otherwise empty, and how many there are in all.
use Rattle.std.specs.Prelude.{Bool, false, ◌&&◌, cond, List, [], ◌∷◌, ◌++◌, suc, ◌-◌, leb, ltb, set, replicate, take}
use Rattle.shape.specs.Bytes.{every}
use Rattle.directory.specs.declared.Kind.TheVariants.{Owner}
use Rattle.directory.specs.declared.Participant.{Participant}
use Rattle.directory.specs.declared.Gathered.{Gathered}
use Rattle.directory.specs.Directory.{records_most, code_most, names, ascending}

abbrev pub nobody : Participant
nobody = record { code = 0; instant = false; kind = Owner }

abbrev pub none_gathered : Gathered
none_gathered = record { count = 0; records = replicate records_most nobody }

-- one record more: in the next place while there is one, and counted in any case
unfoldable pub added : Gathered → Participant → Gathered
added g p = record { count = suc g.count; records = cond (ltb g.count records_most) (set g.records g.count p) g.records }

unfoldable pub gathered_from : Gathered → List Participant → Gathered
gathered_from g [] = g
gathered_from g (p ∷ dir) = gathered_from (added g p) dir

unfoldable pub gathered : List Participant → Gathered
gathered dir = gathered_from none_gathered dir

-- the records that were gathered, of a directory that has no more than there are places
abbrev pub records_in : Gathered → List Participant
records_in g = take g.count g.records

-- the directory that was gathered: of records past the places it is known only how many they are, and with these it is not fit
unfoldable pub directory_in : Gathered → List Participant
directory_in g = records_in g ++ replicate (g.count - records_most) nobody

-- the directory that was gathered is fit. That this is the directory's own fitness is proved in `proofs/Gathers.antt`
unfoldable pub fit_gathered : Gathered → Bool
fit_gathered g =
    leb 1 g.count && leb g.count records_most
    && every (λ (p : Participant). leb p.code code_most) (records_in g)
    && ascending (records_in g)
    && every (λ (p : Participant). names (records_in g) p.kind) (records_in g)
