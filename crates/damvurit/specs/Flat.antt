-- A directory as C lends it: four numbers a record, one record behind the other. Document 01 speaks of records alone, so the form is our own: the
-- code; instant, 0 or 1; the kind, 0 owner, 1 direct branch, 2 indirect branch, 3 provider; and the code that it names, 0 for an owner.
-- Numbers in no such form stand for no records at all. A directory without a record is unfit, so they get refusal 2, in its place of the order.
-- Codes are looked at by the directory's own fitness, not here.
use Rattle.std.specs.Prelude.{Bool, true, false, not, ◌&&◌, ◌||◌, cond, List, [], ◌∷◌, ℕ, leb, eqb, Option, Some, None}
use Rattle.directory.specs.declared.Kind.{Kind}
use Rattle.directory.specs.declared.Kind.TheVariants.{Owner, Direct, Indirect, Provider}
use Rattle.directory.specs.declared.Participant.{Participant}

-- the kind of a number, with the code that it names
unfoldable pub kind_of : ℕ → ℕ → Kind
kind_of kind named =
    cond (eqb kind 0) Owner
    (cond (eqb kind 1) (Direct named)
    (cond (eqb kind 2) (Indirect named)
    (Provider named)))

-- instant is 0 or 1, the kind one of the four, and an owner names nobody
unfoldable pub record_good : ℕ → ℕ → ℕ → Bool
record_good instant kind named = leb instant 1 && leb kind 3 && (not (eqb kind 0) || eqb named 0)

unfoldable pub record_of : ℕ → ℕ → ℕ → ℕ → Participant
record_of code instant kind named = record { code = code; instant = eqb instant 1; kind = kind_of kind named }

-- the record that a row of numbers is: four numbers, and a good one
unfoldable pub record_in : List ℕ → Option Participant
record_in [] = None
record_in (code ∷ []) = None
record_in (code ∷ instant ∷ []) = None
record_in (code ∷ instant ∷ kind ∷ []) = None
record_in (code ∷ instant ∷ kind ∷ named ∷ []) = cond (record_good instant kind named) (Some (record_of code instant kind named)) None
record_in (code ∷ instant ∷ kind ∷ named ∷ more ∷ rest) = None

-- four numbers for each record, and each record good
unfoldable pub flat_good : List ℕ → Bool
flat_good [] = true
flat_good (code ∷ []) = false
flat_good (code ∷ instant ∷ []) = false
flat_good (code ∷ instant ∷ kind ∷ []) = false
flat_good (code ∷ instant ∷ kind ∷ named ∷ rest) = record_good instant kind named && flat_good rest

unfoldable pub flat_records : List ℕ → List Participant
flat_records [] = []
flat_records (code ∷ []) = []
flat_records (code ∷ instant ∷ []) = []
flat_records (code ∷ instant ∷ kind ∷ []) = []
flat_records (code ∷ instant ∷ kind ∷ named ∷ rest) = record_of code instant kind named ∷ flat_records rest

-- the directory that the numbers are
unfoldable pub flat_directory : List ℕ → List Participant
flat_directory numbers = cond (flat_good numbers) (flat_records numbers) []
