-- What a slip says: document 01, "The slip", and requests 8 and 9 of document 02. A slip is exactly what these range over, whether a message can
-- bring it about or not. It has one of two forms: five bytes, which mark books hold and which is only read, and six bytes, which is written too.
use Rattle.std.specs.Prelude.{Bool, false, ◌&&◌, ◌||◌, cond, List, [], ◌∷◌, ◌++◌, ℕ, ◌-◌, leb, eqb}
use Rattle.table.specs.declared.Kind.{Kind}
use Rattle.table.specs.declared.Kind.TheVariants.{Pacs008, Camt050, Pacs028, Pacs002}
use Rattle.table.specs.Checks.{◌to◌, is_in}
use Rattle.slip.specs.declared.Form.{Form}
use Rattle.slip.specs.declared.Form.TheVariants.{FiveBytes, SixBytes}
use Rattle.slip.specs.declared.Slip.{Slip}
use Rattle.slip.specs.declared.Status.{Status}
use Rattle.slip.specs.declared.Status.TheVariants.{Pdng, Accc, Rjct, Waits}

-- the numbers of the kinds and of the statuses
unfoldable pub kind_number : Kind → ℕ
kind_number Pacs008 = 1
kind_number Camt050 = 2
kind_number Pacs028 = 3
kind_number Pacs002 = 4

unfoldable pub status_number : Status → ℕ
status_number Pdng = 0
status_number Accc = 1
status_number Rjct = 2
status_number Waits = 3

-- the bytes of a slip that is written; seats 0 to 11, openings 1 to 65,535, steps 1 to 24
abbrev pub slip_long : ℕ
slip_long = 6

abbrev pub seats : ℕ
seats = 12

abbrev pub openings : ℕ
openings = 65535

abbrev pub steps : ℕ
steps = 24

-- a kind and a status, and the checks that may stand with them
pub record Saying : Type 0 where
  pub kind : ℕ
  pub status : ℕ
  pub checks : List ℕ

abbrev pub saying : Kind → Status → List ℕ → Saying
saying kind status checks = record { kind = kind_number kind; status = status_number status; checks = checks }

-- the checks that a slip may name: those that the kind's order has or has had, but for 1 and 2, which never appear
abbrev pub pacs008_checks : List ℕ
pacs008_checks = 3 ∷ 5 to 8 ++ 17 ∷ 20 to 34

abbrev pub camt050_checks : List ℕ
camt050_checks = 3 to 7 ++ 12 to 24

abbrev pub pacs028_checks : List ℕ
pacs028_checks = 3 ∷ 5 to 11

abbrev pub pacs002_checks : List ℕ
pacs002_checks = 3 ∷ 5 to 7 ++ 20 to 24 ++ 35 to 37

-- the checks by which the receiving bank refuses a transfer
abbrev pub refusals : List ℕ
refusals = 36 ∷ 37 ∷ []

-- what a slip of either form may say: transfers end as ACCC with 0 or RJCT with a check; pacs.028 fails as PDNG, else it tells how a pacs.008 ended.
-- No pacs.008 ends as ACCC or by 20 to 24 at its submit any more; slips in mark books do
unfoldable pub either_says : List Saying
either_says =
    saying Pacs008 Accc (0 ∷ [])
    ∷ saying Pacs008 Rjct pacs008_checks
    ∷ saying Camt050 Accc (0 ∷ [])
    ∷ saying Camt050 Rjct camt050_checks
    ∷ saying Pacs028 Pdng pacs028_checks
    ∷ saying Pacs028 Accc (0 ∷ [])
    ∷ saying Pacs028 Rjct pacs008_checks
    ∷ []

-- what six bytes alone may say: a pacs.008 waits for its answer; a pacs.028 tells of a refused one; how a pacs.002 ended
unfoldable pub six_alone_says : List Saying
six_alone_says =
    saying Pacs008 Waits (0 ∷ [])
    ∷ saying Pacs028 Rjct refusals
    ∷ saying Pacs002 Accc (0 ∷ [])
    ∷ saying Pacs002 Rjct pacs002_checks
    ∷ []

-- what a slip that is written may say
unfoldable pub sayings : List Saying
sayings = either_says ++ six_alone_says

-- some line has the kind and the status, and the check is one of its
abbrev pub says_in : List Saying → ℕ → ℕ → ℕ → Bool
says_in [] kind status check = false
says_in (x ∷ xs) kind status check =
    eqb kind x.kind && eqb status x.status && is_in check x.checks || says_in xs kind status check

abbrev pub says : ℕ → ℕ → ℕ → Bool
says = says_in sayings

-- how many bits each value of a slip has
pub record Widths : Type 0 where
  pub kind : ℕ
  pub status : ℕ
  pub check : ℕ
  pub seat : ℕ
  pub opening : ℕ
  pub step : ℕ

-- the measures of a form: the widths of the values, how many zero bits stand after them, the bytes in all, the seats that it can name, and what
-- it may say
pub record Measures : Type 0 where
  pub widths : Widths
  pub spare : ℕ
  pub long : ℕ
  pub seats : ℕ
  pub sayings : List Saying

-- both forms have kind 3, status 2, check 6, opening 16 and step 10; they differ in the seat
abbrev pub widths_with : ℕ → Widths
widths_with seat = record { kind = 3; status = 2; check = 6; seat = seat; opening = 16; step = 10 }

-- five bytes: 40 bits, seats 0 to 7
abbrev pub five_bytes : Measures
five_bytes = record { widths = widths_with 3; spare = 0; long = 5; seats = 8; sayings = either_says }

-- six bytes: 41 bits and then seven that are zero, every seat of a room
abbrev pub six_bytes : Measures
six_bytes = record { widths = widths_with 4; spare = 7; long = slip_long; seats = seats; sayings = sayings }

-- the two forms by the names that the code has for them
abbrev pub measures : Form → Measures
measures FiveBytes = five_bytes
measures SixBytes = six_bytes

-- the length alone says which form bytes are to be read in: five bytes in the five-byte form, any others in the other, which has six
abbrev pub form_of : ℕ → Form
form_of long = cond (eqb long five_bytes.long) FiveBytes SixBytes

-- the six values are those of a slip of a form
abbrev pub is_slip_in : Measures → Slip → Bool
is_slip_in form s =
    says_in form.sayings s.kind s.status s.check
    && leb s.seat (form.seats - 1)
    && leb 1 s.opening && leb s.opening openings
    && leb 1 s.step && leb s.step steps

-- they are those of a slip that can be written
unfoldable pub is_slip : Slip → Bool
is_slip = is_slip_in six_bytes
