-- The cases of document 01, "Cases proved together": one table, and one statement over it. A case is a list of calls, from a room that was laid
-- out, each with its whole answer: number, detail and values, and the slip buffer after it. The calls and their answers are those of the
-- demands, and so of the contracts in `centre`; the statement is proved by working every call out (`proofs/Computed.antt`).
-- Sums are in kopecks. Seat 3 is opened first in every case, with opening number 1, and every message comes on 2024-03-01.
use Rattle.std.specs.Prelude.{true, false, List, [], ◌∷◌, ◌++◌, map, ◌≡◌, ℕ, replicate, Option, Some}
use Prim.Native.String.{String}
use Rattle.shape.specs.Text.{bytes}
use Rattle.table.specs.declared.Kind.{Kind}
use Rattle.table.specs.declared.Kind.TheVariants.{Pacs008, Camt050, Pacs028, Pacs002}
use Rattle.slip.specs.declared.Slip.{Slip}
use Rattle.slip.specs.declared.Status.{Status}
use Rattle.slip.specs.declared.Status.TheVariants.{Pdng, Accc, Rjct, Waits}
use Rattle.slip.specs.Meaning.{slip_long, kind_number, status_number}
use Rattle.slip.specs.Image.{image}
use Rattle.directory.specs.declared.Participant.{Participant}
use Rattle.directory.specs.declared.Kind.TheVariants.{Owner, Direct, Indirect}
use Rattle.seat.specs.declared.settings.Wish.{Wish}
use Rattle.strike.specs.Strike.{events}
use Rattle.centre.specs.declared.Ticket.{Ticket}
use Rattle.centre.specs.Answers.{Told, done, refused, refused_with}
use Rattle.demands.specs.Calls.{close, set, submit, take_back, read, Call, opening, under, writing, reading, call_room, new_room}
use Rattle.demands.specs.Seats.{Answer, centre}
use Rattle.cases.specs.Sheets.{camt050, pacs008, pacs028, pacs002}

-- two owners, an indirect branch of the first and a direct branch of the second, all instant
abbrev pub directory : List Participant
directory =
    record { code = 300001; instant = true; kind = Owner }
    ∷ record { code = 300002; instant = true; kind = Owner }
    ∷ record { code = 300011; instant = true; kind = Indirect 300001 }
    ∷ record { code = 300012; instant = true; kind = Direct 300002 }
    ∷ []

-- a call with its answer
abbrev pub Line : Type 0
Line = Call × Answer

infix 70 ◌gives◌
abbrev pub ◌gives◌ : Call → Answer → Line
call gives answer = (call, answer)

pub record Case : Type 0 where
  pub calls : List Call
  pub answers : List Answer

-- the answers of calls that are lent no slip buffer: done, with values; refused
abbrev pub values : List ℕ → Answer
values numbers = (done numbers, [])

abbrev pub refusal : ℕ → Answer
refusal number = (refused number, [])

-- seat 3 is opened with 500.00 and 100.00 for 300001, others are empty; it is the seat's first opening
abbrev pub begin : Call
begin = opening 3 (50000 ∷ 10000 ∷ 0 ∷ 0 ∷ 0 ∷ 0 ∷ 0 ∷ 0 ∷ [])

-- the room after it
abbrev pub started : List ℕ
started = call_room directory begin new_room

abbrev pub ticket : Ticket
ticket = record { seat = 3; opening = 1 }

-- a case: these calls after that opening
abbrev pub from_start : List Line → Case
from_start lines = record {
  calls = begin ∷ map (λ (line : Line). line.0) lines;
  answers = values (1 ∷ []) ∷ map (λ (line : Line). line.1) lines;
}

-- a message comes with a slip buffer of six bytes. It becomes a step, and the slip says which and how it ended; or it is refused, and the
-- buffer stays
abbrev pub buffer : List ℕ
buffer = replicate slip_long 0xFF

abbrev pub from : ℕ → List ℕ → Call
from sender sheet = under ticket (submit sender 20240301 sheet buffer)

abbrev pub slip : Kind → Status → ℕ → ℕ → Slip
slip kind status check step = record {
  kind = kind_number kind;
  status = status_number status;
  check = check;
  seat = 3;
  opening = 1;
  step = step;
}

abbrev pub slipped : Kind → Status → ℕ → ℕ → Answer
slipped kind status check step = (done [], image (slip kind status check step))

abbrev pub unslipped : Told → Answer
unslipped told = (told, buffer)

-- the time at which most messages are created
abbrev pub morning : String
morning = "2024-03-01T09:30:00"

-- 300001 sends a camt.050 with this digit over this amount, from account 1 to account 2; carried out as step n; rejected by a check as step n
abbrev pub moves : String → String → Call
moves digit amount = from 300001 (camt050 "300001" digit morning amount)

abbrev pub accepted : ℕ → Answer
accepted n = slipped Camt050 Accc 0 n

abbrev pub rejected : ℕ → ℕ → Answer
rejected check n = slipped Camt050 Rjct check n

-- account 1 or 2 of 300001 is read: opening sum, balance, turnover, blocks outgoing and incoming, LTK, LPO, which is 0 for none and n + 1 for n
abbrev pub reads : ℕ → Call
reads number = under ticket (read 300001 number)

-- account 1 of 300001 is set: no blocks, this LTK, this LPO. It opens with LTK 0 and an LPO of 500.00, its opening sum; a case that names one
-- of the two leaves the other as it opened
abbrev pub wish : ℕ → Option ℕ → Wish
wish ltk lpo = record { out = false; into = false; ltk = ltk; lpo = lpo }

abbrev pub sets : ℕ → Option ℕ → Call
sets ltk lpo = under ticket (set 300001 1 (wish ltk lpo))

abbrev pub as_opened : Option ℕ
as_opened = Some 50000

-- 1. All 500.00 of account 1 can be moved, and then there are 0.00 and 600.00. One kopeck more is too much for its money, which is looked at before
-- its LPO
abbrev pub case1 : List Case
case1 =
    from_start (
    moves "1" "500.00" gives accepted 1
    ∷ reads 1 gives values (50000 ∷ 0 ∷ 50000 ∷ 0 ∷ 0 ∷ 0 ∷ 50001 ∷ [])
    ∷ reads 2 gives values (10000 ∷ 60000 ∷ 0 ∷ 0 ∷ 0 ∷ 0 ∷ 10001 ∷ [])
    ∷ [])
    ∷ from_start (moves "1" "500.01" gives rejected 22 1 ∷ [])
    ∷ []

-- 2. With an LTK of 100.00 there are 400.00 to move, and not a kopeck more
abbrev pub case2 : List Case
case2 =
    from_start (sets 10000 as_opened gives values [] ∷ moves "1" "400.00" gives accepted 2 ∷ [])
    ∷ from_start (sets 10000 as_opened gives values [] ∷ moves "1" "400.01" gives rejected 22 2 ∷ [])
    ∷ []

-- 3. With an LPO of 400.00 that much can be moved, and after it nothing. With an LPO of 0 nothing at all, by a check of its own
abbrev pub case3 : List Case
case3 =
    from_start (
    sets 0 (Some 40000) gives values []
    ∷ moves "1" "400.00" gives accepted 2
    ∷ moves "2" "0.01" gives rejected 23 3
    ∷ [])
    ∷ from_start (sets 0 (Some 0) gives values [] ∷ moves "1" "0.01" gives rejected 24 2 ∷ [])
    ∷ []

-- 4. A direct branch is no owner: its camt.050 is rejected. An indirect branch's is no step and has no slip
abbrev pub case4 : List Case
case4 =
    from_start (from 300012 (camt050 "300012" "1" morning "1.00") gives rejected 4 1 ∷ [])
    ∷ from_start (from 300011 (camt050 "300011" "1" morning "1.00") gives unslipped (refused_with 12 2) ∷ [])
    ∷ []

-- 5. On 2024-03-01 a message of the leap day is of the day before, one of 2024-02-28 is older
abbrev pub case5 : List Case
case5 =
    from_start (from 300001 (camt050 "300001" "1" "2024-02-29T23:59:59" "1.00") gives accepted 1 ∷ [])
    ∷ from_start (from 300001 (camt050 "300001" "1" "2024-02-28T23:59:59" "1.00") gives rejected 7 1 ∷ [])
    ∷ []

-- 300001 pays a customer of 300002 as message 1; 300002 accepts it as message 2 of its own
abbrev pub pays : Call
pays = from 300001 (pacs008 "1" morning "UA213223130000026007233566001")

abbrev pub accepts : Call
accepts = from 300002 (pacs002 "300002" "2" morning "1" "ACCP" "")

-- 300001 asks after it
abbrev pub asks : Call
asks = from 300001 (pacs028 "3" morning "1")

-- 6. A right IBAN, and the same with another last digit: the first waits for its answer
abbrev pub case6 : List Case
case6 =
    from_start (pays gives slipped Pacs008 Waits 0 1 ∷ [])
    ∷ from_start (from 300001 (pacs008 "1" morning "UA213223130000026007233566002") gives slipped Pacs008 Rjct 34 1 ∷ [])
    ∷ []

-- 7. Once a pacs.008 was taken back, no step has the identifier that a pacs.028 asks after. The same after it was answered, told of as settled, and
-- the question, the answer and the payment were taken back
abbrev pub case7 : List Case
case7 =
    from_start (
    pays gives slipped Pacs008 Waits 0 1
    ∷ under ticket take_back gives values []
    ∷ asks gives slipped Pacs028 Pdng 10 1
    ∷ [])
    ∷ from_start (
    pays gives slipped Pacs008 Waits 0 1
    ∷ accepts gives slipped Pacs002 Accc 0 2
    ∷ asks gives slipped Pacs028 Accc 0 3
    ∷ under ticket take_back gives values []
    ∷ under ticket take_back gives values []
    ∷ under ticket take_back gives values []
    ∷ asks gives slipped Pacs028 Pdng 10 1
    ∷ [])
    ∷ []

-- 8. The bytes of a slip: six as a message gets them, as they are written and as they are read; five as they are read, which mean the same. A
-- buffer of five bytes is too short. Five bytes with a zero after them mean something else: the length alone says the form
abbrev pub five : List ℕ
five = 0x48 ∷ 0x0C ∷ 0x00 ∷ 0x04 ∷ 0x01 ∷ []

abbrev pub six : List ℕ
six = 0x48 ∷ 0x06 ∷ 0x00 ∷ 0x02 ∷ 0x00 ∷ 0x80 ∷ []

abbrev pub case8 : List Case
case8 =
    from_start (
    moves "1" "1.00" gives (done [], six)
    ∷ writing (slip Camt050 Accc 0 1) buffer gives (done [], six)
    ∷ reading six gives values (2 ∷ 1 ∷ 0 ∷ 3 ∷ 1 ∷ 1 ∷ [])
    ∷ reading five gives values (2 ∷ 1 ∷ 0 ∷ 3 ∷ 1 ∷ 1 ∷ [])
    ∷ [])
    ∷ from_start (
    under ticket (submit 300001 20240301 (camt050 "300001" "1" morning "1.00") five) gives (refused 11, five)
    ∷ writing (slip Camt050 Accc 0 1) five gives (refused 11, five)
    ∷ reading (five ++ 0x00 ∷ []) gives values (2 ∷ 1 ∷ 0 ∷ 6 ∷ 2 ∷ 2 ∷ [])
    ∷ [])
    ∷ []

-- 9. Where sheets are refused: an element that holds nothing, one that is closed by another name, no sheet at all
abbrev pub case9 : List Case
case9 =
    from_start (
    from 300001 (bytes "<A></A>") gives unslipped (refused_with 7 4)
    ∷ from 300001 (bytes "<A>x</B>") gives unslipped (refused_with 7 6)
    ∷ from 300001 [] gives unslipped (refused_with 7 0)
    ∷ [])
    ∷ []

-- 10. A seat that was closed and opened again has opening number 2, and no call with 1 is heard
abbrev pub case10 : List Case
case10 =
    from_start (
    under ticket close gives values []
    ∷ begin gives values (2 ∷ [])
    ∷ reads 1 gives refusal 3
    ∷ sets 0 as_opened gives refusal 3
    ∷ moves "1" "1.00" gives unslipped (refused 3)
    ∷ under ticket take_back gives refusal 3
    ∷ under ticket close gives refusal 3
    ∷ [])
    ∷ []

-- 11. With 24 steps there is no place for another; once one is taken back, its place and its number are free
abbrev pub case11 : List Case
case11 =
    from_start (replicate 24 (sets 0 as_opened gives values [])
    ++ (sets 0 as_opened gives refusal 9
    ∷ moves "1" "1.00" gives unslipped (refused 9)
    ∷ under ticket take_back gives values []
    ∷ moves "1" "1.00" gives accepted 24
    ∷ []))
    ∷ []

abbrev pub table : List Case
table = case1 ++ case2 ++ case3 ++ case4 ++ case5 ++ case6 ++ case7 ++ case8 ++ case9 ++ case10 ++ case11

-- what calls answer, one after the other, from a room on
abbrev pub answers_from : List Participant → List ℕ → List Call → List Answer
answers_from dir room calls = map (λ (event : Call × Answer). event.1) (events (centre dir) calls room)

-- the calls of a case, from a room that was laid out
abbrev pub played : Case → List Answer
played case = answers_from directory new_room case.calls

-- the statement: played, every case gives the answers that stand beside its calls
abbrev pub Cases : Type 0
Cases = map played table ≡ map (λ (case : Case). case.answers) table
