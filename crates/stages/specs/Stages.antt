-- The two stages of a transfer, request 9 of document 02: a pacs.008 waits, and the receiving bank's pacs.002 settles or rejects it. One table of
-- cases, in the words of `cases`, and one statement over it. Seat 3 is opened first in every case; account 2 of 300001 has 100.00, and the payment is
-- 50.00. Lack of money is made by an LTK and lifted by a set.
use Rattle.std.specs.Prelude.{List, [], ◌∷◌, map, true, ◌≡◌, ℕ, Some}
use Prim.Native.String.{String}
use Rattle.table.specs.declared.Kind.TheVariants.{Pacs008, Pacs028, Pacs002}
use Rattle.slip.specs.declared.Status.TheVariants.{Pdng, Accc, Rjct, Waits}
use Rattle.directory.specs.declared.Participant.{Participant}
use Rattle.directory.specs.declared.Kind.TheVariants.{Owner}
use Rattle.demands.specs.Calls.{set, take_back, read, Call, under, call_room}
use Rattle.demands.specs.Seats.{Answer}
use Rattle.cases.specs.Sheets.{payment, pacs002, refusing}
use Rattle.cases.specs.Cases.{directory, Line, ◌gives◌, values, started, ticket, from, slipped, morning, wish, pays, asks, answers_from}

-- a bank answers the payment, as its message with this digit
abbrev pub accepts : ℕ → String → String → Call
accepts sender code digit = from sender (pacs002 code digit morning "1" "ACCP" "")

abbrev pub declines : String → Call
declines digit = from 300002 (pacs002 "300002" digit morning "1" "RJCT" "")

abbrev pub refuses : String → Call
refuses digit = from 300002 (pacs002 "300002" digit morning "1" "RJCT" refusing)

-- how the payment and its answer end, as step n
abbrev pub waits : ℕ → Answer
waits n = slipped Pacs008 Waits 0 n

abbrev pub settles : ℕ → Answer
settles n = slipped Pacs002 Accc 0 n

abbrev pub rejects : ℕ → ℕ → Answer
rejects check n = slipped Pacs002 Rjct check n

-- the last step is taken back
abbrev pub back : Line
back = under ticket take_back gives values []

-- account 2 of an owner: opening sum, balance, turnover, blocks, LTK and LPO. That of 300001 opened with 100.00, which is its LPO; that of 300002
-- with nothing, and so with no LPO
abbrev pub reads : ℕ → Call
reads owner = under ticket (read owner 2)

abbrev pub payer : ℕ → ℕ → Answer
payer balance turnover = values (10000 ∷ balance ∷ turnover ∷ 0 ∷ 0 ∷ 0 ∷ 10001 ∷ [])

abbrev pub payee : ℕ → Answer
payee balance = values (0 ∷ balance ∷ 0 ∷ 0 ∷ 0 ∷ 0 ∷ 0 ∷ [])

-- account 2 of 300001 is given this LTK; its LPO stays
abbrev pub keeps_back : ℕ → Call
keeps_back ltk = under ticket (set 300001 2 (wish ltk (Some 10000)))

-- calls with their answers under one directory after the other
pub record Part : Type 0 where
  pub dir : List Participant
  pub lines : List Line

abbrev pub here : List Line → Part
here lines = record { dir = directory; lines = lines }

-- a directory that lists the receiving bank alone, and so in another place
abbrev pub receiver_alone : List Participant
receiver_alone = record { code = 300002; instant = true; kind = Owner } ∷ []

-- it waits, and nothing moves; asked after, that is not known yet; settled, money moves and it is told; answered again, nothing is waiting
abbrev pub settled : List Part
settled =
    here (
    pays gives waits 1
    ∷ reads 300001 gives payer 10000 0
    ∷ asks gives slipped Pacs028 Pdng 10 2
    ∷ back
    ∷ accepts 300002 "300002" "4" gives settles 2
    ∷ reads 300001 gives payer 5000 5000
    ∷ reads 300002 gives payee 5000
    ∷ asks gives slipped Pacs028 Accc 0 3
    ∷ declines "5" gives rejects 35 4
    ∷ [])
    ∷ []

-- declined, which is told; taken back it waits again, and the credit is refused; taken back and accepted
abbrev pub rejected : List Part
rejected =
    here (
    pays gives waits 1
    ∷ declines "4" gives rejects 36 2
    ∷ asks gives slipped Pacs028 Rjct 36 3
    ∷ back
    ∷ back
    ∷ refuses "4" gives rejects 37 2
    ∷ asks gives slipped Pacs028 Rjct 37 3
    ∷ back
    ∷ back
    ∷ accepts 300002 "300002" "4" gives settles 2
    ∷ reads 300001 gives payer 5000 5000
    ∷ [])
    ∷ []

-- there was money at the submit and is none at the settling: rejected for good
abbrev pub short : List Part
short =
    here (
    pays gives waits 1
    ∷ keeps_back 10000 gives values []
    ∷ accepts 300002 "300002" "4" gives rejects 22 3
    ∷ keeps_back 0 gives values []
    ∷ accepts 300002 "300002" "5" gives rejects 35 5
    ∷ [])
    ∷ []

-- there was none at the submit and is some at the settling
abbrev pub filled : List Part
filled =
    here (
    keeps_back 10000 gives values []
    ∷ pays gives waits 2
    ∷ keeps_back 0 gives values []
    ∷ accepts 300002 "300002" "4" gives settles 4
    ∷ [])
    ∷ []

-- a payment to a direct branch: its head cannot answer, the branch can, and the money is its head's
abbrev pub branch : List Part
branch =
    here (
    from 300001 (payment "300012" "1" morning "UA213223130000026007233566001") gives waits 1
    ∷ accepts 300002 "300002" "4" gives rejects 35 2
    ∷ accepts 300012 "300012" "5" gives settles 3
    ∷ reads 300002 gives payee 5000
    ∷ [])
    ∷ []

-- another directory at the answer, in which the sender is gone and the receiver stands elsewhere: the accounts are those that were kept
abbrev pub paid : Part
paid = here (pays gives waits 1 ∷ [])

abbrev pub answered_elsewhere : Part
answered_elsewhere = record { dir = receiver_alone; lines = accepts 300002 "300002" "4" gives settles 2 ∷ [] }

abbrev pub read_again : Part
read_again = here (reads 300001 gives payer 5000 5000 ∷ reads 300002 gives payee 5000 ∷ [])

abbrev pub elsewhere : List Part
elsewhere = paid ∷ answered_elsewhere ∷ read_again ∷ []

-- what calls answer from a room on, and the room after them
abbrev pub calls_of : Part → List Call
calls_of part = map (λ (line : Line). line.0) part.lines

abbrev pub answers_of : Part → List Answer
answers_of part = map (λ (line : Line). line.1) part.lines

abbrev pub room_after : List Participant → List Call → List ℕ → List ℕ
room_after dir [] room = room
room_after dir (call ∷ calls) room = room_after dir calls (call_room dir call room)

abbrev pub played_in : Part → List ℕ → List Answer
played_in part room = answers_from part.dir room (calls_of part)

-- each part of a case, played from where the one before it left the room, gives the answers that stand beside its calls
pub data Holds : List ℕ → List Part → Type 0 where
  none : (room : List ℕ) → Holds room []
  also : (room : List ℕ) (part : Part) (parts : List Part) → played_in part room ≡ answers_of part
      → Holds (room_after part.dir (calls_of part) room) parts → Holds room (part ∷ parts)

pub record Stages : Type 0 where
  pub settled-holds : Holds started settled
  pub rejected-holds : Holds started rejected
  pub short-holds : Holds started short
  pub filled-holds : Holds started filled
  pub branch-holds : Holds started branch
  pub elsewhere-holds : Holds started elsewhere
