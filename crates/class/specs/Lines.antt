-- The call that a line makes: for each word the centre's call with the values of the line in their order, and what it leaves. A bad line, and one
-- that makes no call, is done with nothing.
use Rattle.std.specs.Prelude.{not, cond, List, [], ◌∷◌, ℕ, ◌-◌, eqb, get_or, take, drop, Option, Some, None}
use Rattle.directory.specs.declared.Participant.{Participant}
use Rattle.seat.specs.declared.settings.Wish.{Wish}
use Rattle.centre.specs.declared.Ticket.{Ticket}
use Rattle.centre.specs.Answers.{Told, done, refused, first}
use Rattle.centre.specs.Calls.{lay_told, lay_after, open_told, open_after, close_told, close_after, set_told, set_after, back_told, back_after, read_told}
use Rattle.centre.specs.Submit.{submit_told, submit_after, submit_slip}
use Rattle.centre.specs.Slips as slips
use Rattle.script.specs.declared.Word.{Word}
use Rattle.script.specs.declared.Word.TheVariants.{
  Blank,
  Room,
  Nobody,
  Owner,
  Direct,
  Indirect,
  Provider,
  Open,
  Close,
  Set,
  Submit,
  Back,
  Read,
  Slip,
  Unknown,
}
use Rattle.script.specs.declared.Line.{Line}
use Rattle.class.specs.Ends.{behind_of}
use Rattle.class.specs.Digits.{ink_in, whole_bytes, bytes_in}

-- the values of a line, from 0 on
abbrev pub value_at : Line → ℕ → ℕ
value_at line k = get_or line.values k 0

-- SEAT OPENING
unfoldable pub ticket_in : Line → Ticket
ticket_in line = record { seat = value_at line 0; opening = value_at line 1 }

-- the sums of `open SEAT SUM SUM ..`
unfoldable pub sums_in : Line → List ℕ
sums_in line = take (line.count - 1) (drop 1 line.values)

-- LPO: 0 for none, n + 1 for the limit n
unfoldable pub limit_in : ℕ → Option ℕ
limit_in n = cond (eqb n 0) None (Some (n - 1))

-- OUT IN LTK LPO of `set SEAT OPENING OWNER ACCOUNT OUT IN LTK LPO`
unfoldable pub wish_in : Line → Wish
wish_in line = record { out = eqb (value_at line 4) 1; into = eqb (value_at line 5) 1; ltk = value_at line 6; lpo = limit_in (value_at line 7) }

-- the rest of a line: the sheet of a submit, the digits of a slip
abbrev pub rest_in : Line → List ℕ → List ℕ
rest_in line text = behind_of text line.rest

-- a slip as digits: 11 where they are not those of whole bytes, else what is read of these
unfoldable pub slip_told : List ℕ → Told
slip_told digits = first ((not (whole_bytes (ink_in digits)), refused 11) ∷ []) (slips.read_told (bytes_in (ink_in digits)))

-- the answer to a line by its word
unfoldable pub word_told : Word → List Participant → Line → List ℕ → List ℕ → List ℕ → Told
word_told Room dir line text slip room = lay_told room
word_told Open dir line text slip room = open_told dir (value_at line 0) (sums_in line) room
word_told Close dir line text slip room = close_told (ticket_in line) room
word_told Set dir line text slip room = set_told dir (ticket_in line) (value_at line 2) (value_at line 3) (wish_in line) room
word_told Submit dir line text slip room = submit_told dir (ticket_in line) (value_at line 2) (value_at line 3) (rest_in line text) slip room
word_told Back dir line text slip room = back_told (ticket_in line) room
word_told Read dir line text slip room = read_told dir (ticket_in line) (value_at line 2) (value_at line 3) room
word_told Slip dir line text slip room = slip_told (rest_in line text)
word_told Blank dir line text slip room = done []
word_told Nobody dir line text slip room = done []
word_told Owner dir line text slip room = done []
word_told Direct dir line text slip room = done []
word_told Indirect dir line text slip room = done []
word_told Provider dir line text slip room = done []
word_told Unknown dir line text slip room = done []

unfoldable pub line_told : List Participant → Line → List ℕ → List ℕ → List ℕ → Told
line_told dir line text slip room = cond line.good (word_told line.word dir line text slip room) (done [])

-- the room behind it
unfoldable pub word_after : Word → List Participant → Line → List ℕ → List ℕ → List ℕ → List ℕ
word_after Room dir line text slip room = lay_after room
word_after Open dir line text slip room = open_after dir (value_at line 0) (sums_in line) room
word_after Close dir line text slip room = close_after (ticket_in line) room
word_after Set dir line text slip room = set_after dir (ticket_in line) (value_at line 2) (value_at line 3) (wish_in line) room
word_after Submit dir line text slip room = submit_after dir (ticket_in line) (value_at line 2) (value_at line 3) (rest_in line text) slip room
word_after Back dir line text slip room = back_after (ticket_in line) room
word_after Read dir line text slip room = room
word_after Slip dir line text slip room = room
word_after Blank dir line text slip room = room
word_after Nobody dir line text slip room = room
word_after Owner dir line text slip room = room
word_after Direct dir line text slip room = room
word_after Indirect dir line text slip room = room
word_after Provider dir line text slip room = room
word_after Unknown dir line text slip room = room

unfoldable pub line_after : List Participant → Line → List ℕ → List ℕ → List ℕ → List ℕ
line_after dir line text slip room = cond line.good (word_after line.word dir line text slip room) room

-- the buffer behind it
unfoldable pub word_slip : Word → List Participant → Line → List ℕ → List ℕ → List ℕ → List ℕ
word_slip Submit dir line text slip room = submit_slip dir (ticket_in line) (value_at line 2) (value_at line 3) (rest_in line text) slip room
word_slip Room dir line text slip room = slip
word_slip Open dir line text slip room = slip
word_slip Close dir line text slip room = slip
word_slip Set dir line text slip room = slip
word_slip Back dir line text slip room = slip
word_slip Read dir line text slip room = slip
word_slip Slip dir line text slip room = slip
word_slip Blank dir line text slip room = slip
word_slip Nobody dir line text slip room = slip
word_slip Owner dir line text slip room = slip
word_slip Direct dir line text slip room = slip
word_slip Indirect dir line text slip room = slip
word_slip Provider dir line text slip room = slip
word_slip Unknown dir line text slip room = slip

unfoldable pub line_slip : List Participant → Line → List ℕ → List ℕ → List ℕ → List ℕ
line_slip dir line text slip room = cond line.good (word_slip line.word dir line text slip room) slip
