-- What a call does in its seat, by that seat's part alone: what it answers where the room is fit and has the seat, what it makes of the part where
-- it is done, and the slip buffer that it leaves. Definitions only; that the calls are these in a fit room is shown beside.
-- Assumes nothing.
use mathlib.Core.Bool.{not, ◌&&◌}
use mathlib.Core.List.{List, [], ◌∷◌, ◌++◌}
use Prim.Native.Nat.{ℕ, suc}
use lib.Dec.{leb, ltb, eqb}
use lib.ListN.{length, drop}
use Rattle.shape.specs.Dates.{is_date}
use Rattle.slip.specs.Meaning.{slip_long, openings, steps}
use Rattle.slip.specs.Image.{image}
use Rattle.slip.specs.Answers.{write_after}
use Rattle.message.specs.Received.{received_of}
use Rattle.message.specs.Lowest.{number_of}
use Rattle.directory.specs.declared.Participant.{Participant}
use Rattle.directory.specs.Directory.{code_most, found, is_fit}
use Rattle.layout.specs.Rows.{account_row}
use Rattle.layout.specs.Seat.{head_of, account_of}
use Rattle.journal.specs.Steps.{settings_fit}
use Rattle.journal.specs.Working.{stepped, backed}
use Rattle.seat.specs.Fit.{closed_seat, open_seat}
use Rattle.seat.specs.Settings.{settings_of}
use Rattle.seat.specs.Calls.{no_ticket, sums_good, account_named, account_number}
use Rattle.judge.specs.Case.{case_of}
use Rattle.centre.specs.declared.Ticket.{Ticket}
use Rattle.centre.specs.Answers.{Told, done, refused, refused_with, first, behind}
use Rattle.centre.specs.Calls.{set_in}
use Rattle.centre.specs.Submit.{verdict_on, not_taken, step_on, slip_of}
use Rattle.centre.specs.Slips.{write_told, read_told as slip_told}
use Rattle.demands.specs.Calls.{Act, close, set, submit, take_back, read, Call, opening, under, writing, reading}

module _ (dir : List Participant) where
  -- what an act under a ticket answers, by its seat's part
  unfoldable pub act_tells : Ticket → Act → List ℕ → Told
  act_tells ticket close s = first ((no_ticket ticket.opening s, refused 3) ∷ []) (done [])
  act_tells ticket (set owner number wish) s =
      first (
      (not (is_fit dir), refused 2)
      ∷ (no_ticket ticket.opening s, refused 3)
      ∷ (not (account_named (found dir owner) number && settings_fit (settings_of wish)), refused 6)
      ∷ (eqb (head_of s).steps steps, refused 9)
      ∷ []) (done [])
  act_tells ticket (submit sender today sheet slip) s =
      first (
      (not (is_fit dir), refused 2)
      ∷ (no_ticket ticket.opening s, refused 3)
      ∷ (not (leb sender code_most && is_date today), refused 6)
      ∷ (ltb (length slip) slip_long, refused 11)
      ∷ (eqb (head_of s).steps steps, refused 9)
      ∷ (eqb (number_of (received_of sheet).answer).0 7, refused_with 7 (number_of (received_of sheet).answer).1)
      ∷ (eqb (number_of (received_of sheet).answer).0 8, refused_with 8 (number_of (received_of sheet).answer).1)
      ∷ (not_taken (verdict_on (case_of dir sender today) (received_of sheet).answer s), refused_with 12 (verdict_on (case_of dir sender today) (received_of sheet).answer s))
      ∷ []) (done [])
  act_tells ticket take_back s = first ((no_ticket ticket.opening s, refused 3) ∷ (eqb (head_of s).steps 0, refused 10) ∷ []) (done [])
  act_tells ticket (read owner number) s =
      first (
      (not (is_fit dir), refused 2)
      ∷ (no_ticket ticket.opening s, refused 3)
      ∷ (not (account_named (found dir owner) number), refused 6)
      ∷ []) (done (account_row (account_of s (account_number (found dir owner) number))))

  -- what it makes of the part where it is done
  unfoldable pub act_makes : Act → List ℕ → List ℕ
  act_makes close s = closed_seat (head_of s).opening
  act_makes (set owner number wish) s = set_in (account_number (found dir owner) number) wish s
  act_makes (submit sender today sheet slip) s = stepped (step_on (case_of dir sender today) (received_of sheet).answer s) s
  act_makes take_back s = backed s
  act_makes (read owner number) s = s

  -- the slip buffer that it leaves
  unfoldable pub act_writes : Ticket → Act → List ℕ → List ℕ
  act_writes ticket close s = []
  act_writes ticket (set owner number wish) s = []
  act_writes ticket (submit sender today sheet slip) s =
      behind (act_tells ticket (submit sender today sheet slip) s)
      (image (slip_of ticket (suc (head_of s).steps) (step_on (case_of dir sender today) (received_of sheet).answer s)) ++ drop slip_long slip) slip
  act_writes ticket take_back s = []
  act_writes ticket (read owner number) s = []

  -- the same of every call
  unfoldable pub tells : Call → List ℕ → Told
  tells (opening seat sums) s =
      first (
      (not (is_fit dir), refused 2)
      ∷ (eqb (head_of s).opened 1, refused 4)
      ∷ (eqb (head_of s).opening openings, refused 5)
      ∷ (not (sums_good dir sums), refused 6)
      ∷ []) (done (suc (head_of s).opening ∷ []))
  tells (under ticket act) s = act_tells ticket act s
  tells (writing slip buffer) s = write_told slip buffer
  tells (reading bytes) s = slip_told bytes

  unfoldable pub makes : Call → List ℕ → List ℕ
  makes (opening seat sums) s = open_seat (suc (head_of s).opening) sums
  makes (under ticket act) s = act_makes act s
  makes (writing slip buffer) s = s
  makes (reading bytes) s = s

  unfoldable pub writes : Call → List ℕ → List ℕ
  writes (opening seat sums) s = []
  writes (under ticket act) s = act_writes ticket act s
  writes (writing slip buffer) s = write_after slip buffer
  writes (reading bytes) s = []

  -- the part that a call leaves
  unfoldable pub leaves : Call → List ℕ → List ℕ
  leaves call s = behind (tells call s) (makes call s) s
