-- How the centre answers: document 01, "Calls and refusals". Each case of an answer has the number that the table of refusals gives it, the detail
-- that it names (a place, a field, a check), and what a call that is done gives back.
use Rattle.std.specs.Prelude.{Bool, cond, List, [], ◌∷◌, ℕ, eqb, Result, Ok, Err}
use Rattle.slip.specs.declared.Slip.{Slip}
use Rattle.layout.specs.Rows.{account_row}
use Rattle.seat.specs.Calls.{Answer as SeatAnswer, is_done as seat_done, number_of as seat_number}
use Rattle.centre.specs.declared.answers.Done.{Done}
use Rattle.centre.specs.declared.answers.Done.TheVariants.{Plain, Opened, Holds, Says}
use Rattle.centre.specs.declared.answers.Refusal.{Refusal}
use Rattle.centre.specs.declared.answers.Refusal.TheVariants.{
  RoomUnfit,
  DirectoryUnfit,
  NoTicket,
  AlreadyOpen,
  NoOpeningLeft,
  BadNumber,
  IllFormed,
  BadField,
  JournalFull,
  NothingToTakeBack,
  NoSlip,
  NotTaken,
}

-- how a call ends: done, with what it gives back, or refused
abbrev pub Answer : Type 0
Answer = Result Done Refusal

-- an answer as the document gives it
pub record Told : Type 0 where
  pub number : ℕ
  pub detail : ℕ
  pub values : List ℕ

-- 0 with what the call gives back
abbrev pub done : List ℕ → Told
done values = record { number = 0; detail = 0; values = values }

-- a refusal by its number, without a detail and with one
abbrev pub refused : ℕ → Told
refused number = record { number = number; detail = 0; values = [] }

abbrev pub refused_with : ℕ → ℕ → Told
refused_with number detail = record { number = number; detail = detail; values = [] }

-- the six values of a slip
unfoldable pub slip_values : Slip → List ℕ
slip_values slip = slip.kind ∷ slip.status ∷ slip.check ∷ slip.seat ∷ slip.opening ∷ slip.step ∷ []

-- the numbers and values of each case: an opening number; the seven numbers of an account; the six of a slip
unfoldable pub told : Answer → Told
told (Ok Plain) = done []
told (Ok (Opened opening)) = done (opening ∷ [])
told (Ok (Holds account)) = done (account_row account)
told (Ok (Says slip)) = done (slip_values slip)
told (Err RoomUnfit) = refused 1
told (Err DirectoryUnfit) = refused 2
told (Err NoTicket) = refused 3
told (Err AlreadyOpen) = refused 4
told (Err NoOpeningLeft) = refused 5
told (Err BadNumber) = refused 6
told (Err (IllFormed place)) = refused_with 7 place
told (Err (BadField number)) = refused_with 8 number
told (Err JournalFull) = refused 9
told (Err NothingToTakeBack) = refused 10
told (Err NoSlip) = refused 11
told (Err (NotTaken check)) = refused_with 12 check

-- refusals stand in a table in their order: the answer is the first whose test holds, else that the call is done
abbrev pub first : List (Bool × Told) → Told → Told
first [] otherwise = otherwise
first (r ∷ rest) otherwise = cond r.0 r.1 (first rest otherwise)

unfoldable pub is_done : Told → Bool
is_done t = eqb t.number 0

-- what a call leaves: what it made where it is done, else what came
unfoldable pub behind : {A : Type 0} → Told → A → A → A
behind t made came = cond (is_done t) made came

-- a seat's answer in the room's words, with what the call gives back where it is done
unfoldable pub seat_told : SeatAnswer → List ℕ → Told
seat_told answer values = cond (seat_done answer) (done values) (refused (seat_number answer))
