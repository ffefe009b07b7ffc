-- What C gets of an answer, and what it says of a wish. Document 01 gives each call a number, a detail and values; how they go through C is our
-- own. Which call is refused when, and what it leaves, is said in `centre` alone: here are only the forms. That nothing is lost in them, that a
-- result gives back its parts and that settings are refused exactly where they could not be stored is proved in `proofs/Meant.antt`.
use Rattle.std.specs.Prelude.{◌&&◌, cond, List, ℕ, ◌+◌, ◌-◌, ◌*◌, leb, eqb, length, get_or, replicate, Option, Some, None}
use Rattle.slip.specs.declared.Slip.{Slip}
use Rattle.sheet.specs.Grammar.{sheet_most}
use Rattle.journal.specs.Steps.{sum_most}
use Rattle.seat.specs.declared.settings.Wish.{Wish}
use Rattle.centre.specs.declared.Ticket.{Ticket}
use Rattle.centre.specs.Answers.{Told}

-- the result of a call: its number, and above it the detail. No number is above 12, and no detail above the place of a sheet that is too long
-- (`proofs/Details.antt`)
abbrev pub detail_most : ℕ
detail_most = sheet_most

-- what one of a detail counts in a result
abbrev pub detail_unit : ℕ
detail_unit = 256

unfoldable pub result_number : Told → ℕ
result_number t = t.number + detail_unit * t.detail

-- what is left in an array that was lent for values: the values, where there are so many. A refusal has none, and leaves zeros
unfoldable pub out_of : ℕ → Told → List ℕ
out_of count t = cond (eqb (length t.values) count) t.values (replicate count 0)

-- the seven numbers of an account, the six of a slip
abbrev pub seven : Told → List ℕ
seven t = out_of 7 t

abbrev pub six : Told → List ℕ
six t = out_of 6 t

-- opening gives one value, the opening number, which has no array: it takes the place of the detail
abbrev pub opening_in : Told → ℕ
opening_in t = get_or (out_of 1 t) 0 0

unfoldable pub open_result : Told → ℕ
open_result t = result_number t + detail_unit * opening_in t

-- a ticket and a slip by their numbers
abbrev pub ticket_of : ℕ → ℕ → Ticket
ticket_of seat opening = record { seat = seat; opening = opening }

abbrev pub slip_of : ℕ → ℕ → ℕ → ℕ → ℕ → ℕ → Slip
slip_of kind status check seat opening step =
    record { kind = kind; status = status; check = check; seat = seat; opening = opening; step = step }

-- LPO: 0 for none, n + 1 for n
unfoldable pub limit_of : ℕ → Option ℕ
limit_of lpo = cond (eqb lpo 0) None (Some (lpo - 1))

-- a block is 0 or 1. Another number is a bad number, refusal 6, in 6's place of the order: so the LTK that goes with it is one above the
-- highest, which no settings may have
unfoldable pub ltk_of : ℕ → ℕ → ℕ → ℕ
ltk_of out into ltk = cond (leb out 1 && leb into 1) ltk (sum_most + 1)

-- the wish of a set call
unfoldable pub wish_of : ℕ → ℕ → ℕ → ℕ → Wish
wish_of out into ltk lpo = record { out = eqb out 1; into = eqb into 1; ltk = ltk_of out into ltk; lpo = limit_of lpo }
