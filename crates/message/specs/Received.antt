-- What a sheet is received as: a refusal by 7 or 8, or the message, with the place of each field's text by the field's number.
-- It works the answer out; that the answer is what the sheet is due by `Due`, and nothing else, is the theorem of `proofs/Due.antt`.
use Rattle.std.specs.Prelude.{cond, List, [], ◌∷◌, ◌++◌, map, ℕ, ◌-◌, eqb, leb, length, get_or, replicate, Option, Some, None, Ok, Err}
use Rattle.sheet.specs.Answer.{Reading, accepted, refused, reading_of}
use Rattle.sheet.specs.Reader.{shown_at}
use Rattle.outline.specs.Rows.{Row, rows_of}
use Rattle.table.specs.declared.Kind.{Kind}
use Rattle.message.specs.declared.Refusal.{Refusal}
use Rattle.message.specs.declared.Refusal.TheVariants.{IllFormed, BadField}
use Rattle.message.specs.declared.Received.{Received}
use Rattle.message.specs.declared.found.Spot.{Spot}
use Rattle.message.specs.Fields.{fields_most}
use Rattle.message.specs.Held.{Held, kind_of, held_of}
use Rattle.message.specs.Good.{lowest_bad}
use Rattle.message.specs.Message.{text_in, spot_in, numbered, message_of}

-- where there is no text
abbrev pub no_spot : Spot
no_spot = record { start = 0; length = 0 }

-- by the number of a field: at 0, and after the last field, no text
abbrev pub by_number : List Spot → List Spot
by_number spots = no_spot ∷ (spots ++ replicate (fields_most - length spots) no_spot)

abbrev pub nothing : List Spot
nothing = by_number []

abbrev pub refusal : Refusal → Received
refusal reason = record { answer = Err reason; spots = nothing }

-- 8 with the lowest number of a bad field; else the message
abbrev pub judged : Kind → List Held → ℕ → Received
judged kind held bad =
    cond (eqb bad 0)
    (record { answer = Ok (message_of kind held); spots = by_number (map spot_in held) })
    (refusal (BadField bad))

unfoldable pub received_in : Kind → List Held → Received
received_in kind held = judged kind held (lowest_bad kind held)

-- 8 with 0 where the message is unknown
unfoldable pub received_as : Option Kind → List Row → Received
received_as None rows = refusal (BadField 0)
received_as (Some kind) rows = received_in kind (held_of kind rows)

-- 7 with the place where the sheet is ill-formed
unfoldable pub received_from : List ℕ → Reading → Received
received_from s (refused place) = refusal (IllFormed place)
received_from s (accepted n starts depths) = received_as (kind_of (rows_of s n starts depths)) (rows_of s n starts depths)

unfoldable pub received_of : List ℕ → Received
received_of s = received_from s (reading_of s)

-- the part that is shown as the field with a number
unfoldable pub shown_in : List ℕ → List Spot → ℕ → List ℕ
shown_in s spots k = shown_at s (get_or spots k no_spot).start (get_or spots k no_spot).length

-- and of what was received: no field has a number above the most
unfoldable pub field_shown : List ℕ → Received → ℕ → List ℕ
field_shown s received k = cond (leb k fields_most) (shown_in s received.spots k) []

-- the text of the field with a number in the message that a sheet is; nothing where it is no message, or the field is not given
unfoldable pub field_as : Option Kind → List Row → ℕ → List ℕ
field_as None rows k = []
field_as (Some kind) rows k = cond (eqb (lowest_bad kind (held_of kind rows)) 0) (text_in (numbered (held_of kind rows) k)) []

unfoldable pub field_from : List ℕ → Reading → ℕ → List ℕ
field_from s (refused place) k = []
field_from s (accepted n starts depths) k = field_as (kind_of (rows_of s n starts depths)) (rows_of s n starts depths) k

unfoldable pub field_of : List ℕ → ℕ → List ℕ
field_of s k = field_from s (reading_of s) k
