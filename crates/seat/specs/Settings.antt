-- An account's settings as they are stored, document 01, "Room, seats, directory": a block is 0 or 1, LPO is 0 for none and n + 1 for n. And what
-- an account opens with, document 02, request 2.
use Rattle.std.specs.Prelude.{Bool, false, cond, ℕ, ◌+◌, leb, eqb, Option, Some, None}
use Rattle.layout.specs.declared.rows.Settings.{Settings}
use Rattle.journal.specs.Steps.{sum_most}
use Rattle.seat.specs.declared.settings.Wish.{Wish}

abbrev pub block_number : Bool → ℕ
block_number on = cond on 1 0

-- a limit that is too high stays too high
unfoldable pub limit_number : Option ℕ → ℕ
limit_number None = 0
limit_number (Some n) = cond (leb n sum_most) (n + 1) (sum_most + 2)

-- what a set call gives
unfoldable pub settings_of : Wish → Settings
settings_of w = record { out = block_number w.out; into = block_number w.into; ltk = w.ltk; lpo = limit_number w.lpo }

-- an account opens with nothing blocked, no money kept back, and an LPO equal to its opening sum, or none where that is 0
unfoldable pub opening_limit : ℕ → Option ℕ
opening_limit sum = cond (eqb sum 0) None (Some sum)

unfoldable pub opening_settings : ℕ → Settings
opening_settings sum = settings_of (record { out = false; into = false; ltk = 0; lpo = opening_limit sum })
