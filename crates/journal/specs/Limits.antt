-- What an account's settings leave: document 01, "Room, seats, directory", and the tests that checks 20 to 24 are made of.
use Rattle.std.specs.Prelude.{Bool, ◌&&◌, ℕ, ◌+◌, ◌-◌, ltb, eqb}
use Rattle.layout.specs.declared.rows.Account.{Account}

-- blocked outgoing, blocked incoming
unfoldable pub blocked_out : Account → Bool
blocked_out a = eqb a.settings.out 1

unfoldable pub blocked_into : Account → Bool
blocked_into a = eqb a.settings.into 1

-- available money is balance minus LTK and may be below zero; so it is below an amount where the balance is below LTK and the amount together
unfoldable pub available_below : Account → ℕ → Bool
available_below a amount = ltb a.balance (a.settings.ltk + amount)

-- LPO above 0, turnover plus amount above it; LPO is stored as 0 for none and n + 1 for n
unfoldable pub turnover_above : Account → ℕ → Bool
turnover_above a amount = ltb 1 a.settings.lpo && ltb (a.settings.lpo - 1) (a.turnover + amount)

-- LPO is 0
unfoldable pub turnover_shut : Account → Bool
turnover_shut a = eqb a.settings.lpo 1
