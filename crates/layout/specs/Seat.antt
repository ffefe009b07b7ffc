-- A seat as numbers: its head, the accounts of 16 places, two for each, and 24 steps. A room is 12 seats, one after the other.
-- Account 1 of place p is the account 2 p, account 2 the account 2 p + 1.
use Rattle.std.specs.Prelude.{List, ℕ, ◌+◌, ◌*◌}
use Rattle.layout.specs.declared.rows.Head.{Head}
use Rattle.layout.specs.declared.rows.Account.{Account}
use Rattle.layout.specs.declared.rows.Step.{Step}
use Rattle.slip.specs.Meaning.{seats, steps}
use Rattle.layout.specs.Parts.{part, put}
use Rattle.layout.specs.Rows.{head_long, head_row, head_in, account_long, account_row, account_in, step_long, step_row, step_in}

abbrev pub places : ℕ
places = 16

-- accounts in a seat
abbrev pub accounts : ℕ
accounts = 2 * places

-- where an account and a step stand in a seat
abbrev pub account_from : ℕ → ℕ
account_from i = head_long + account_long * i

abbrev pub step_from : ℕ → ℕ
step_from k = account_from accounts + step_long * k

-- how many numbers a seat and a room have
abbrev pub seat_long : ℕ
seat_long = step_from steps

abbrev pub room_long : ℕ
room_long = seats * seat_long

-- the rows of a seat, and the seat with another row in its place
unfoldable pub head_of : List ℕ → Head
head_of s = head_in (part s 0 head_long)

unfoldable pub with_head : List ℕ → Head → List ℕ
with_head s h = put s 0 head_long (head_row h)

unfoldable pub account_of : List ℕ → ℕ → Account
account_of s i = account_in (part s (account_from i) account_long)

unfoldable pub with_account : List ℕ → ℕ → Account → List ℕ
with_account s i a = put s (account_from i) account_long (account_row a)

unfoldable pub step_of : List ℕ → ℕ → Step
step_of s k = step_in (part s (step_from k) step_long)

unfoldable pub with_step : List ℕ → ℕ → Step → List ℕ
with_step s k x = put s (step_from k) step_long (step_row x)

-- where a seat stands in a room
abbrev pub seat_from : ℕ → ℕ
seat_from k = seat_long * k

-- the seats of a room, and the room with another seat in its place
unfoldable pub seat_of : List ℕ → ℕ → List ℕ
seat_of r k = part r (seat_from k) seat_long

unfoldable pub with_seat : List ℕ → ℕ → List ℕ → List ℕ
with_seat r k s = put r (seat_from k) seat_long s
