-- Numbers with room above them: what the code asks for so that a sum fits its type. A seat that opened with sums in range has it behind the
-- steps of any journal (`proofs/Grown.antt`), and so every fit seat has it.
use Rattle.std.specs.Prelude.{◌≡◌, List, ℕ, ◌≤◌, ◌<◌, ◌^◌, length}
use Rattle.layout.specs.Seat.{accounts, seat_long, account_of}

abbrev pub low_most : ℕ
low_most = 2 ^ 62

-- a seat of the right length, none of whose balances and turnovers is high
pub record Low (s : List ℕ) : Type 0 where
  pub long : length s ≡ seat_long
  pub balances : (i : ℕ) → i < accounts → (account_of s i).balance ≤ low_most
  pub turnovers : (i : ℕ) → i < accounts → (account_of s i).turnover ≤ low_most
