-- Of the sixteen answers: each but one gives no opening number, each but one no account and each but one no slip, and leaves zeros in their
-- place. No answer's number is above 12.
-- Assumes nothing.
use mathlib.Core.Path.{◌≡◌, refl}
use native.Mathlib.Omega.{arith}
use mathlib.Core.List.{[]}
use Prim.Native.Nat.{ℕ, ◌≤◌}
use lib.ListN.{replicate}
use Rattle.std.specs.Prelude.{Ok, Err}
use Rattle.slip.specs.declared.Slip.{Slip}
use Rattle.layout.specs.declared.rows.Account.{Account}
use Rattle.layout.specs.Rows.{account_row}
use Rattle.centre.specs.declared.answers.Done.TheVariants.{Plain, Opened, Holds, Says}
use Rattle.centre.specs.declared.answers.Refusal.{Refusal}
use Rattle.centre.specs.declared.answers.Refusal.TheVariants.{
  RoomUnfit,
  DirectoryUnfit,
  NoTicket,
  AlreadyOpen,
  NoOpeningLeft,
  BadNumber,
  IllFormed,
  BadField,
  JournalFull,
  NothingToTakeBack,
  NoSlip,
  NotTaken,
}
use Rattle.centre.specs.Answers.{Answer, told, slip_values}
use Rattle.damvurit.specs.Boundary.{out_of, opening_in, seven, six}

-- a refusal gives no values
no-values : (refusal : Refusal) → [] ≡ (told (Err refusal)).values
unfolding told
no-values RoomUnfit = refl
no-values DirectoryUnfit = refl
no-values NoTicket = refl
no-values AlreadyOpen = refl
no-values NoOpeningLeft = refl
no-values BadNumber = refl
no-values (IllFormed place) = refl
no-values (BadField number) = refl
no-values JournalFull = refl
no-values NothingToTakeBack = refl
no-values NoSlip = refl
no-values (NotTaken check) = refl

-- so each answer but one gives no opening number, each but one no account, each but one no slip
pub no-opening : (answer : Answer) → ((opening : ℕ) → answer ≡ Ok (Opened opening) → ⊥) → 0 ≡ opening_in (told answer)
unfolding told out_of slip_values account_row
no-opening (Ok Plain) other = refl
no-opening (Ok (Opened opening)) other = absurd (other opening refl)
no-opening (Ok (Holds account)) other = refl
no-opening (Ok (Says slip)) other = refl
no-opening (Err refusal) other = rw (← no-values refusal)

pub no-account : (answer : Answer) → ((account : Account) → answer ≡ Ok (Holds account) → ⊥) → replicate 7 0 ≡ seven (told answer)
unfolding told out_of slip_values account_row
no-account (Ok Plain) other = refl
no-account (Ok (Opened opening)) other = refl
no-account (Ok (Holds account)) other = absurd (other account refl)
no-account (Ok (Says slip)) other = refl
no-account (Err refusal) other = rw (← no-values refusal)

pub no-slip : (answer : Answer) → ((slip : Slip) → answer ≡ Ok (Says slip) → ⊥) → replicate 6 0 ≡ six (told answer)
unfolding told out_of slip_values account_row
no-slip (Ok Plain) other = refl
no-slip (Ok (Opened opening)) other = refl
no-slip (Ok (Holds account)) other = refl
no-slip (Ok (Says slip)) other = absurd (other slip refl)
no-slip (Err refusal) other = rw (← no-values refusal)

-- no number is above 12
pub number-low : (answer : Answer) → (told answer).number ≤ 12
unfolding told
number-low (Ok Plain) = omega arith
number-low (Ok (Opened opening)) = omega arith
number-low (Ok (Holds account)) = omega arith
number-low (Ok (Says slip)) = omega arith
number-low (Err RoomUnfit) = omega arith
number-low (Err DirectoryUnfit) = omega arith
number-low (Err NoTicket) = omega arith
number-low (Err AlreadyOpen) = omega arith
number-low (Err NoOpeningLeft) = omega arith
number-low (Err BadNumber) = omega arith
number-low (Err (IllFormed place)) = omega arith
number-low (Err (BadField number)) = omega arith
number-low (Err JournalFull) = omega arith
number-low (Err NothingToTakeBack) = omega arith
number-low (Err NoSlip) = omega arith
number-low (Err (NotTaken check)) = omega arith
