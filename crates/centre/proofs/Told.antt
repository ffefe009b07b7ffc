-- An answer can be read off what is told of it: numbers tell the refusals apart, and of a call that is done the values' length tells which case it
-- is. So two answers of which the same is told are the same answer.
-- Assumes nothing.
use mathlib.Core.Path.{◌≡◌, refl, sym, ap, ◌∙◌}
use mathlib.Core.Bool.{cond}
use mathlib.Core.List.{List, [], ◌∷◌}
use Prim.Native.Nat.{ℕ}
use lib.Dec.{eqb}
use lib.ListN.{length, get_or}
use Rattle.layout.specs.Rows.{account_row, account_in}
use Rattle.std.specs.Prelude.{Ok, Err}
use Rattle.centre.specs.declared.answers.Done.{Done}
use Rattle.centre.specs.declared.answers.Done.TheVariants.{Plain, Opened, Holds, Says}
use Rattle.centre.specs.declared.answers.Refusal.{Refusal}
use Rattle.centre.specs.declared.answers.Refusal.TheVariants.{
  RoomUnfit,
  DirectoryUnfit,
  NoTicket,
  AlreadyOpen,
  NoOpeningLeft,
  BadNumber,
  IllFormed,
  BadField,
  JournalFull,
  NothingToTakeBack,
  NoSlip,
  NotTaken,
}
use Rattle.centre.specs.Answers.{Answer, Told, slip_values, told}

-- a call that is done, by the values that it gives back
abbrev given_back : List ℕ → Done
given_back [] = Plain
given_back (a ∷ []) = Opened a
given_back (a ∷ b ∷ rest) =
    cond (eqb (length rest) 4)
    (Says (record { kind = a; status = b; check = get_or rest 0 0; seat = get_or rest 1 0; opening = get_or rest 2 0; step = get_or rest 3 0 }))
    (Holds (account_in (a ∷ b ∷ rest)))

-- a refusal, by its number
abbrev refusal : ℕ → ℕ → Refusal
refusal number detail =
    cond (eqb number 1) RoomUnfit
    (cond (eqb number 2) DirectoryUnfit
    (cond (eqb number 3) NoTicket
    (cond (eqb number 4) AlreadyOpen
    (cond (eqb number 5) NoOpeningLeft
    (cond (eqb number 6) BadNumber
    (cond (eqb number 7) (IllFormed detail)
    (cond (eqb number 8) (BadField detail)
    (cond (eqb number 9) JournalFull
    (cond (eqb number 10) NothingToTakeBack
    (cond (eqb number 11) NoSlip
    (NotTaken detail)))))))))))

abbrev answer_for : Told → Answer
answer_for t = cond (eqb t.number 0) (Ok (given_back t.values)) (Err (refusal t.number t.detail))

read_off : (a : Answer) → answer_for (told a) ≡ a
unfolding told slip_values account_row account_in
read_off (Ok Plain) = refl
read_off (Ok (Opened opening)) = refl
read_off (Ok (Holds account)) = refl
read_off (Ok (Says slip)) = refl
read_off (Err RoomUnfit) = refl
read_off (Err DirectoryUnfit) = refl
read_off (Err NoTicket) = refl
read_off (Err AlreadyOpen) = refl
read_off (Err NoOpeningLeft) = refl
read_off (Err BadNumber) = refl
read_off (Err (IllFormed place)) = refl
read_off (Err (BadField number)) = refl
read_off (Err JournalFull) = refl
read_off (Err NothingToTakeBack) = refl
read_off (Err NoSlip) = refl
read_off (Err (NotTaken check)) = refl

pub told-one : (a b : Answer) → told a ≡ told b → a ≡ b
told-one a b e = sym (read_off a) ∙ ap answer_for e ∙ read_off b
