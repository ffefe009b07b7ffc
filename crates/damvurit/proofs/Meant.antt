-- What the forms are for, proved of them: a result gives back its number and its detail, and what a call gives back comes whole; the four
-- settings that C gives are refused exactly where they could not be stored, blocks too, and are else stored as they are; numbers that are no
-- directory are an unfit one.
-- Assumes nothing.
use mathlib.Core.Path.{◌≡◌, refl, sym, ◌∙◌}
use mathlib.Core.Bool.{Bool, true, false, ◌&&◌, cond}
use mathlib.Core.List.{List}
use native.Mathlib.Omega.{arith}
use native.Mathlib.Nat.{add-mul-mod_self_left, add-mul-div_left, mod-eq_of_lt, div-eq_of_lt}
use Prim.Native.Nat.{ℕ, ◌+◌, ◌-◌, ◌*◌, ◌/◌, ◌%◌, ◌≤◌, ◌<◌}
use borrow.Author.Tests.{leb-true, leb-false, le-leb, lt-leb, eqb-true, eqb-false, ne_eqb}
use lib.Dec.{leb, eqb}
use Rattle.shape.proofs.Tests.{and_left, and_right}
use Rattle.directory.specs.Directory.{is_fit}
use Rattle.slip.specs.declared.Slip.{Slip}
use Rattle.layout.specs.declared.rows.Settings.{Settings}
use Rattle.layout.specs.declared.rows.Account.{Account}
use Rattle.layout.specs.Rows.{account_row}
use Rattle.journal.specs.Steps.{sum_most, settings_fit}
use Rattle.seat.specs.Settings.{block_number, limit_number, settings_of}
use Rattle.std.specs.Prelude.{Ok}
use Rattle.centre.specs.declared.answers.Done.TheVariants.{Opened, Holds, Says}
use Rattle.centre.specs.Answers.{Answer, told, slip_values}
use Rattle.damvurit.specs.Flat.{flat_good, flat_directory}
use Rattle.damvurit.specs.Boundary.{detail_unit, out_of, seven, six, open_result, result_number, limit_of, ltk_of, wish_of}
use Rattle.damvurit.proofs.Formed.{number-low}

-- as the two macros of the header read a result
module _ (answer : Answer) where
  small : (told answer).number < detail_unit
  small = omega (arith, number-low answer)

  pub number-back : result_number (told answer) % detail_unit ≡ (told answer).number
  unfolding result_number
  number-back = add-mul-mod_self_left (told answer).number detail_unit (told answer).detail ∙ mod-eq_of_lt small

  pub detail-back : result_number (told answer) / detail_unit ≡ (told answer).detail
  unfolding result_number
  detail-back = add-mul-div_left (told answer).number (told answer).detail (omega arith) ∙ rw (div-eq_of_lt small) (omega arith)

-- what is given back comes whole: an opening number, the seven numbers of an account, the six of a slip
pub opening-whole : (opening : ℕ) → open_result (told (Ok (Opened opening))) ≡ detail_unit * opening
unfolding open_result result_number told out_of
opening-whole opening = omega arith

pub account-whole : (account : Account) → seven (told (Ok (Holds account))) ≡ account_row account
unfolding told out_of account_row
account-whole account = refl

pub slip-whole : (slip : Slip) → six (told (Ok (Says slip))) ≡ slip_values slip
unfolding told out_of slip_values
slip-whole slip = refl

-- a block as it is stored is the number that was given, where that is 0 or 1
block_back : (block : ℕ) → block ≤ 1 → block_number (eqb block 1) ≡ block
block_back block low = either (eqb block 1) refl
  where
    either : (on : Bool) → eqb block 1 ≡ on → cond on 1 0 ≡ block
    either true e = sym (eqb-true block 1 e)
    either false e = let off = eqb-false block 1 e in omega arith

-- so is a limit, where it is low enough; one that is too high stays too high
limit-back : (lpo : ℕ) → lpo ≤ sum_most + 1 → limit_number (limit_of lpo) ≡ lpo
unfolding limit_number limit_of
limit-back lpo low = either (eqb lpo 0) refl
  where
    either : (none : Bool) → eqb lpo 0 ≡ none → limit_number (limit_of lpo) ≡ lpo
    either true e = rw e (sym (eqb-true lpo 0 e))
    either false e = let some = eqb-false lpo 0 e in let few : lpo - 1 ≤ sum_most = omega arith in rw (e, le-leb (lpo - 1) sum_most few) (omega arith)

limit-high : (lpo : ℕ) → sum_most + 1 < lpo → limit_number (limit_of lpo) ≡ sum_most + 2
unfolding limit_number limit_of
limit-high lpo high =
    let some : eqb lpo 0 ≡ false = ne_eqb lpo 0 (λ e. omega arith) in
    let much : sum_most < lpo - 1 = omega arith in
    rw (some, lt-leb (lpo - 1) sum_most much)

limit-fits : (lpo : ℕ) → leb (limit_number (limit_of lpo)) (sum_most + 1) ≡ leb lpo (sum_most + 1)
limit-fits lpo = either (leb lpo (sum_most + 1)) refl
  where
    either : (low : Bool) → leb lpo (sum_most + 1) ≡ low → leb (limit_number (limit_of lpo)) (sum_most + 1) ≡ leb lpo (sum_most + 1)
    either true e = rw (limit-back lpo (leb-true lpo (sum_most + 1) e))
    either false e = rw (limit-high lpo (leb-false lpo (sum_most + 1) e), e)

abbrev given_by : ℕ → ℕ → ℕ → ℕ → Settings
given_by out into ltk lpo = record { out = out; into = into; ltk = ltk; lpo = lpo }

third-fails : (a b d : Bool) → ((a && b) && false) && d ≡ false
third-fails true true d = refl
third-fails true false d = refl
third-fails false b d = refl

-- what C gives for a set call fits exactly where its four numbers could be stored
pub fits-as-given : (out into ltk lpo : ℕ) → settings_fit (settings_of (wish_of out into ltk lpo)) ≡ settings_fit (given_by out into ltk lpo)
unfolding settings_fit settings_of wish_of ltk_of
fits-as-given out into ltk lpo = either (leb out 1 && leb into 1) refl
  where
    either : (good : Bool) → (leb out 1 && leb into 1) ≡ good → settings_fit (settings_of (wish_of out into ltk lpo)) ≡ settings_fit (given_by out into ltk lpo)
    either true e =
        rw (e, block_back out (leb-true out 1 (and_left _ _ e)), block_back into (leb-true into 1 (and_right _ _ e)), limit-fits lpo, e)
    either false e =
        rw e (third-fails (leb (block_number (eqb out 1)) 1) (leb (block_number (eqb into 1)) 1) (leb (limit_number (limit_of lpo)) (sum_most + 1)))

-- and these four numbers are then what is stored
pub stored-as-given : (out into ltk lpo : ℕ) → out ≤ 1 → into ≤ 1 → lpo ≤ sum_most + 1 → settings_of (wish_of out into ltk lpo) ≡ given_by out into ltk lpo
unfolding settings_of wish_of ltk_of
stored-as-given out into ltk lpo a b c =
    rw (le-leb out 1 a, le-leb into 1 b, block_back out a, block_back into b, limit-back lpo c)

-- numbers that are no directory get refusal 2 wherever an unfit one does
pub no-directory : (numbers : List ℕ) → flat_good numbers ≡ false → is_fit (flat_directory numbers) ≡ false
unfolding is_fit flat_directory
no-directory numbers e = rw e
