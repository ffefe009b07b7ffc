-- The two accounts of an owner in a fit directory: they stand at its place, which a seat has. Accounts 2 are odd, and both accounts of a place
-- halve to it.
-- Assumes nothing.
use Rattle.std.specs.Prelude.{ℕ, Option, Some, None}
use mathlib.Core.Path.{◌≡◌, refl, ap, ◌∙◌}
use mathlib.Core.Bool.{Bool, true, false, not, ◌&&◌, cond, false≢true}
use mathlib.Core.List.{List}
use Prim.Native.Nat.{ℕ, ◌+◌, ◌-◌, ◌*◌, ◌/◌, ◌%◌, ◌<◌}
use native.Mathlib.Omega.{arith}
use lib.Arith.{digits_div, digits_mod}
use lib.Dec.{eqb, lit<}
use borrow.Author.Tests.{eq-eqb, ne_eqb}
use Rattle.table.specs.declared.Kind.{Kind}
use Rattle.table.specs.declared.Kind.TheVariants.{Pacs008, Camt050}
use Rattle.slip.specs.Meaning.{kind_number}
use Rattle.directory.specs.declared.Participant.{Participant}
use Rattle.directory.specs.declared.Listed.{Listed}
use Rattle.directory.specs.Directory.{found, found_as, owner_used, is_fit, owner_found, is_owner, bank_found, account_in}
use Rattle.directory.proofs.Finds.{found-code, fit-few, owner-used}
use Rattle.seat.specs.Calls.{account_named, account_found}

-- how the accounts of a movement stand to each other, by the kind of a message
abbrev pub apart : Kind → ℕ → ℕ → Bool
apart kind debit credit =
    cond (eqb (kind_number kind) (kind_number Camt050))
    (eqb (debit / 2) (credit / 2) && not (eqb debit credit))
    (eqb (debit % 2) 1 && eqb (credit % 2) 1)

-- an owner with a place, and its two accounts
pub record Holds (owner : Option Listed) : Type 0 where
  pub place : ℕ
  pub low : place < 16
  pub first : account_found owner 1 ≡ Some (2 * place)
  pub second : account_found owner 2 ≡ Some (2 * place + 1)

-- each owner that is found in a fit directory has them
pub holds : (dir : List Participant) → is_fit dir ≡ true → (code : Option ℕ) → owner_found (found_as dir code) ≡ true → Holds (found_as dir code)
unfolding account_found account_named
holds dir fit None o = absurd (false≢true o)
holds dir fit (Some code) o = go (found dir code) refl o
  where
    named : (t : Bool) (n k : ℕ) → t ≡ true → n ≡ k → cond (t && true) (Some n) None ≡ Some k
    named true n k e same = ap Some same
    named false n k e same = absurd (false≢true e)

    go : (f : Option Listed) → found dir code ≡ f → owner_found f ≡ true → Holds f
    go (Some l) e t = record {
      place = l.place;
      low = omega (arith, (found-code dir code l.place l.participant e).1, fit-few dir fit);
      first = named (is_owner l.participant.kind) (2 * l.place + (1 - 1)) (2 * l.place) t (omega arith);
      second = named (is_owner l.participant.kind) (2 * l.place + (2 - 1)) (2 * l.place + 1) t refl;
    }
    go None e t = absurd (false≢true t)

-- the owner whose accounts a bank uses has them
pub bank-holds : (dir : List Participant) → is_fit dir ≡ true → (code : Option ℕ) → bank_found (found_as dir code) ≡ true → Holds (owner_used dir code)
unfolding owner_used
bank-holds dir fit code b = holds dir fit (account_in (found_as dir code)) (owner-used dir fit code b)

-- account 2 of a place is odd; both accounts of a place halve to it, and differ
odd : (place : ℕ) → (2 * place + 1) % 2 ≡ 1
odd place =
    let turned : 2 * place + 1 ≡ place * 2 + 1 = omega arith in
    ap (λ (n : ℕ). n % 2) turned ∙ digits_mod place (lit< tt)

half-first : (place : ℕ) → 2 * place / 2 ≡ place
half-first place =
    let turned : 2 * place ≡ place * 2 + 0 = omega arith in
    ap (λ (n : ℕ). n / 2) turned ∙ digits_div place (lit< tt)

half-second : (place : ℕ) → (2 * place + 1) / 2 ≡ place
half-second place =
    let turned : 2 * place + 1 ≡ place * 2 + 1 = omega arith in
    ap (λ (n : ℕ). n / 2) turned ∙ digits_div place (lit< tt)

pub seconds-apart : (p q : ℕ) → apart Pacs008 (2 * p + 1) (2 * q + 1) ≡ true
unfolding kind_number
seconds-apart p q = rw (odd p, odd q)

pub out-of-first : (p : ℕ) → apart Camt050 (2 * p) (2 * p + 1) ≡ true
unfolding kind_number
out-of-first p = rw (half-first p, half-second p, eq-eqb p p refl, ne_eqb (2 * p) (2 * p + 1) (λ (e : 2 * p ≡ 2 * p + 1). omega arith))

pub out-of-second : (p : ℕ) → apart Camt050 (2 * p + 1) (2 * p) ≡ true
unfolding kind_number
out-of-second p = rw (half-first p, half-second p, eq-eqb p p refl, ne_eqb (2 * p + 1) (2 * p) (λ (e : 2 * p + 1 ≡ 2 * p). omega arith))
