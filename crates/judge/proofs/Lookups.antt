-- What is looked up by the codes of a message is what the rules of a case say of it: the owner of an account is found by the code whose accounts the
-- agent uses, or by the code that is named. Where the directory has no more records than a seat has places, each owner has one.
-- Assumes nothing.
use Rattle.std.specs.Prelude.{Some, Ok}
use mathlib.Core.Path.{◌≡◌, refl, ap, ◌∙◌}
use mathlib.Core.Bool.{true}
use mathlib.Core.List.{List}
use Prim.Native.Nat.{ℕ, ◌≤◌}
use lib.ListN.{length}
use Rattle.table.specs.declared.Kind.{Kind}
use Rattle.table.specs.declared.Kind.TheVariants.{Pacs008, Camt050, Pacs028, Pacs002}
use Rattle.message.specs.declared.Message.{Message}
use Rattle.message.specs.Message.{Answer}
use Rattle.directory.specs.declared.Participant.{Participant}
use Rattle.directory.specs.Directory.{found_as, owner_used}
use Rattle.seat.specs.Calls.{place_fits}
use Rattle.judge.specs.declared.case.Looked.{Looked}
use Rattle.judge.specs.declared.records.Asked.{Asked}
use Rattle.judge.specs.Case.{debit_owner, credit_owner, looked_up}
use Rattle.judge.specs.Records.{asked_by, asked_in, owner_code, looked_for}
use Rattle.judge.proofs.Places.{debit-owner-fits, credit-owner-fits}

debit-found : (dir : List Participant) (m : Message) (kind : Kind)
    → found_as dir (owner_code kind (found_as dir m.instructing) (Some m.debit.code)) ≡ debit_owner dir m kind
unfolding owner_code debit_owner owner_used
debit-found dir m Pacs008 = refl
debit-found dir m Camt050 = refl
debit-found dir m Pacs028 = refl
debit-found dir m Pacs002 = refl

credit-found : (dir : List Participant) (m : Message) (kind : Kind)
    → found_as dir (owner_code kind (found_as dir m.instructed) (Some m.credit.code)) ≡ credit_owner dir m kind
unfolding owner_code credit_owner owner_used
credit-found dir m Pacs008 = refl
credit-found dir m Camt050 = refl
credit-found dir m Pacs028 = refl
credit-found dir m Pacs002 = refl

-- of a message
pub looked-by : (dir : List Participant) (sender : ℕ) (m : Message) → looked_for dir sender (asked_by m) ≡ looked_up dir sender m
looked-by dir sender m = rw (debit-found dir m m.kind, credit-found dir m m.kind)

pub looked-with : (dir : List Participant) (sender : ℕ) (m : Message) (asked : Asked) (looked : Looked) → asked ≡ asked_by m → looked ≡ looked_for dir sender asked
    → looked ≡ looked_up dir sender m
looked-with dir sender m asked looked e f = f ∙ ap (looked_for dir sender) e ∙ looked-by dir sender m

-- of a sheet that is a message
pub looked-in : (dir : List Participant) (sender : ℕ) (received : Answer) (m : Message) → received ≡ Ok m
    → looked_for dir sender (asked_in received) ≡ looked_up dir sender m
unfolding asked_in
looked-in dir sender received m e = ap (λ (a : Answer). looked_for dir sender (asked_in a)) e ∙ looked-by dir sender m

-- both owners of accounts have a place that a seat has
pub looked-fit : (dir : List Participant) (sender : ℕ) (m : Message) (looked : Looked) → looked ≡ looked_up dir sender m → length dir ≤ 16
    → (place_fits looked.debit ≡ true) × (place_fits looked.credit ≡ true)
looked-fit dir sender m looked e few = (
  ap (λ (l : Looked). place_fits l.debit) e ∙ debit-owner-fits dir m m.kind few,
  ap (λ (l : Looked). place_fits l.credit) e ∙ credit-owner-fits dir m m.kind few,
)
