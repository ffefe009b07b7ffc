-- What was looked up for a received sheet serves as the directory itself: where the directory is fit, the case of a message by what was looked up is
-- its case by the directory, so submit says, leaves and writes the same by both; where it is not, submit is refused for the room or else for the
-- directory, whatever the case is.
-- Assumes nothing.
use mathlib.Core.Path.{◌≡◌, refl, sym, ap, ◌∙◌}
use mathlib.Core.Bool.{Bool, true, false, ◌&&◌}
use mathlib.Core.List.{List}
use Prim.Native.Nat.{ℕ}
use lib.Dec.{leb}
use lib.ListN.{length}
use borrow.Author.Tests.{leb-true}
use Rattle.shape.specs.Dates.{is_date}
use Rattle.shape.proofs.Tests.{and_left}
use Rattle.message.specs.declared.Message.{Message}
use Rattle.std.specs.Prelude.{Ok, Err}
use Rattle.message.specs.declared.Refusal.TheVariants.{IllFormed, BadField}
use Rattle.message.specs.Message.{Answer}
use Rattle.message.specs.Received.{received_of}
use Rattle.directory.specs.declared.Participant.{Participant}
use Rattle.directory.specs.declared.Gathered.{Gathered}
use Rattle.directory.specs.Directory.{code_most, is_fit}
use Rattle.directory.specs.Gathering.{records_in, directory_in, fit_gathered}
use Rattle.directory.proofs.Finds.{fit-few}
use Rattle.directory.proofs.Gathers.{directory-fit, directory-records}
use Rattle.seat.specs.Calls.{place_fits}
use Rattle.judge.specs.declared.case.Case.{Case}
use Rattle.judge.specs.declared.case.Looked.{Looked}
use Rattle.judge.specs.declared.records.Asked.{Asked}
use Rattle.judge.specs.Case.{Arises, looked_up, case_from, case_of}
use Rattle.judge.specs.Records.{asked_in, looked_for}
use Rattle.judge.proofs.Lookups.{looked-in, looked-fit}
use Rattle.centre.specs.declared.Ticket.{Ticket}
use Rattle.centre.specs.Answers.{Told}
use Rattle.centre.specs.Submit.{verdict_on, step_on, submit_by, submit_left, submit_written, submit_told, submit_after, submit_slip, Sought}
use Rattle.centre.proofs.LentDirectories.{unfit-behind}

-- what was looked up for a message arises, and both owners have a place that a seat has
module _ {fit : Bool} {looked : Looked} {sender : ℕ} {received : Answer} (w : Sought fit looked sender received) (t : fit ≡ true)
    (m : Message) (f : received ≡ Ok m) where
  pub sought-arises : (today : ℕ) → (leb sender code_most && is_date today) ≡ true → Arises (case_from looked sender today m)
  unfolding case_of
  sought-arises today n = record {
    sheet = w.sheet;
    dir = w.dir;
    good = sym w.reading ∙ f;
    fit = sym w.fitness ∙ t;
    code = leb-true sender code_most (and_left (leb sender code_most) (is_date today) n);
    looked = ap (λ (l : Looked). case_from l sender today m) (w.finding t m f);
  }

  pub sought-fits : (place_fits looked.debit ≡ true) × (place_fits looked.credit ≡ true)
  sought-fits = looked-fit w.dir sender m looked (w.finding t m f) (fit-few w.dir (sym w.fitness ∙ t))

module _ (ticket : Ticket) (sender today : ℕ) (slip room : List ℕ) (dir : List Participant) (looked : Looked) where
  -- the case of a message, by what was looked up and by the directory
  abbrev sought-case : Message → Case
  sought-case = case_from looked sender today

  abbrev directory-case : Message → Case
  directory-case = case_of dir sender today

  -- a fit directory
  told_same : (received : Answer) → ((m : Message) → received ≡ Ok m → looked ≡ looked_up dir sender m)
      → submit_by true sought-case ticket sender today received slip room ≡ submit_by true directory-case ticket sender today received slip room
  unfolding verdict_on case_of
  told_same (Ok m) known = ap (λ (l : Looked). submit_by true (case_from l sender today) ticket sender today (Ok m) slip room) (known m refl)
  told_same (Err (IllFormed place)) known = refl
  told_same (Err (BadField number)) known = refl

  left-same : (received : Answer) → ((m : Message) → received ≡ Ok m → looked ≡ looked_up dir sender m)
      → submit_left true sought-case ticket sender today received slip room ≡ submit_left true directory-case ticket sender today received slip room
  unfolding verdict_on step_on case_of
  left-same (Ok m) known = ap (λ (l : Looked). submit_left true (case_from l sender today) ticket sender today (Ok m) slip room) (known m refl)
  left-same (Err (IllFormed place)) known = refl
  left-same (Err (BadField number)) known = refl

  written_same : (received : Answer) → ((m : Message) → received ≡ Ok m → looked ≡ looked_up dir sender m)
      → submit_written true sought-case ticket sender today received slip room ≡ submit_written true directory-case ticket sender today received slip room
  unfolding verdict_on step_on case_of
  written_same (Ok m) known = ap (λ (l : Looked). submit_written true (case_from l sender today) ticket sender today (Ok m) slip room) (known m refl)
  written_same (Err (IllFormed place)) known = refl
  written_same (Err (BadField number)) known = refl

  -- a directory that is fit or not
  module _ (received : Answer) where
    abbrev Same : Bool → Type 0
    Same fit =
        (submit_by fit sought-case ticket sender today received slip room ≡ submit_by fit directory-case ticket sender today received slip room)
        × ((submit_left fit sought-case ticket sender today received slip room ≡ submit_left fit directory-case ticket sender today received slip room)
        × (submit_written fit sought-case ticket sender today received slip room ≡ submit_written fit directory-case ticket sender today received slip room))

    same : (fit : Bool) → (fit ≡ true → (m : Message) → received ≡ Ok m → looked ≡ looked_up dir sender m) → Same fit
    same true known = (told_same received (known refl), (left-same received (known refl), written_same received (known refl)))
    same false known = (
      refl,
      (
        unfit-behind room (submit_by false (case_from looked sender today) ticket sender today received slip room) _ room refl
            ∙ sym (unfit-behind room (submit_by false (case_of dir sender today) ticket sender today received slip room) _ room refl),
        unfit-behind room (submit_by false (case_from looked sender today) ticket sender today received slip room) _ slip refl
            ∙ sym (unfit-behind room (submit_by false (case_of dir sender today) ticket sender today received slip room) _ slip refl),
      ),
    )

    pub submit-sought : (fit : Bool) (sheet : List ℕ) → fit ≡ is_fit dir → received ≡ (received_of sheet).answer
        → (fit ≡ true → (m : Message) → received ≡ Ok m → looked ≡ looked_up dir sender m)
        → (submit_by fit (case_from looked sender today) ticket sender today received slip room ≡ submit_told dir ticket sender today sheet slip room)
        × ((submit_left fit (case_from looked sender today) ticket sender today received slip room ≡ submit_after dir ticket sender today sheet slip room)
        × (submit_written fit (case_from looked sender today) ticket sender today received slip room ≡ submit_slip dir ticket sender today sheet slip room))
    unfolding submit_told submit_after submit_slip
    submit-sought fit sheet e r known = (
      (same fit known).0
          ∙ ap (λ (b : Bool). submit_by b (case_of dir sender today) ticket sender today received slip room) e
          ∙ ap (λ (a : Answer). submit_by (is_fit dir) (case_of dir sender today) ticket sender today a slip room) r,
      (
        (same fit known).1.0
            ∙ ap (λ (b : Bool). submit_left b (case_of dir sender today) ticket sender today received slip room) e
            ∙ ap (λ (a : Answer). submit_left (is_fit dir) (case_of dir sender today) ticket sender today a slip room) r,
        (same fit known).1.1
            ∙ ap (λ (b : Bool). submit_written b (case_of dir sender today) ticket sender today received slip room) e
            ∙ ap (λ (a : Answer). submit_written (is_fit dir) (case_of dir sender today) ticket sender today a slip room) r,
      ),
    )

-- with the directory as it was gathered
module _ (g : Gathered) (sixteen : length g.records ≡ 16) (sheet : List ℕ) (sender : ℕ) (fit : Bool) (looked : Looked) (received : Answer) (asked : Asked)
    (tested : fit ≡ fit_gathered g) (read : received ≡ (received_of sheet).answer) (asking : asked ≡ asked_in received)
    (looking : looked ≡ looked_for (records_in g) sender asked) where
  gathered-fit : fit ≡ is_fit (directory_in g)
  gathered-fit = tested ∙ directory-fit g sixteen

  gathered-looked : fit ≡ true → (m : Message) → received ≡ Ok m → looked ≡ looked_up (directory_in g) sender m
  gathered-looked t m f =
      looking ∙ ap (looked_for (records_in g) sender) asking
      ∙ ap (λ (dir : List Participant). looked_for dir sender (asked_in received)) (sym (directory-records g (sym tested ∙ t)))
      ∙ looked-in (directory_in g) sender received m f

  pub gathered-sought : Sought fit looked sender received
  gathered-sought = record { dir = directory_in g; sheet = sheet; fitness = gathered-fit; reading = read; finding = gathered-looked }

  pub gathered-submit : (ticket : Ticket) (today : ℕ) (slip room : List ℕ) (r : Told) (u w : List ℕ)
      → (r ≡ submit_by fit (case_from looked sender today) ticket sender today received slip room)
      × ((u ≡ submit_left fit (case_from looked sender today) ticket sender today received slip room)
      × (w ≡ submit_written fit (case_from looked sender today) ticket sender today received slip room))
      → (r ≡ submit_told (directory_in g) ticket sender today sheet slip room)
      × ((u ≡ submit_after (directory_in g) ticket sender today sheet slip room) × (w ≡ submit_slip (directory_in g) ticket sender today sheet slip room))
  gathered-submit ticket today slip room r u w e =
      let same = submit-sought ticket sender today slip room (directory_in g) looked received fit sheet gathered-fit read gathered-looked in
      (e.0 ∙ same.0, (e.1.0 ∙ same.1.0, e.1.1 ∙ same.1.1))

-- with the directory as it was lent
module _ (dir : List Participant) (sheet : List ℕ) (sender : ℕ) (fit : Bool) (e : fit ≡ is_fit dir) where
  abbrev answer : Answer
  answer = (received_of sheet).answer

  abbrev sought : Looked
  sought = looked_for dir sender (asked_in answer)

  lent-looked : fit ≡ true → (m : Message) → answer ≡ Ok m → sought ≡ looked_up dir sender m
  lent-looked t m f = looked-in dir sender answer m f

  pub lent-sought : Sought fit sought sender answer
  lent-sought = record { dir = dir; sheet = sheet; fitness = e; reading = refl; finding = lent-looked }

  pub lent-submit : (ticket : Ticket) (today : ℕ) (slip room : List ℕ)
      → (submit_by fit (case_from sought sender today) ticket sender today answer slip room ≡ submit_told dir ticket sender today sheet slip room)
      × ((submit_left fit (case_from sought sender today) ticket sender today answer slip room ≡ submit_after dir ticket sender today sheet slip room)
      × (submit_written fit (case_from sought sender today) ticket sender today answer slip room ≡ submit_slip dir ticket sender today sheet slip room))
  lent-submit ticket today slip room = submit-sought ticket sender today slip room dir sought answer fit sheet e refl lent-looked
