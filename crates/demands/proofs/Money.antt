-- Money moves exactly where a camt.050 or an answer passes every check: then the checks leave two accounts, an amount and a balance that covers it,
-- and each account is as the movement leaves it. A pacs.008 that passes keeps its movement and moves nothing; a message that fails by a check moves
-- nothing either, nor does a pacs.028.
-- Assumes nothing.
use Rattle.std.specs.Prelude.{ℕ, Option, Some, None, Ok}
use mathlib.Core.Path.{◌≡◌, refl, sym, ap, subst, ◌∙◌}
use mathlib.Core.Bool.{Bool, true, false, false≢true}
use mathlib.Core.List.{List}
use Prim.Native.Nat.{ℕ, suc, ◌≤◌, ◌<◌}
use Rattle.table.specs.declared.Kind.{Kind}
use Rattle.table.specs.declared.Kind.TheVariants.{Pacs008, Camt050, Pacs028, Pacs002}
use Rattle.table.specs.Checks.{order_of, runs}
use Rattle.slip.specs.Meaning.{status_number}
use Rattle.message.specs.declared.Message.{Message}
use Rattle.message.specs.Received.{received_of}
use Rattle.message.proofs.Shaped.{IsAmount, Moves, shaped}
use Rattle.directory.specs.declared.Participant.{Participant}
use Rattle.layout.specs.declared.rows.Step.{Step}
use Rattle.layout.specs.Seat.{accounts, account_of, step_of, seat_of}
use Rattle.judge.specs.declared.case.Case.{Case}
use Rattle.seat.specs.Fit.{open_fits}
use Rattle.judge.specs.Values.{or_zero}
use Rattle.judge.specs.declared.case.Movement.{Movement}
use Rattle.judge.specs.Case.{movement_of, case_of, Arises}
use Rattle.judge.specs.Rows.{asked_after, due_to, kept_in as transfer_kept, movement_for, movement_in}
use Rattle.judge.specs.Verdict.{verdict, told_of, outcome, carried, awaits, step_number, closed_by, step_made, step_by, judged_step}
use Rattle.journal.specs.declared.results.Outcome.{Outcome}
use Rattle.directory.specs.declared.Listed.{Listed}
use Rattle.directory.specs.Directory.{found_as, bank_found}
use Rattle.judge.proofs.Passed.{money-there, instructed-is, instructed-bank}
use Rattle.judge.proofs.Movements.{Movable, payment-moves, transfer-moves, answer-moves}
use Rattle.judge.proofs.Answering.{Closing, due-there, Answered, answered, moves-kept}
use Rattle.centre.specs.declared.Ticket.{Ticket}
use Rattle.centre.specs.Submit.{not_taken}
use Rattle.demands.specs.Messages.{
  Move,
  no_move,
  Kept,
  answering,
  accepted,
  waiting,
  Recorded,
  AccountsAfter,
  Unmoved,
  Awaits,
  Transferred,
  Settles,
  CarriedOut,
}
use Rattle.demands.proofs.Decided.{passed_as, none-taken, outcome-passed, Rests, asked-rests}
use Rattle.demands.proofs.Heard.{Facts}
use Rattle.demands.proofs.Taken.{arises, seat-open, account-after, recorded}
use Rattle.demands.proofs.Movement.{kept_in, rests-still, rests, moves_so, waits-so, carries}
use Rattle.journal.specs.Traces.{placed}

-- how each kind ends that passes: money is moved, or the transfer waits
payment-waits : (c : Case) (s : List ℕ) → (carried Pacs008 (passed_as Pacs008 c s) ≡ false) × (awaits Pacs008 (passed_as Pacs008 c s) ≡ true)
unfolding carried awaits status_number
payment-waits c s = (refl, refl)

transfer-carried : (c : Case) (s : List ℕ) → (carried Camt050 (passed_as Camt050 c s) ≡ true) × (awaits Camt050 (passed_as Camt050 c s) ≡ false)
unfolding carried awaits status_number
transfer-carried c s = (refl, refl)

answer-carried : (c : Case) (s : List ℕ) → (carried Pacs002 (passed_as Pacs002 c s) ≡ true) × (awaits Pacs002 (passed_as Pacs002 c s) ≡ false)
unfolding carried awaits status_number
answer-carried c s = (refl, refl)

-- both that move money run check 22
transfer-covered : runs Camt050 22 ≡ true
unfolding runs order_of
transfer-covered = refl

answer-covered : runs Pacs002 22 ≡ true
unfolding runs order_of
answer-covered = refl

-- only an answer closes a step
closes-none : (kind : Kind) (check : ℕ) (c : Case) (s : List ℕ) → (kind ≡ Pacs002 → ⊥) → closed_by kind check (due_to c s) ≡ 0
unfolding closed_by
closes-none Pacs008 check c s other = refl
closes-none Camt050 check c s other = refl
closes-none Pacs028 check c s other = refl
closes-none Pacs002 check c s other = absurd (other refl)

-- an answer that passes closes the step that is due
closes-found : (kind : Kind) (check : ℕ) (c : Case) (s : List ℕ) → kind ≡ Pacs002 → check ≡ 0 → (k : ℕ) (x : Step) → due_to c s ≡ Some (placed k x)
    → closed_by kind check (due_to c s) ≡ suc k
unfolding closed_by step_number
closes-found kind check c s answer none k x found = rw (answer, none, found)

-- two given numbers that are the same
of-value : (i j : ℕ) → Some i ≡ Some j → i ≡ j
of-value i j e = cc

-- the bank that a pacs.008 names as the one to answer
receiver-given : (c : Case) (s : List ℕ) → Arises c → verdict c s ≡ 0 → c.message.kind ≡ Pacs008 → (n : ℕ) × (c.message.instructed ≡ Some n)
receiver-given c s a none same = go c.message.instructed (subst (λ (f : Option Listed). bank_found f ≡ true) (instructed-is c a) (instructed-bank c s none same))
  where
    go : (v : Option ℕ) → bank_found (found_as a.dir v) ≡ true → (n : ℕ) × (v ≡ Some n)
    go (Some code) b = (code, refl)
    go None b = absurd (false≢true b)

-- a kind is no answer's
is-answer : Kind → Bool
is-answer Pacs008 = false
is-answer Camt050 = false
is-answer Pacs028 = false
is-answer Pacs002 = true

no_answer : (kind k : Kind) → kind ≡ k → is-answer k ≡ false → kind ≡ Pacs002 → ⊥
unfolding is-answer
no_answer kind k same other e = false≢true (sym other ∙ ap is-answer (sym same ∙ e))

module _ (dir : List Participant) (ticket : Ticket) (sender today : ℕ) (sheet slip room : List ℕ)
    (f : Facts dir ticket sender today sheet slip room) (m : Message) (good : (received_of sheet).answer ≡ Ok m) where
  abbrev case : Case
  case = case_of dir sender today m

  abbrev place : List ℕ
  place = seat_of room ticket.seat

  abbrev closed : ℕ
  closed = closed_by m.kind (verdict case place) (due_to case place)

  -- what the message's step keeps, as it is made of its movement, what it closes and its outcome
  keeps-as : (k : Kept) → kept_in (step_made case (movement_in case place) closed (outcome case place)) ≡ k → kept_in (judged_step case place) ≡ k
  unfolding judged_step step_by outcome case_of
  keeps-as k e = e

  -- the accounts are as they were where no money is moved
  unmoved : not_taken (verdict case place) ≡ false → carried m.kind (outcome case place) ≡ false → Unmoved dir ticket sender today sheet slip room
  unfolding judged_step step_by outcome case_of
  unmoved takes e i h =
      account-after dir ticket sender today sheet slip room f m good takes i h
      ∙ rests case (movement_in case place) closed (outcome case place) e i (account_of place i)

  -- nothing moves where the message neither moves money nor waits
  pub rested : not_taken (verdict case place) ≡ false → (o : Outcome) → outcome case place ≡ o → Rests m.kind (outcome case place)
      → Recorded dir ticket sender today sheet slip room m o (answering no_move closed) × Unmoved dir ticket sender today sheet slip room
  unfolding case_of
  rested takes o ended e = (
    recorded dir ticket sender today sheet slip room f m good takes o (answering no_move closed) ended
        (keeps-as (answering no_move closed) (rests-still case (movement_in case place) closed (outcome case place) e.0 e.1)),
    unmoved takes e.0,
  )

  -- the amount of a message that names its own accounts is its own
  amount-moved : movement_in case place ≡ case.movement → (given : IsAmount m.amount) → (movement_in case place).amount ≡ given.kopecks
  unfolding case_of movement_of or_zero
  amount-moved own given = ap (λ (x : Movement). x.amount) own ∙ ap or_zero given.given

  module _ (none : verdict case place ≡ 0) where
    taken : not_taken (verdict case place) ≡ false
    taken = ap not_taken none ∙ none-taken

    comes-up : Arises case
    comes-up = arises dir ticket sender today sheet slip room f m good

    -- how the message ends, by its kind
    ends : (kind : Kind) → m.kind ≡ kind → outcome case place ≡ passed_as kind case place
    unfolding case_of
    ends kind same = subst (λ (k : Kind). outcome case place ≡ passed_as k case place) same (outcome-passed case place none)

    -- said with the kind that the message has
    kind-carried : (kind : Kind) → m.kind ≡ kind → (t : Bool) → carried kind (passed_as kind case place) ≡ t → carried m.kind (outcome case place) ≡ t
    kind-carried kind same t done =
        ap (λ (k : Kind). carried k (outcome case place)) same ∙ ap (carried kind) (ends kind same) ∙ done

    kind-awaits : (kind : Kind) → m.kind ≡ kind → (t : Bool) → awaits kind (passed_as kind case place) ≡ t → awaits m.kind (outcome case place) ≡ t
    kind-awaits kind same t done =
        ap (λ (k : Kind). awaits k (outcome case place)) same ∙ ap (awaits kind) (ends kind same) ∙ done

    amount-given : (kind : Kind) → m.kind ≡ kind → Moves kind m.amount
    amount-given kind same = subst (λ (k : Kind). Moves k m.amount) same (shaped sheet m good).amount

    own-movement : (kind : Kind) → m.kind ≡ kind → is-answer kind ≡ false → movement_in case place ≡ case.movement
    unfolding movement_in movement_for is-answer case_of
    own-movement Pacs008 same other = ap (λ (k : Kind). movement_for k case place) same
    own-movement Camt050 same other = ap (λ (k : Kind). movement_for k case place) same
    own-movement Pacs028 same other = ap (λ (k : Kind). movement_for k case place) same
    own-movement Pacs002 same other = absurd (false≢true (sym other))

    closes-nothing : (kind : Kind) → m.kind ≡ kind → is-answer kind ≡ false → closed ≡ 0
    closes-nothing kind same other = closes-none m.kind (verdict case place) case place (no_answer m.kind kind same other)

    -- the movement of a message of a kind that moves money: what its step keeps, and each account as the movement leaves it
    module _ (kind : Kind) (same : m.kind ≡ kind) (move : Move) (from : (movement_in case place).debit ≡ Some move.debit)
        (to : (movement_in case place).credit ≡ Some move.credit) (sum : (movement_in case place).amount ≡ move.amount)
        (done : carried kind (passed_as kind case place) ≡ true) (over : awaits kind (passed_as kind case place) ≡ false) where
      carries-move : (number : ℕ) → closed ≡ number → outcome case place ≡ accepted
          → Recorded dir ticket sender today sheet slip room m accepted (answering move number)
      unfolding case_of
      carries-move number shut ended =
          recorded dir ticket sender today sheet slip room f m good taken accepted (answering move number) ended
          (keeps-as (answering move number)
          (moves_so case (movement_in case place) closed (outcome case place) move from to sum (kind-carried kind same true done)
          (kind-awaits kind same false over) ∙ ap (answering move) shut))

      moves-accounts : AccountsAfter dir ticket sender today sheet slip room move
      unfolding judged_step step_by outcome case_of
      moves-accounts i h =
          account-after dir ticket sender today sheet slip room f m good taken i h
          ∙ carries case (movement_in case place) closed (outcome case place) move from to sum (kind-carried kind same true done)
          (kind-awaits kind same false over) i (account_of place i)

      balance-there : runs kind 22 ≡ true → move.debit < accounts → move.amount ≤ (account_of place move.debit).balance
      unfolding case_of
      balance-there covers low =
          subst (λ (n : ℕ). n ≤ (account_of place move.debit).balance) sum (money-there case place none kind same covers move.debit from low)

    -- a camt.050
    transfers : m.kind ≡ Camt050 → Transferred dir ticket sender today sheet slip room m
    unfolding case_of is-answer
    transfers same =
        let able : Movable Camt050 (movement_in case place) = transfer-moves case place comes-up none same in
        let given : IsAmount m.amount = amount-given Camt050 same in
        let move : Move = record { debit = able.debit; credit = able.credit; amount = given.kopecks } in
        let sum : (movement_in case place).amount ≡ given.kopecks = amount-moved (own-movement Camt050 same refl) given in
        let end = transfer-carried case place in
        record {
          move = move;
          debits = able.debited;
          credits = able.credited;
          amounts = given.given;
          there =
              balance-there Camt050 same move able.debited able.credited sum end.0 end.1 transfer-covered able.debit-low;
          recorded =
              carries-move Camt050 same move able.debited able.credited sum end.0 end.1 0 (closes-nothing Camt050 same refl)
              (ends Camt050 same);
          moved = moves-accounts Camt050 same move able.debited able.credited sum end.0 end.1;
        }

    -- a pacs.008 that waits
    waits : m.kind ≡ Pacs008 → Awaits dir ticket sender today sheet slip room m
    unfolding case_of is-answer
    waits same =
        let able : Movable Pacs008 (movement_in case place) = payment-moves case place comes-up none same in
        let given : IsAmount m.amount = amount-given Pacs008 same in
        let move : Move = record { debit = able.debit; credit = able.credit; amount = given.kopecks } in
        let sum : (movement_in case place).amount ≡ given.kopecks = amount-moved (own-movement Pacs008 same refl) given in
        let bank = receiver-given case place comes-up none same in
        let keeps : Kept = record { move = move; receiver = bank.0; answers = 0 } in
        let still = kind-carried Pacs008 same false (payment-waits case place).0 in
        let waiting-on = kind-awaits Pacs008 same true (payment-waits case place).1 in
        record {
          move = move;
          receiver = bank.0;
          debits = able.debited;
          credits = able.credited;
          amounts = given.given;
          receives = bank.1;
          recorded =
              recorded dir ticket sender today sheet slip room f m good taken waiting keeps (ends Pacs008 same)
              (keeps-as keeps
              (waits-so case (movement_in case place) closed (outcome case place) move able.debited able.credited sum still waiting-on
              bank.0 bank.1
              ∙ ap (λ (n : ℕ). record { move = move; receiver = bank.0; answers = n }) (closes-nothing Pacs008 same refl)));
          rests = unmoved taken still;
        }

    -- an answer that settles a transfer
    settles : m.kind ≡ Pacs002 → Settles dir ticket sender today sheet slip room m
    unfolding case_of transfer_kept
    settles same =
        let closing : Closing (verdict case place) = subst (λ (n : ℕ). Closing n) (sym none) refl in
        let d : Answered case place = answered case place (due-there case place same closing) in
        let x : Step = step_of place d.place in
        let found : due_to case place ≡ Some (placed d.place x) = d.found ∙ ap (λ (y : Step). Some (placed d.place y)) d.there in
        let kept : movement_in case place ≡ transfer_kept (Some (placed d.place x)) =
        moves-kept case place comes-up none same d ∙ ap (λ (y : Step). transfer_kept (Some (placed d.place y))) d.there in
        let opened : open_fits place ≡ true = seat-open dir ticket sender today sheet slip room f m good in
        let able : Movable Pacs002 (movement_in case place) = answer-moves case place comes-up opened none same in
        let move : Move = record { debit = x.debit; credit = x.credit; amount = x.amount } in
        let from : (movement_in case place).debit ≡ Some x.debit = ap (λ (y : Movement). y.debit) kept in
        let to : (movement_in case place).credit ≡ Some x.credit = ap (λ (y : Movement). y.credit) kept in
        let sum : (movement_in case place).amount ≡ x.amount = ap (λ (y : Movement). y.amount) kept in
        let low : x.debit < accounts = subst (λ (n : ℕ). n < accounts) (of-value able.debit x.debit (sym able.debited ∙ from)) able.debit-low in
        let end = answer-carried case place in
        let shut : closed ≡ suc d.place = closes-found m.kind (verdict case place) case place same none d.place x found in
        record {
          place = d.place;
          due = found;
          early = d.earlier;
          move = move;
          same = refl;
          there = balance-there Pacs002 same move from to sum end.0 end.1 answer-covered low;
          recorded = carries-move Pacs002 same move from to sum end.0 end.1 (suc d.place) shut (ends Pacs002 same);
          moved = moves-accounts Pacs002 same move from to sum end.0 end.1;
        }

    by_kind : (kind : Kind) → m.kind ≡ kind → CarriedOut dir ticket sender today sheet slip room kind m
    unfolding case_of is-answer
    by_kind Pacs008 same = waits same
    by_kind Camt050 same = transfers same
    by_kind Pacs028 same =
        let still = rested taken (told_of (asked_after case place) place) (ends Pacs028 same)
        (subst (λ (k : Kind). Rests k (outcome case place)) (sym same) (asked-rests (outcome case place))) in (
          subst (λ (n : ℕ). Recorded dir ticket sender today sheet slip room m (told_of (asked_after case place) place) (answering no_move n))
              (closes-nothing Pacs028 same refl) still.0,
          still.1,
        )
    by_kind Pacs002 same = settles same

    pub passed-carried : CarriedOut dir ticket sender today sheet slip room m.kind m
    passed-carried = by_kind m.kind refl
