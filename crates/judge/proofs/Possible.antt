-- The step that a judged message is can be taken in its seat: its result is one that its kind may hold, its parts are those of a good message, a
-- movement stands where money is moved or a transfer waits, which is where no check fails, so that it is one that a step can have and, where it is
-- moved, is covered; and what it answers is a transfer that waits.
-- Assumes nothing.
use Rattle.std.specs.Prelude.{ℕ, Option, Some}
use mathlib.Core.Path.{◌≡◌, refl, sym, ap, subst, ◌∙◌}
use mathlib.Core.Bool.{Bool, true, false, not, ◌&&◌, ◌||◌, cond, false≢true}
use mathlib.Core.List.{List}
use Prim.Native.Nat.{ℕ, suc, ◌≤◌}
use native.Mathlib.Omega.{arith}
use lib.Dec.{leb, ltb, eqb}
use lib.ListN.{length}
use borrow.Author.Tests.{le-leb, lt-ltb, eq-eqb, eqb-true}
use Rattle.shape.specs.Dates.{is_time}
use Rattle.shape.specs.Stored.{same_identifier}
use Rattle.shape.specs.declared.stored.Identifier.{Identifier}
use Rattle.shape.specs.declared.stored.Uetr.{Uetr}
use Rattle.shape.proofs.Tests.{or_right, or_cases}
use Rattle.table.specs.declared.Kind.{Kind}
use Rattle.table.specs.declared.Kind.TheVariants.{Pacs008, Camt050, Pacs028, Pacs002}
use Rattle.table.specs.Checks.{rejecting, order_of, is_in, runs}
use Rattle.slip.specs.declared.Status.TheVariants.{Accc, Rjct, Waits}
use Rattle.slip.specs.Meaning.{steps, kind_number, status_number, says}
use Rattle.message.proofs.Shaped.{IsIdentifier, IsUetr, HasUetr, IsTime, Referenced, Shaped, shaped}
use Rattle.directory.specs.Directory.{code_most}
use Rattle.layout.specs.declared.rows.Step.{Step}
use Rattle.layout.specs.Seat.{accounts, head_of, account_of, step_of, seat_long}
use Rattle.journal.specs.declared.results.Outcome.{Outcome}
use Rattle.journal.specs.Results.{result_fits}
use Rattle.journal.specs.Steps.{set_kind, amount_most, no_identifier, same_settings, is_stored, is_stored_uetr, no_uetr, no_movement, no_set}
use Rattle.journal.specs.Steps.{
  set_fits,
  moves,
  is_waiting,
  closes,
  between,
  is_movement,
  movement_fits,
  uetr_fits,
  reference_fits,
  receiver_fits,
  answers_fits,
  message_fits,
  step_fits,
}
use Rattle.journal.specs.Answers.{waits, same_movement, answerable}
use Rattle.journal.specs.Working.{covered, possible}
use Rattle.journal.proofs.ResultLaws.{result-said}
use Rattle.journal.proofs.StepLaws.{stored-fits, uetr-fits}
use Rattle.seat.specs.Fit.{open_fits}
use Rattle.seat.proofs.Forward.{open-fits}
use Rattle.judge.specs.declared.case.Case.{Case}
use Rattle.judge.specs.declared.case.Movement.{Movement}
use Rattle.judge.specs.Values.{or_zero}
use Rattle.judge.specs.Case.{Arises}
use Rattle.judge.specs.Rows.{asked_after, due_to, kept_in, movement_in}
use Rattle.judge.specs.Verdict.{
  verdict,
  transferred,
  told_of,
  end_of,
  outcome,
  carried,
  awaits,
  step_number,
  closed_by,
  step_made,
  step_by,
  judged_step,
}
use Rattle.judge.proofs.Holders.{apart}
use Rattle.judge.proofs.Passed.{money-there}
use Rattle.judge.proofs.Answering.{due-there, Answered, answered, moves-kept, answers-due, answers-none}
use Rattle.judge.proofs.Movements.{Movable, payment-moves, transfer-moves, answer-moves, receiver-code}
use Rattle.judge.proofs.Ends.{outcome_fits, carried_none, waits-none}
use Rattle.journal.specs.Traces.{placed}

-- the parts of a good message, as a step stores them
identifier-fits : (x : Identifier) → IsIdentifier x → is_stored x ≡ true
identifier-fits x is = subst (λ (y : Identifier). is_stored y ≡ true) (sym is.stored) (stored-fits is.text is.good)

uetr-stored : (x : Uetr) → IsUetr x → is_stored_uetr x ≡ true
uetr-stored x is = subst (λ (y : Uetr). is_stored_uetr y ≡ true) (sym is.stored) (uetr-fits is.text is.good)

time-fits : (v : Option ℕ) → IsTime v → is_time (or_zero v) ≡ true
unfolding or_zero
time-fits v is = subst (λ (w : Option ℕ). is_time (or_zero w) ≡ true) (sym is.given) is.real

uetr-stands : (kind : Kind) (x : Uetr) → HasUetr kind x → cond (eqb (kind_number kind) (kind_number Pacs002)) (no_uetr x) (is_stored_uetr x) ≡ true
unfolding kind_number no_uetr
uetr-stands Pacs008 x is = uetr-stored x is
uetr-stands Camt050 x is = uetr-stored x is
uetr-stands Pacs028 x is = uetr-stored x is
uetr-stands Pacs002 x is = subst (λ (y : Uetr). no_uetr y ≡ true) (sym is) refl

reference-stands : (kind : Kind) (x : Identifier) → Referenced kind x
    → cond (eqb (kind_number kind) (kind_number Camt050) || eqb (kind_number kind) (kind_number Pacs002)) (same_identifier x no_identifier) (is_stored x) ≡ true
unfolding kind_number same_identifier
reference-stands Pacs008 x is = identifier-fits x is
reference-stands Camt050 x is = subst (λ (y : Identifier). same_identifier y no_identifier ≡ true) (sym is) refl
reference-stands Pacs028 x is = identifier-fits x is
reference-stands Pacs002 x is = subst (λ (y : Identifier). same_identifier y no_identifier ≡ true) (sym is) refl

-- no message is a set
pub no-set-kind : (kind : Kind) → eqb (kind_number kind) set_kind ≡ false
unfolding kind_number
no-set-kind Pacs008 = refl
no-set-kind Camt050 = refl
no-set-kind Pacs028 = refl
no-set-kind Pacs002 = refl

-- that money is moved, and that a transfer waits, said of the step and of the message
both : (t : Bool) → (t && true) ≡ t
both true = refl
both false = refl

neither : (t : Bool) → (t && false) ≡ false
neither true = refl
neither false = refl

carried_same : (kind : Kind) (o : Outcome)
    → (eqb o.status (status_number Accc) && (eqb (kind_number kind) (kind_number Camt050) || eqb (kind_number kind) (kind_number Pacs002))) ≡ carried kind o
unfolding kind_number carried
carried_same Pacs008 o = neither (eqb o.status (status_number Accc))
carried_same Camt050 o = both (eqb o.status (status_number Accc))
carried_same Pacs028 o = neither (eqb o.status (status_number Accc))
carried_same Pacs002 o = both (eqb o.status (status_number Accc))

awaits-same : (kind : Kind) (o : Outcome) → (eqb (kind_number kind) (kind_number Pacs008) && eqb o.status (status_number Waits)) ≡ awaits kind o
unfolding kind_number awaits
awaits-same Pacs008 o = refl
awaits-same Camt050 o = refl
awaits-same Pacs028 o = refl
awaits-same Pacs002 o = refl

-- a movement as a step of a kind can have it: in range where it is kept, else zeros
abbrev row_fits : Kind → Bool → ℕ → ℕ → ℕ → Bool
row_fits kind keeps debit credit amount =
    cond keeps
    (leb 1 amount && leb amount amount_most && ltb debit accounts && ltb credit accounts && apart kind debit credit)
    (eqb debit 0 && eqb credit 0 && eqb amount 0)

able-fits : (kind : Kind) (m : Movement) → Movable kind m → row_fits kind true (or_zero m.debit) (or_zero m.credit) m.amount ≡ true
unfolding or_zero
able-fits kind m able =
    rw (
      able.debited,
      able.credited,
      le-leb 1 m.amount able.least,
      le-leb m.amount amount_most able.most,
      lt-ltb able.debit accounts able.debit-low,
      lt-ltb able.credit accounts able.credit-low,
      able.between,
    )

row_fits_lem : (kind : Kind) (keeps : Bool) (m : Movement) → (keeps ≡ true → Movable kind m)
    → row_fits kind keeps (cond keeps (or_zero m.debit) 0) (cond keeps (or_zero m.credit) 0) (cond keeps m.amount 0) ≡ true
row_fits_lem kind true m able = able-fits kind m (able refl)
row_fits_lem kind false m able = refl

-- the step of a message, by its movement, the step that it answers and its end
module _ (c : Case) (m : Movement) (n : ℕ) (o : Outcome) where
  abbrev made : Step
  made = step_made c m n o

  abbrev kind : Kind
  kind = c.message.kind

  abbrev keeps : Bool
  keeps = carried kind o || awaits kind o

  -- it moves money exactly where that is carried out, and waits exactly where the transfer does
  pub made-moves : moves made ≡ carried kind o
  unfolding moves step_made
  made-moves = carried_same kind o

  made-waits : is_waiting made ≡ awaits kind o
  unfolding is_waiting step_made
  made-waits = awaits-same kind o

  movement-stands : (keeps ≡ true → Movable kind m) → movement_fits made ≡ true
  unfolding movement_fits is_movement between no_movement step_made
  movement-stands able =
      subst
      (λ (t : Bool).
      row_fits kind t (cond keeps (or_zero m.debit) 0) (cond keeps (or_zero m.credit) 0) (cond keeps m.amount 0) ≡ true)
      (λ i. sym made-moves i || sym made-waits i) (row_fits_lem kind keeps m able)

  receiver-stands : (awaits kind o ≡ true → or_zero c.message.instructed ≤ code_most) → receiver_fits made ≡ true
  unfolding receiver_fits step_made
  receiver-stands low = rw made-waits (go (awaits kind o) refl)
    where
      go : (t : Bool) → awaits kind o ≡ t
          → cond t (leb (cond t (or_zero c.message.instructed) 0) code_most) (eqb (cond t (or_zero c.message.instructed) 0) 0) ≡ true
      go true e = le-leb (or_zero c.message.instructed) code_most (low e)
      go false e = refl

  -- the number of the step that is answered stands exactly where that one is closed
  abbrev Numbered : Type 0
  Numbered =
      cond (eqb (kind_number kind) (kind_number Pacs002) && (eqb o.check 0 || is_in o.check rejecting)) (leb 1 n && leb n steps) (eqb n 0) ≡ true

  answers-stand : Numbered → answers_fits made ≡ true
  unfolding answers_fits closes step_made
  answers-stand e = e

  -- ten tests that all hold
  ten-hold : (a b c d e f g h i j : Bool) → a ≡ true → b ≡ true → c ≡ true → d ≡ true → e ≡ true → f ≡ true → g ≡ true → h ≡ true → i ≡ true → j ≡ true
      → (a && b && c && d && e && f && g && h && i && j) ≡ true
  ten-hold a b c d e f g h i j ta tb tc td te tf tg th ti tj = rw (ta, tb, tc, td, te, tf, tg, th, ti, tj)

  -- the step fits, where its kind may hold its result and its movement, its receiver and what it answers are such as a step can have
  made-fits : Arises c → result_fits (kind_number kind) o.status o.check ≡ true → (keeps ≡ true → Movable kind m)
      → (awaits kind o ≡ true → or_zero c.message.instructed ≤ code_most) → Numbered → step_fits made ≡ true
  unfolding step_fits message_fits uetr_fits reference_fits no_set same_settings step_made
  made-fits a ended able low numbered =
      let good : Shaped c.message = shaped a.sheet c.message a.good in
      subst (λ (t : Bool). cond t (set_fits made) (message_fits made) ≡ true) (sym (no-set-kind kind))
      (ten-hold (result_fits made.kind made.status made.check) (leb made.sender code_most) (is_stored made.id) (uetr_fits made)
      (is_time made.created) (reference_fits made) (movement_fits made) (receiver_fits made) (answers_fits made) (no_set made)
      ended (le-leb c.sender code_most a.code) (identifier-fits c.message.id.stored good.identifier)
      (uetr-stands kind c.message.uetr good.uetr) (time-fits c.message.created good.created)
      (reference-stands kind c.message.reference good.reference) (movement-stands able) (receiver-stands low) (answers-stand numbered) refl)

  -- the debited account covers what is moved; where nothing is moved nothing is to be covered
  module _ (s : List ℕ) where
    abbrev Covers : Type 0
    Covers = m.amount ≤ (account_of s (or_zero m.debit)).balance

    row-covered : (done waiting : Bool) → (done ≡ true → Covers)
        → (not done || eqb (cond (done || waiting) (or_zero m.debit) 0) (cond (done || waiting) (or_zero m.credit) 0)
        || leb (cond (done || waiting) m.amount 0) (account_of s (cond (done || waiting) (or_zero m.debit) 0)).balance) ≡ true
    row-covered true waiting covers =
        or_right (eqb (or_zero m.debit) (or_zero m.credit)) (leb m.amount (account_of s (or_zero m.debit)).balance)
        (le-leb m.amount (account_of s (or_zero m.debit)).balance (covers refl))
    row-covered false waiting covers = refl

    made_covered : (carried kind o ≡ true → Covers) → covered made s ≡ true
    unfolding covered step_made
    made_covered covers =
        subst
        (λ (t : Bool).
        cond t (same_settings made.old (account_of s made.account).settings)
        (not (moves made) || eqb made.debit made.credit || leb made.amount (account_of s made.debit).balance)
        ≡ true)
        (sym (no-set-kind kind))
        (subst
        (λ (t : Bool). (not t || eqb made.debit made.credit || leb made.amount (account_of s made.debit).balance) ≡ true)
        (sym made-moves) (row-covered (carried kind o) (awaits kind o) covers))

    -- it moves what a transfer keeps, where that is its movement
    made-same : (y : Step) (k : ℕ) → m ≡ kept_in (Some (placed k y)) → moves made ≡ true → same_movement made y ≡ true
    unfolding same_movement step_made kept_in or_zero
    made-same y k same moving =
        rw (sym made-moves ∙ moving, same, eq-eqb y.debit y.debit refl, eq-eqb y.credit y.credit refl, eq-eqb y.amount y.amount refl)

-- where money is moved, the movement is one that a step can have, and is covered; where a transfer waits, it is one as well
module _ (c : Case) (s : List ℕ) (a : Arises c) (fit : open_fits s ≡ true) (none : verdict c s ≡ 0) where
  able : (kind : Kind) → c.message.kind ≡ kind → (o : Outcome) → (carried kind o || awaits kind o) ≡ true → Movable kind (movement_in c s)
  unfolding carried awaits
  able Pacs008 e o t = payment-moves c s a none e
  able Camt050 e o t = transfer-moves c s a none e
  able Pacs028 e o t = absurd (false≢true t)
  able Pacs002 e o t = answer-moves c s a fit none e

  covers : (kind : Kind) → c.message.kind ≡ kind → (o : Outcome) → carried kind o ≡ true
      → (movement_in c s).amount ≤ (account_of s (or_zero (movement_in c s).debit)).balance
  unfolding carried runs order_of or_zero
  covers kind e o t = go kind e t
    where
      money : (k : Kind) → c.message.kind ≡ k → runs k 22 ≡ true → Movable k (movement_in c s)
          → (movement_in c s).amount ≤ (account_of s (or_zero (movement_in c s).debit)).balance
      money k same r m =
          subst (λ (v : Option ℕ). (movement_in c s).amount ≤ (account_of s (or_zero v)).balance) (sym m.debited)
          (money-there c s none k same r m.debit m.debited m.debit-low)

      go : (k : Kind) → c.message.kind ≡ k → carried k o ≡ true → (movement_in c s).amount ≤ (account_of s (or_zero (movement_in c s).debit)).balance
      go Pacs008 same d = absurd (false≢true d)
      go Camt050 same d = money Camt050 same refl (transfer-moves c s a none same)
      go Pacs028 same d = absurd (false≢true d)
      go Pacs002 same d = money Pacs002 same refl (answer-moves c s a fit none same)

  receives : (kind : Kind) → c.message.kind ≡ kind → (o : Outcome) → awaits kind o ≡ true → or_zero c.message.instructed ≤ code_most
  unfolding awaits
  receives Pacs008 e o t = receiver-code c s a none e
  receives Camt050 e o t = absurd (false≢true t)
  receives Pacs028 e o t = absurd (false≢true t)
  receives Pacs002 e o t = absurd (false≢true t)

-- a message keeps its movement, moves it or waits only where no check fails
keeps-none : (c : Case) (s : List ℕ) → (carried c.message.kind (outcome c s) || awaits c.message.kind (outcome c s)) ≡ true → verdict c s ≡ 0
keeps-none c s e =
    or_cases (carried c.message.kind (outcome c s)) (awaits c.message.kind (outcome c s)) e (carried_none c s) (waits-none c s)

-- an answer's end has the check that it failed by
transferred-check : (check : ℕ) → (transferred check).check ≡ check
unfolding transferred
transferred-check check = go (eqb check 0) refl
  where
    end : Bool → Outcome
    end none = cond none (record { status = status_number Accc; check = 0 }) (record { status = status_number Rjct; check = check })

    go : (t : Bool) → eqb check 0 ≡ t → (end t).check ≡ check
    go true e = sym (eqb-true check 0 e)
    go false e = refl

-- what a judged message answers: nothing, or a transfer that waits for it
module _ (c : Case) (s : List ℕ) (few : (head_of s).steps ≤ steps) where
  closed-number : c.message.kind ≡ Pacs002 → (t : Bool) → (eqb (verdict c s) 0 || is_in (verdict c s) rejecting) ≡ t
      → cond t (leb 1 (cond t (step_number (due_to c s)) 0) && leb (cond t (step_number (due_to c s)) 0) steps) (eqb (cond t (step_number (due_to c s)) 0) 0) ≡ true
  unfolding step_number
  closed-number same true e =
      let d = answered c s (due-there c s same e) in
      let low : leb (suc d.place) steps ≡ true = le-leb (suc d.place) steps (omega (arith, d.earlier)) in
      rw (d.found, le-leb 1 (suc d.place) (omega arith)) low
  closed-number same false e = refl

  numbered : (kind : Kind) → c.message.kind ≡ kind
      → cond (eqb (kind_number kind) (kind_number Pacs002)
      && (eqb (end_of kind (verdict c s) (told_of (asked_after c s) s)).check 0 || is_in (end_of kind (verdict c s) (told_of (asked_after c s) s)).check rejecting))
      (leb 1 (closed_by kind (verdict c s) (due_to c s)) && leb (closed_by kind (verdict c s) (due_to c s)) steps)
      (eqb (closed_by kind (verdict c s) (due_to c s)) 0) ≡ true
  unfolding kind_number closed_by end_of
  numbered Pacs008 same = refl
  numbered Camt050 same = refl
  numbered Pacs028 same = refl
  numbered Pacs002 same =
      rw (transferred-check (verdict c s)) (closed-number same (eqb (verdict c s) 0 || is_in (verdict c s) rejecting) refl)

-- how a judged message ends may stand on a slip of its kind
pub judged-says : (c : Case) (s : List ℕ) → Arises c → open_fits s ≡ true → (verdict c s ≡ 1 → ⊥) → (verdict c s ≡ 2 → ⊥)
    → says (judged_step c s).kind (judged_step c s).status (judged_step c s).check ≡ true
unfolding judged_step step_by step_made outcome
judged-says c s a fit one two =
    result-said (kind_number c.message.kind) (outcome c s).status (outcome c s).check (outcome_fits c s fit one two)

-- a judged message may be the next step, by what it answers
judged-answerable : (c : Case) (s : List ℕ) → Arises c → (kind : Kind) → c.message.kind ≡ kind → answerable (judged_step c s) s ≡ true
unfolding judged_step step_by step_made closed_by step_number outcome
judged-answerable c s a kind same = go kind same
  where
    none-answered : (k : Kind) → c.message.kind ≡ k → closed_by k (verdict c s) (due_to c s) ≡ 0 → answerable (judged_step c s) s ≡ true
    none-answered k e z = answers-none (judged_step c s) s (subst (λ (x : Kind). closed_by x (verdict c s) (due_to c s) ≡ 0) (sym e) z)

    number : (e : c.message.kind ≡ Pacs002) (d : Answered c s) → (eqb (verdict c s) 0 || is_in (verdict c s) rejecting) ≡ true
        → (judged_step c s).answers ≡ suc d.place
    number e d t = ap (λ (k : Kind). closed_by k (verdict c s) (due_to c s)) e ∙ rw t (ap step_number d.found)

    moving : c.message.kind ≡ Pacs002 → (d : Answered c s) → moves (judged_step c s) ≡ true → same_movement (judged_step c s) (step_of s d.place) ≡ true
    moving e d m =
        let o : Outcome = outcome c s in
        let done : carried c.message.kind o ≡ true = sym (made-moves c (movement_in c s) closed o) ∙ m in
        made-same c (movement_in c s) closed o s (step_of s d.place) d.place
        (moves-kept c s a (carried_none c s done) e d ∙ ap (λ (y : Step). kept_in (Some (placed d.place y))) d.there) m
      where
        closed : ℕ
        closed = closed_by c.message.kind (verdict c s) (due_to c s)

    closes-due : c.message.kind ≡ Pacs002 → (t : Bool) → (eqb (verdict c s) 0 || is_in (verdict c s) rejecting) ≡ t → answerable (judged_step c s) s ≡ true
    closes-due e true t =
        let d : Answered c s = answered c s (due-there c s e t) in
        let at_place : waits s d.place (step_of s d.place) ≡ true = subst (λ (y : Step). waits s d.place y ≡ true) d.there d.waiting in
        answers-due (judged_step c s) s d.place (number e d t) d.earlier at_place (moving e d)
    closes-due e false t = none-answered Pacs002 e (rw t)

    go : (k : Kind) → c.message.kind ≡ k → answerable (judged_step c s) s ≡ true
    go Pacs008 e = none-answered Pacs008 e refl
    go Camt050 e = none-answered Camt050 e refl
    go Pacs028 e = none-answered Pacs028 e refl
    go Pacs002 e = closes-due e (eqb (verdict c s) 0 || is_in (verdict c s) rejecting) refl

-- the step of a judged message is possible in its seat
pub judged-possible : (c : Case) (s : List ℕ) → Arises c → length s ≡ seat_long → open_fits s ≡ true → (verdict c s ≡ 1 → ⊥) → (verdict c s ≡ 2 → ⊥)
    → possible (judged_step c s) s ≡ true
unfolding possible judged_step step_by outcome
judged-possible c s a long fit one two =
    let kind : Kind = c.message.kind in
    let o : Outcome = outcome c s in
    let n : ℕ = closed_by kind (verdict c s) (due_to c s) in
    rw (
      made-fits c (movement_in c s) n o a (outcome_fits c s fit one two)
          (λ (e : (carried kind o || awaits kind o) ≡ true). able c s a fit (keeps-none c s e) kind refl o e)
          (λ (e : awaits kind o ≡ true). receives c s a fit (waits-none c s e) kind refl o e)
          (numbered c s (open-fits s fit).count kind refl),
      made_covered c (movement_in c s) n o s (λ (e : carried kind o ≡ true). covers c s a fit (carried_none c s e) kind refl o e),
      judged-answerable c s a kind refl,
    )
