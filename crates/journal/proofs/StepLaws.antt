-- What a step that fits is: what was stored fits, no step does not, and accounts, settings and amount are in range.
-- Assumes nothing.
use mathlib.Core.Path.{◌≡◌, refl, sym, ap, subst, ◌∙◌}
use mathlib.Core.Bool.{Bool, true, false, ◌&&◌, ◌||◌, cond}
use mathlib.Core.List.{List}
use Prim.Native.Nat.{ℕ, ◌-◌, ◌≤◌, ◌<◌}
use lib.Dec.{leb, ltb, eqb}
use native.Mathlib.Omega.{arith}
use lib.ListN.{length, take, drop, length-drop}
use lib.Seq.{take_all}
use borrow.Author.Tests.{ltb-true, leb-true, eqb-true, eq-eqb}
use Rattle.shape.specs.Bytes.{every}
use Rattle.shape.specs.Dates.{is_time}
use Rattle.shape.specs.Fields.{identifier_most, is_identifier}
use Rattle.shape.specs.Stored.{identifier_of, same_identifier, all_bytes, identifier_text, stored_text, is_uetr, uetr_of}
use Rattle.shape.specs.declared.stored.Identifier.{Identifier}
use Rattle.shape.specs.declared.stored.Text.{Text}
use Rattle.shape.proofs.Tests.{and_left, and_right}
use Rattle.shape.proofs.ReadBack.{identifier-back, identifier-same, text-short, text-front, stored-version, stored-variant}
use Rattle.slip.specs.Meaning.{kind_number, status_number}
use Rattle.slip.specs.declared.Status.TheVariants.{Waits}
use Rattle.directory.specs.Directory.{code_most}
use Rattle.layout.specs.declared.rows.Settings.{Settings}
use Rattle.layout.specs.declared.rows.Step.{Step}
use Rattle.layout.specs.Seat.{accounts}
use Rattle.journal.specs.Results.{result_fits}
use Rattle.journal.specs.Steps.{set_kind, amount_most, settings_fit, same_settings, no_identifier, is_stored, is_stored_uetr, no_uetr}
use Rattle.journal.specs.Steps.{no_message, no_movement, no_set}
use Rattle.journal.specs.Steps.{
  set_fits,
  is_kind,
  moves,
  is_waiting,
  between,
  is_movement,
  movement_fits,
  uetr_fits,
  reference_fits,
  receiver_fits,
  answers_fits,
  message_fits,
  step_fits,
  no_step,
}

-- the text that is handed on: at most 35 of its bytes are the identifier's, and they stand in front
module _ (t : Text) (x : Identifier) (e : t ≡ stored_text x) where
  pub text-most : t.length ≤ identifier_most
  unfolding stored_text
  text-most = subst (λ (u : Text). u.length ≤ identifier_most) (sym e) (text-short x)

  pub text-part : take t.length t.bytes ≡ identifier_text x
  unfolding stored_text
  text-part = subst (λ (u : Text). take u.length u.bytes ≡ identifier_text x) (sym e) (text-front x)

  -- what stands behind it
  pub text-behind : (f : ℕ → Bool) → every f (take (length t.bytes - t.length) (drop t.length t.bytes)) ≡ true
      → every f (drop (length (identifier_text x)) (all_bytes x)) ≡ true
  unfolding stored_text
  text-behind f z =
      let rest = length t.bytes - t.length in
      let short : length (drop t.length t.bytes) ≤ rest = rw (length-drop t.length t.bytes) (omega arith) in
      subst (λ (u : Text). every f (drop u.length u.bytes) ≡ true) e (ap (every f) (sym (take_all rest (drop t.length t.bytes) short)) ∙ z)

-- what an identifier is stored as fits
pub stored-fits : (s : List ℕ) → is_identifier s ≡ true → is_stored (identifier_of s) ≡ true
unfolding is_stored
stored-fits s e = rw (identifier-back s e, e) ((identifier-same s s e e).1 refl)

-- and so does what a UETR is stored as
pub uetr-fits : (s : List ℕ) → is_uetr s ≡ true → is_stored_uetr (uetr_of s) ≡ true
unfolding is_stored_uetr
uetr-fits s e = rw (stored-version s e, stored-variant s e)

-- no step is none that fits
pub no-step-unfit : step_fits no_step ≡ false
unfolding step_fits message_fits result_fits kind_number
no-step-unfit = refl

-- a set that fits, part by part
set-fits : (x : Step) → step_fits x ≡ true → is_kind set_kind x ≡ true → set_fits x ≡ true
unfolding step_fits
set-fits x e k = subst (λ (t : Bool). cond t (set_fits x) (message_fits x) ≡ true) k e

set_before : (x : Step) → step_fits x ≡ true → is_kind set_kind x ≡ true
    → (no_message x && no_movement x && ltb x.account accounts && settings_fit x.old) ≡ true
unfolding set_fits
set_before x e k = and_left (no_message x && no_movement x && ltb x.account accounts && settings_fit x.old) (settings_fit x.given) (set-fits x e k)

pub set-account : (x : Step) → step_fits x ≡ true → is_kind set_kind x ≡ true → x.account < accounts
set-account x e k =
    let h = and_left (no_message x && no_movement x && ltb x.account accounts) (settings_fit x.old) (set_before x e k) in
    ltb-true x.account accounts (and_right (no_message x && no_movement x) (ltb x.account accounts) h)

pub set-old : (x : Step) → step_fits x ≡ true → is_kind set_kind x ≡ true → settings_fit x.old ≡ true
set-old x e k = and_right (no_message x && no_movement x && ltb x.account accounts) (settings_fit x.old) (set_before x e k)

pub set_given : (x : Step) → step_fits x ≡ true → is_kind set_kind x ≡ true → settings_fit x.given ≡ true
unfolding set_fits
set_given x e k = and_right (no_message x && no_movement x && ltb x.account accounts && settings_fit x.old) (settings_fit x.given) (set-fits x e k)

-- of the ten tests of a message that fits: its result, its movement, and which step it answers
record Parts (x : Step) : Type 0 where
  result : result_fits x.kind x.status x.check ≡ true
  movement : movement_fits x ≡ true
  answers : answers_fits x ≡ true

first_holds : (a b c d e f : Bool) → (a && b && c && d && e && f) ≡ true → a ≡ true
first_holds true b c d e f h = refl
first_holds false b c d e f h = h

message-parts : (x : Step) → step_fits x ≡ true → is_kind set_kind x ≡ false → Parts x
unfolding step_fits message_fits
message-parts x e k =
    let result = result_fits x.kind x.status x.check in
    let front = result && leb x.sender code_most && is_stored x.id && uetr_fits x && is_time x.created && reference_fits x in
    let h = subst (λ (t : Bool). cond t (set_fits x) (message_fits x) ≡ true) k e in
    let four = and_left (front && movement_fits x && receiver_fits x && answers_fits x) (no_set x) h in
    let three = and_left (front && movement_fits x && receiver_fits x) (answers_fits x) four in
    let two = and_left (front && movement_fits x) (receiver_fits x) three in
    record {
      result =
          first_holds result (leb x.sender code_most) (is_stored x.id) (uetr_fits x) (is_time x.created) (reference_fits x)
          (and_left front (movement_fits x) two);
      movement = and_right front (movement_fits x) two;
      answers = and_right (front && movement_fits x && receiver_fits x) (answers_fits x) four;
    }

pub message-result : (x : Step) → step_fits x ≡ true → is_kind set_kind x ≡ false → result_fits x.kind x.status x.check ≡ true
message-result x e k = (message-parts x e k).result

movement-fits : (x : Step) → step_fits x ≡ true → is_kind set_kind x ≡ false → movement_fits x ≡ true
movement-fits x e k = (message-parts x e k).movement

pub message-answers : (x : Step) → step_fits x ≡ true → is_kind set_kind x ≡ false → answers_fits x ≡ true
message-answers x e k = (message-parts x e k).answers

-- a set answers nothing
pub set-answers : (x : Step) → step_fits x ≡ true → is_kind set_kind x ≡ true → x.answers ≡ 0
unfolding no_message
set-answers x e k =
    let none = and_left (no_message x) (no_movement x) (and_left (no_message x && no_movement x) (ltb x.account accounts)
    (and_left (no_message x && no_movement x && ltb x.account accounts) (settings_fit x.old) (set_before x e k))) in
    eqb-true x.answers 0
    (and_right
    (eqb x.status 0 && eqb x.check 0 && eqb x.sender 0 && same_identifier x.id no_identifier && no_uetr x.uetr
    && eqb x.created 0 && same_identifier x.reference no_identifier && eqb x.receiver 0)
    (eqb x.answers 0) none)

-- a step that waits is no set
pub waiting-message : (x : Step) → is_waiting x ≡ true → is_kind set_kind x ≡ false
unfolding is_waiting kind_number
waiting-message x e = rw (eqb-true x.kind 1 (and_left (eqb x.kind 1) (eqb x.status (status_number Waits)) e))

-- what a waiting transfer is to move is a movement
pub waiting-movement : (x : Step) → step_fits x ≡ true → is_waiting x ≡ true → is_movement x ≡ true
unfolding movement_fits
waiting-movement x e w = chosen (moves x) (movement-fits x e (waiting-message x w))
  where
    chosen : (t : Bool) → cond (t || is_waiting x) (is_movement x) (no_movement x) ≡ true → is_movement x ≡ true
    chosen true h = h
    chosen false h = rw w at h

-- three of five tests that all hold
three-hold : (least most debit credit rest : Bool) → (least && most && debit && credit && rest) ≡ true → (debit ≡ true) × (credit ≡ true) × (most ≡ true)
three-hold least most debit credit rest e =
    let four = and_left (least && most && debit && credit) rest e in
    let three = and_left (least && most && debit) credit four in
    (and_right (least && most) debit three, and_right (least && most && debit) credit four, and_right least most (and_left (least && most) debit three))

-- where a step moves money, the amount and both accounts are in range
pub moved-within : (x : Step) → step_fits x ≡ true → is_kind set_kind x ≡ false → moves x ≡ true
    → (x.debit < accounts) × (x.credit < accounts) × (x.amount ≤ amount_most)
unfolding movement_fits is_movement
moved-within x e k n =
    let h : is_movement x ≡ true = subst (λ (t : Bool). cond (t || is_waiting x) (is_movement x) (no_movement x) ≡ true) n (movement-fits x e k) in
    let p = three-hold (leb 1 x.amount) (leb x.amount amount_most) (ltb x.debit accounts) (ltb x.credit accounts) (between x) h in
    (ltb-true x.debit accounts p.0, ltb-true x.credit accounts p.1, leb-true x.amount amount_most p.2)

-- the same numbers are the same settings
pub same-settings : (x y : Settings) → same_settings x y ≡ true → x ≡ y
unfolding same_settings
same-settings x y e =
    let out = eqb x.out y.out in
    let into = eqb x.into y.into in
    let ltk = eqb x.ltk y.ltk in
    let lpo = eqb x.lpo y.lpo in
    let three = and_left (out && into && ltk) lpo e in
    let two = and_left (out && into) ltk three in
    λ i. record {
      out = eqb-true x.out y.out (and_left out into two) i;
      into = eqb-true x.into y.into (and_right out into two) i;
      ltk = eqb-true x.ltk y.ltk (and_right (out && into) ltk three) i;
      lpo = eqb-true x.lpo y.lpo (and_right (out && into && ltk) lpo e) i;
    }

-- settings are the same as themselves
pub settings-same : (x : Settings) → same_settings x x ≡ true
unfolding same_settings
settings-same x = rw (eq-eqb x.out x.out refl, eq-eqb x.into x.into refl, eq-eqb x.ltk x.ltk refl, eq-eqb x.lpo x.lpo refl)
