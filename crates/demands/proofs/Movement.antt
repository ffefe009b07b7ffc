-- What the step of a message does to an account: nothing where the message is not carried out; where it is, the movement, which is one account's
-- turnover where both sides are one account, else a debit of the one and a credit of the other.
-- Assumes nothing.
use Rattle.std.specs.Prelude.{Some}
use mathlib.Core.Path.{◌≡◌, refl, sym, ap, ◌∙◌}
use mathlib.Core.Bool.{Bool, true, false, ◌&&◌, cond, false≢true}
use Prim.Native.Nat.{ℕ}
use lib.Dec.{eqb}
use borrow.Author.Tests.{eqb-true, eqb-false, eq-eqb, ne_eqb}
use Rattle.shape.proofs.Tests.{and_left, and_right}
use Rattle.layout.specs.declared.rows.Account.{Account}
use Rattle.layout.specs.declared.rows.Step.{Step}
use Rattle.journal.specs.Steps.{set_kind, is_kind, moves}
use Rattle.journal.specs.Working.{debited, credited, turned}
use Rattle.journal.proofs.Changed.{hit, after}
use Rattle.judge.specs.declared.case.Case.{Case}
use Rattle.judge.specs.declared.case.Movement.{Movement}
use Rattle.journal.specs.declared.results.Outcome.{Outcome}
use Rattle.judge.specs.Values.{or_zero}
use Rattle.judge.specs.Verdict.{carried, awaits, step_made}
use Rattle.judge.proofs.Possible.{no-set-kind, made-moves}
use Rattle.demands.specs.Messages.{Move, no_move, Kept, answering, after_move}

-- numbers compared either way
either_way : (a b : ℕ) → eqb a b ≡ eqb b a
either_way a b = go (eqb a b) refl
  where
    go : (t : Bool) → eqb a b ≡ t → t ≡ eqb b a
    go true e = sym (eq-eqb b a (sym (eqb-true a b e)))
    go false e = sym (ne_eqb b a (λ (same : b ≡ a). eqb-false a b e (sym same)))

-- a movement by its sides: the same account, or two
by-sides : (t u v : Bool) (n : ℕ) (a : Account) → (t ≡ true → u ≡ v) → (t ≡ false → (u && v) ≡ true → ⊥)
    → cond t (cond u (turned n a) a) (cond v (credited n (cond u (debited n a) a)) (cond u (debited n a) a))
    ≡ cond (u && v) (turned n a) (cond u (debited n a) (cond v (credited n a) a))
by-sides true true true n a one two = refl
by-sides true true false n a one two = absurd (false≢true (sym (one refl)))
by-sides true false true n a one two = absurd (false≢true (one refl))
by-sides true false false n a one two = refl
by-sides false true true n a one two = absurd (two refl refl)
by-sides false true false n a one two = refl
by-sides false false true n a one two = refl
by-sides false false false n a one two = refl

move-after : (d e n i : ℕ) (a : Account)
    → cond (eqb d e) (hit d i (turned n) a) (hit e i (credited n) (hit d i (debited n) a))
    ≡ after_move (record { debit = d; credit = e; amount = n }) i a
move-after d e n i a =
    rw (either_way d i, either_way e i)
    (by-sides (eqb d e) (eqb i d) (eqb i e) n a
    (λ (q : eqb d e ≡ true). ap (eqb i) (eqb-true d e q))
    (λ (q : eqb d e ≡ false) (b : (eqb i d && eqb i e) ≡ true).
    eqb-false d e q (sym (eqb-true i d (and_left (eqb i d) (eqb i e) b)) ∙ eqb-true i e (and_right (eqb i d) (eqb i e) b))))

-- the movement that a step stores
abbrev pub move_in : Step → Move
move_in x = record { debit = x.debit; credit = x.credit; amount = x.amount }

-- the same of a step that is no set
moves-nothing : (x : Step) (i : ℕ) (a : Account) → is_kind set_kind x ≡ false → moves x ≡ false → after x i a ≡ a
unfolding after
moves-nothing x i a k n = rw (k, n)

moves-amount : (x : Step) (i : ℕ) (a : Account) → is_kind set_kind x ≡ false → moves x ≡ true
    → after x i a ≡ after_move (move_in x) i a
unfolding after
moves-amount x i a k n = rw (k, n) (move-after x.debit x.credit x.amount i a)

-- what a step keeps
abbrev pub kept_in : Step → Kept
kept_in x = record { move = move_in x; receiver = x.receiver; answers = x.answers }

module _ (c : Case) (m : Movement) (n : ℕ) (o : Outcome) where
  is-no-set : is_kind set_kind (step_made c m n o) ≡ false
  unfolding step_made
  is-no-set = no-set-kind c.message.kind

  -- it neither moves money nor waits: it keeps no movement
  pub rests-still : carried c.message.kind o ≡ false → awaits c.message.kind o ≡ false → kept_in (step_made c m n o) ≡ answering no_move n
  unfolding step_made
  rests-still e f = rw (e, f)

  -- where it moves none, the accounts are as they were
  pub rests : carried c.message.kind o ≡ false → (i : ℕ) (a : Account) → after (step_made c m n o) i a ≡ a
  rests e i a = moves-nothing (step_made c m n o) i a is-no-set (made-moves c m n o ∙ e)

  -- between two accounts it keeps that movement; where it is carried out, the accounts are so
  module _ (move : Move) (from : m.debit ≡ Some move.debit) (to : m.credit ≡ Some move.credit) (sum : m.amount ≡ move.amount) where
    pub moves_so : carried c.message.kind o ≡ true → awaits c.message.kind o ≡ false → kept_in (step_made c m n o) ≡ answering move n
    unfolding step_made or_zero
    moves_so e f = rw (e, f, from, to, sum)

    pub waits-so : carried c.message.kind o ≡ false → awaits c.message.kind o ≡ true → (receiver : ℕ) → c.message.instructed ≡ Some receiver
        → kept_in (step_made c m n o) ≡ record { move = move; receiver = receiver; answers = n }
    unfolding step_made or_zero
    waits-so e f receiver is = rw (e, f, from, to, sum, is)

    pub carries : carried c.message.kind o ≡ true → awaits c.message.kind o ≡ false → (i : ℕ) (a : Account)
        → after (step_made c m n o) i a ≡ after_move move i a
    carries e f i a =
        moves-amount (step_made c m n o) i a is-no-set (made-moves c m n o ∙ e) ∙ ap (λ (x : Kept). after_move x.move i a) (moves_so e f)
