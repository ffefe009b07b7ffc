-- A refused call leaves the room and the slip buffer as they came: each leaves what it made only where its number is 0.
-- Assumes nothing.
use mathlib.Core.Path.{◌≡◌, refl}
use mathlib.Core.Bool.{Bool, true, false, not, cond}
use mathlib.Core.List.{List, [], ◌∷◌}
use Prim.Native.Nat.{ℕ}
use borrow.Author.Tests.{ne_eqb}
use Rattle.slip.specs.Answers.{can_write, write_after}
use Rattle.directory.specs.declared.Participant.{Participant}
use Rattle.centre.specs.declared.Ticket.{Ticket}
use Rattle.centre.specs.Answers.{Told, done, refused, first, is_done, behind}
use Rattle.centre.specs.Calls.{open_after, close_after, set_told, set_after, back_after}
use Rattle.centre.specs.Submit.{submit_told, submit_after, submit_slip}
use Rattle.centre.specs.Slips.{write_told}
use Rattle.centre.proofs.First.{behind-refused}
use Rattle.demands.specs.Calls.{
  Act,
  close,
  set,
  submit,
  take_back,
  read,
  Call,
  opening,
  under,
  writing,
  reading,
  act_told,
  call_told,
  act_room,
  call_room,
  act_slip,
  call_slip,
  act_lent,
  slip_lent,
}

pub nothing-made : {A : Type 0} (t : Told) (made came : A) → (t.number ≡ 0 → ⊥) → behind t made came ≡ came
unfolding is_done
nothing-made t made came some = behind-refused t made came (ne_eqb t.number 0 some)

-- a slip that cannot be written leaves its buffer
nothing_written : (t : Bool) (made came : List ℕ) → ((first ((not t, refused 11) ∷ []) (done [])).number ≡ 0 → ⊥) → cond t made came ≡ came
nothing_written true made came some = absurd (some refl)
nothing_written false made came some = refl

module _ (dir : List Participant) (room : List ℕ) where
  act-stays : (ticket : Ticket) (act : Act) → ((act_told dir ticket act room).number ≡ 0 → ⊥)
      → (act_room dir ticket act room ≡ room) × (act_slip dir ticket act room ≡ act_lent act)
  unfolding act_told act_room act_slip act_lent close_after set_told set_after submit_told submit_after submit_slip back_after
  act-stays ticket close some = (nothing-made _ _ _ some, refl)
  act-stays ticket (set owner number wish) some = (nothing-made _ _ _ some, refl)
  act-stays ticket (submit sender today sheet slip) some = (nothing-made _ _ _ some, nothing-made _ _ _ some)
  act-stays ticket take_back some = (nothing-made _ _ _ some, refl)
  act-stays ticket (read owner number) some = (refl, refl)

  pub call_stays : (call : Call) → ((call_told dir call room).number ≡ 0 → ⊥)
      → (call_room dir call room ≡ room) × (call_slip dir call room ≡ slip_lent call)
  unfolding call_told call_room call_slip slip_lent open_after write_told write_after
  call_stays (opening seat sums) some = (nothing-made _ _ _ some, refl)
  call_stays (under ticket act) some = act-stays ticket act some
  call_stays (writing slip buffer) some = (refl, nothing_written (can_write slip buffer) _ buffer some)
  call_stays (reading bytes) some = (refl, refl)
