-- Demand 1 holds: each call answers by the table of refusals, whose numbers are all different and not 0, and a refusal makes nothing.
-- Assumes nothing.
use mathlib.Core.Path.{◌≡◌, refl, sym, ap, subst}
use mathlib.Core.Bool.{Bool, true, false, not}
use mathlib.Core.List.{List, [], ◌∷◌}
use Prim.Native.Nat.{ℕ}
use lib.Dec.{eqb}
use lib.ListN.{length}
use borrow.Author.Tests.{eqb-true, eqb-false, eq-eqb, ne_eqb}
use Rattle.message.specs.Message.{Answer}
use Rattle.message.specs.Received.{received_of}
use Rattle.message.specs.Due.{Due}
use Rattle.message.proofs.Due.{answer-due, due-received}
use Rattle.directory.specs.declared.Participant.{Participant}
use Rattle.layout.specs.Seat.{room_long}
use Rattle.centre.specs.Answers.{Told, done, refused, first, is_done}
use Rattle.centre.specs.Calls.{lay_told, lay_after}
use Rattle.centre.proofs.First.{behind-done, behind-refused}
use Rattle.demands.specs.Calls.{Call, call_told, new_room}
use Rattle.demands.specs.Refusals.{sheet_in, Refused, OneDue, LaidOut, Demand1}
use Rattle.demands.proofs.Firsts.{given-exactly, zero-exactly}
use Rattle.demands.proofs.Tables.{got, table_of, table-distinct, call-tells}
use Rattle.demands.proofs.Stays.{call_stays}

-- by what the sheet of the call is received as
by-received : (dir : List Participant) (room : List ℕ) (call : Call) → Refused dir room (got dir room call) call
by-received dir room call =
    let number : ℕ = (call_told dir call room).number in
    let answers = call-tells dir room call in
    record {
      given = given-exactly number (table_of dir room call) (table-distinct dir room call) answers.number;
      done = zero-exactly number (table_of dir room call) (table-distinct dir room call) answers.number;
      gives = answers.gives;
      detail = answers.plain;
      stays = call_stays dir room call;
    }

-- and so by what it is due
all-refused : (dir : List Participant) (room : List ℕ) (call : Call) (received : Answer) → Due (sheet_in call) received
    → Refused dir room received call
all-refused dir room call received due =
    subst (λ (a : Answer). Refused dir room a call) (due-received (sheet_in call) received due) (by-received dir room call)

one-due : (sheet : List ℕ) → OneDue sheet
one-due sheet = record {
  received = (received_of sheet).answer;
  due = answer-due sheet;
  only = λ other due. sym (due-received sheet other due);
}

-- laying out, by whether the length is right
told-wrong : (right : Bool) → first ((not right, refused 1) ∷ []) (done []) ≡ refused 1 → right ≡ false
told-wrong true e = absurd (eqb-false 0 1 refl (ap (λ (t : Told). t.number) e))
told-wrong false e = refl

told-right : (right : Bool) → first ((not right, refused 1) ∷ []) (done []) ≡ done [] → right ≡ true
told-right true e = refl
told-right false e = absurd (eqb-false 1 0 refl (ap (λ (t : Told). t.number) e))

module _ (room : List ℕ) where
  lay-wrong : (length room ≡ room_long → ⊥) → lay_told room ≡ refused 1
  unfolding lay_told
  lay-wrong wrong = rw (ne_eqb (length room) room_long wrong)

  lay-right : length room ≡ room_long → lay_told room ≡ done []
  unfolding lay_told
  lay-right long = rw (eq-eqb (length room) room_long long)

  was-wrong : lay_told room ≡ refused 1 → length room ≡ room_long → ⊥
  unfolding lay_told
  was-wrong e = eqb-false (length room) room_long (told-wrong (eqb (length room) room_long) e)

  was-right : lay_told room ≡ done [] → length room ≡ room_long
  unfolding lay_told
  was-right e = eqb-true (length room) room_long (told-right (eqb (length room) room_long) e)

  laid_out : LaidOut room
  unfolding lay_after is_done
  laid_out = record {
    given = (was-wrong, lay-wrong);
    done = (was-right, lay-right);
    stays = λ wrong. behind-refused (lay_told room) new_room room (ap is_done (lay-wrong wrong));
    left = λ long. behind-done (lay_told room) new_room room (ap is_done (lay-right long));
  }

pub demand1 : Demand1
demand1 = (all-refused, one-due, laid_out)
