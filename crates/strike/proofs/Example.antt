-- A machine that keeps the laws: two seats that hold lists of numbers. Of nine calls on both, what is left of each seat is computed.
-- Assumes nothing.
use Rattle.std.specs.Prelude.{Option, Some, None}
use mathlib.Core.Path.{◌≡◌, refl, subst}
use mathlib.Core.List.{List, [], ◌∷◌}
use Prim.Native.Nat.{ℕ, zero, suc}
use native.Mathlib.Omega.{arith}
use Rattle.strike.specs.Machine.{Deed, quiet, step, back, fresh, Machine, Laws}
use Rattle.strike.specs.Strike.{events, own_events, before_step, left_from, left, Struck}
use Rattle.strike.proofs.Struck.{struck-out}

pub data Act : Type 0 where
  add : ℕ → Act
  take_back : Act
  look : Act
  clear : Act

pub data Call : Type 0 where
  at0 : Act → Call
  at1 : Act → Call

abbrev act_of : Call → Act
act_of (at0 a) = a
act_of (at1 a) = a

abbrev seat : Call → ℕ
seat (at0 a) = 0
seat (at1 a) = 1

abbrev newest : List ℕ → Option ℕ
newest [] = None
newest (n ∷ p) = Some n

abbrev made : Act → List ℕ → List ℕ
made (add n) p = n ∷ p
made take_back [] = []
made take_back (n ∷ p) = p
made look p = p
made clear p = []

abbrev told : Act → List ℕ → Option ℕ
told (add n) p = None
told take_back p = newest p
told look p = newest p
told clear p = None

abbrev deed_of : Act → Option ℕ → Deed
deed_of (add n) a = step
deed_of take_back None = quiet
deed_of take_back (Some n) = back
deed_of look a = quiet
deed_of clear a = fresh

abbrev part_of : ℕ → List ℕ × List ℕ → List ℕ
part_of zero r = r.0
part_of (suc zero) r = r.1
part_of (suc (suc k)) r = []

abbrev behind : Call → List ℕ × List ℕ → List ℕ × List ℕ
behind (at0 a) r = (made a r.0, r.1)
behind (at1 a) r = (r.0, made a r.1)

abbrev pub machine : Machine
machine =
    record {
      Room = List ℕ × List ℕ;
      Call = Call;
      Answer = Option ℕ;
      Part = List ℕ;
      new = ([], []);
      seat_of = λ c. Some (seat c);
      after = behind;
      answer = λ c r. told (act_of c) (part_of (seat c) r);
      part = part_of;
      own = λ c p. made (act_of c) p;
      answered = λ c p. told (act_of c) p;
      deed = λ c a. deed_of (act_of c) a;
    }

own-part : (c : Call) (r : List ℕ × List ℕ) → part_of (seat c) (behind c r) ≡ made (act_of c) (part_of (seat c) r)
own-part (at0 a) r = refl
own-part (at1 a) r = refl

other-part : (c : Call) (k : ℕ) (r : List ℕ × List ℕ) → (Some (seat c) ≡ Some k → ⊥) → part_of k (behind c r) ≡ part_of k r
other-part (at0 a) zero r ne = absurd (ne refl)
other-part (at0 a) (suc zero) r ne = refl
other-part (at0 a) (suc (suc k)) r ne = refl
other-part (at1 a) zero r ne = refl
other-part (at1 a) (suc zero) r ne = absurd (ne refl)
other-part (at1 a) (suc (suc k)) r ne = refl

quiet_same : (a : Act) (p : List ℕ) → deed_of a (told a p) ≡ quiet → made a p ≡ p
quiet_same (add n) p e = cc
quiet_same take_back [] e = refl
quiet_same take_back (n ∷ p) e = cc
quiet_same look p e = refl
quiet_same clear p e = cc

step-adds : (a : Act) (p : List ℕ) → deed_of a (told a p) ≡ step → (n : ℕ) × (made a p ≡ n ∷ p)
step-adds (add n) p e = (n, refl)
step-adds take_back [] e = (0, cc)
step-adds take_back (n ∷ p) e = (0, cc)
step-adds look p e = (0, cc)
step-adds clear p e = (0, cc)

fresh-empties : (a : Act) (p : List ℕ) → deed_of a (told a p) ≡ fresh → made a p ≡ []
fresh-empties (add n) p e = cc
fresh-empties take_back [] e = refl
fresh-empties take_back (n ∷ p) e = cc
fresh-empties look p e = cc
fresh-empties clear p e = refl

back-drops : (a : Act) (p : List ℕ) → deed_of a (told a p) ≡ back → (n : ℕ) × (p ≡ n ∷ made a p)
back-drops (add n) p e = (0, cc)
back-drops take_back [] e = (0, cc)
back-drops take_back (n ∷ p) e = (n, refl)
back-drops look p e = (0, cc)
back-drops clear p e = (0, cc)

none_in_empty : (a : Act) (p : List ℕ) → p ≡ [] → deed_of a (told a p) ≡ back → ⊥
none_in_empty a p q e =
    let d : (n : ℕ) × (p ≡ n ∷ made a p) = back-drops a p e in
    let z : ◌≡◌ {A = ℕ} 0 1 = cc in
    omega arith

step-and-back : (a b : Act) (p : List ℕ) → deed_of a (told a p) ≡ step → deed_of b (told b (made a p)) ≡ back → made b (made a p) ≡ p
step-and-back a b p e f =
    let s : (n : ℕ) × (made a p ≡ n ∷ p) = step-adds a p e in
    let d : (n : ℕ) × (made a p ≡ n ∷ made b (made a p)) = back-drops b (made a p) f in
    cc

same-seat : (c : Call) (k : ℕ) → ◌≡◌ {A = Option ℕ} (Some (seat c)) (Some k) → seat c ≡ k
same-seat c k e = cc

pub laws : Laws machine
laws =
    record {
      Fit = λ r. Unit {0};
      new-fit = tt;
      keeps-fit = λ c r fit. tt;
      by-own = λ c k r fit e. subst (λ (n : ℕ). part_of n (behind c r) ≡ made (act_of c) (part_of n r)) (same-seat c k e) (own-part c r);
      by-answered = λ c k r fit e. subst (λ (n : ℕ). told (act_of c) (part_of (seat c) r) ≡ told (act_of c) (part_of n r)) (same-seat c k e) refl;
      others-stay = λ c k r fit ne. other-part c k r ne;
      Sound = λ k p. Unit {0};
      new-sound = λ k. tt;
      keeps-sound = λ c k p sound e. tt;
      quiet-stays = λ c k p sound e d. quiet_same (act_of c) p d;
      back-restores = λ c b k p sound e f d g. step-and-back (act_of c) (act_of b) p d g;
      none-in-new = λ b k e d. none_in_empty (act_of b) (part_of k ([], [])) (empty k) d;
      none-after-fresh = λ c b k p sound e f d g. none_in_empty (act_of b) (made (act_of c) p) (fresh-empties (act_of c) p d) g;
    }
  where
    empty : (k : ℕ) → part_of k ([], []) ≡ []
    empty zero = refl
    empty (suc zero) = refl
    empty (suc (suc k)) = refl

-- 7 is put in, looked at and taken back, in seat 0; in seat 1 a 9 is taken back, and then there is nothing to take back
abbrev pub nine : List Call
nine =
    at0 (add 5) ∷ at1 (add 9) ∷ at0 look ∷ at0 (add 7) ∷ at1 take_back ∷ at0 look ∷ at0 take_back ∷ at1 take_back ∷ at0 (add 8) ∷ []

pub left-of-seat-0 : left machine 0 (events machine nine ([], [])) ≡ (at0 (add 5), None) ∷ (at0 look, Some 5) ∷ (at0 (add 8), None) ∷ []
unfolding left left_from before_step own_events events
left-of-seat-0 = refl

pub left-of-seat-1 : left machine 1 (events machine nine ([], [])) ≡ (at1 take_back, None) ∷ []
unfolding left left_from before_step own_events events
left-of-seat-1 = refl

pub nine-struck : (k : ℕ) → Struck machine k nine
nine-struck k = struck-out machine laws k nine
