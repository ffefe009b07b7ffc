-- Demand 3 holds of every machine that keeps the laws: the calls that are left lead a seat from its new part to the part that it has,
-- since a take-back gives back the part before the newest step left, and only quiet calls stand between the two.
-- Assumes nothing.
use Rattle.std.specs.Prelude.{Option, Some, None}
use mathlib.Core.Path.{◌≡◌, refl, sym, ap, ◌∙◌}
use mathlib.Core.Bool.{Bool, true, false}
use mathlib.Core.List.{List, [], ◌∷◌, ◌++◌}
use Prim.Native.Nat.{ℕ}
use native.Mathlib.Omega.{arith}
use borrow.Author.Tests.{eqb-true, eq-eqb}
use Rattle.strike.specs.Machine.{Deed, quiet, step, back, fresh, Machine, Laws}
use Rattle.strike.specs.Strike.{Event, after_all, events, is_for, own_events, before_step, struck, left_from, reversed, left, calls_of}
use Rattle.strike.specs.Strike.{Struck, Demand3}

-- these calls of a seat, the newest first, lead its new part to this part; each has its answer there, and none took a step back
data Leads (M : Machine) (k : ℕ) : List (Event M) → M.Part → Type 0 where
  at_first : Leads M k [] (M.part k M.new)
  one_more : {older : List (Event M)} {q : M.Part} (c : M.Call) → Leads M k older q → M.seat_of c ≡ Some k
      → (M.deed c (M.answered c q) ≡ back → ⊥) → Leads M k ((c, M.answered c q) ∷ older) (M.own c q)

no_step : step ≡ back → ⊥
no_step e = let z : ◌≡◌ {A = ℕ} 0 1 = cc in omega arith

no-quiet : quiet ≡ back → ⊥
no-quiet e = let z : ◌≡◌ {A = ℕ} 0 1 = cc in omega arith

no-fresh : fresh ≡ back → ⊥
no-fresh e = let z : ◌≡◌ {A = ℕ} 0 1 = cc in omega arith

-- the test for a call's seat holds of the chosen seat alone
own-seat : (M : Machine) (k : ℕ) (o : Option ℕ) → is_for M k o ≡ true → o ≡ Some k
own-seat M k None e = absurd (let z : ◌≡◌ {A = ℕ} 0 1 = cc in omega arith)
own-seat M k (Some seat) e = ap {B = Option ℕ} Some (eqb-true seat k e)

other-seat : (M : Machine) (k : ℕ) (o : Option ℕ) → is_for M k o ≡ false → o ≡ Some k → ⊥
other-seat M k None e f = let z : ◌≡◌ {A = ℕ} 0 1 = cc in omega arith
other-seat M k (Some seat) e f =
    let same : seat ≡ k = cc in
    let z : ◌≡◌ {A = ℕ} 0 1 = cc (eq-eqb seat k same) in
    omega arith

module _ (M : Machine) (L : Laws M) (k : ℕ) where
  leads-sound : {older : List (Event M)} {p : M.Part} → Leads M k older p → L.Sound k p
  leads-sound at_first = L.new-sound k
  leads-sound (one_more {q = q} c leads for-k kept) = L.keeps-sound c k q (leads-sound leads) for-k

  -- a take-back: what stands in front of the newest step leads to the part that the take-back leaves
  back-leads : {older : List (Event M)} {p : M.Part} → Leads M k older p → (b : M.Call) → M.seat_of b ≡ Some k
      → M.deed b (M.answered b p) ≡ back → Leads M k (before_step M older) (M.own b p)
  unfolding before_step
  back-leads at_first b for-b took = absurd (L.none-in-new b k for-b took)
  back-leads (one_more {older = older} {q = q} c leads for-k kept) b for-b took =
      go (M.deed c (M.answered c q)) refl (λ took. back-leads leads b for-b took)
    where
      go : (d : Deed) → M.deed c (M.answered c q) ≡ d → (M.deed b (M.answered b q) ≡ back → Leads M k (before_step M older) (M.own b q))
          → Leads M k (before_step M ((c, M.answered c q) ∷ older)) (M.own b (M.own c q))
      go quiet e rest =
          let same : M.own c q ≡ q = L.quiet-stays c k q (leads-sound leads) for-k e in
          rw (e, before_step, same) (rest (rw same at took))
      go step e rest =
          rw (e, before_step, L.back-restores c b k q (leads-sound leads) for-k for-b e took) leads
      go back e rest = absurd (kept e)
      go fresh e rest = absurd (L.none-after-fresh c b k q (leads-sound leads) for-k for-b e took)

  -- one call more for the seat
  struck-leads : {older : List (Event M)} {p : M.Part} → Leads M k older p → (c : M.Call) → M.seat_of c ≡ Some k
      → Leads M k (struck M (M.deed c (M.answered c p)) (c, M.answered c p) older) (M.own c p)
  struck-leads {older} {p} leads c for-k = go (M.deed c (M.answered c p)) refl
    where
      go : (d : Deed) → M.deed c (M.answered c p) ≡ d → Leads M k (struck M d (c, M.answered c p) older) (M.own c p)
      go quiet e = one_more c leads for-k (λ f. no-quiet (sym e ∙ f))
      go step e = one_more c leads for-k (λ f. no_step (sym e ∙ f))
      go fresh e = one_more c leads for-k (λ f. no-fresh (sym e ∙ f))
      go back e = back-leads leads c for-k e

  -- any calls more, for any seats
  all-lead : (calls : List M.Call) (r : M.Room) (older : List (Event M)) → L.Fit r → Leads M k older (M.part k r)
      → Leads M k (left_from M older (own_events M k (events M calls r))) (M.part k (after_all M calls r))
  unfolding after_all events own_events left_from
  all-lead [] r older fit leads = leads
  all-lead (c ∷ calls) r older fit leads =
      go (is_for M k (M.seat_of c)) refl (λ (older : List (Event M)). all-lead calls (M.after c r) older (L.keeps-fit c r fit))
    where
      here : M.seat_of c ≡ Some k
          → Leads M k (struck M (M.deed c (M.answer c r)) (c, M.answer c r) older) (M.part k (M.after c r))
      here for-k = rw (L.by-own c k r fit for-k, L.by-answered c k r fit for-k) (struck-leads leads c for-k)

      go : (t : Bool) → is_for M k (M.seat_of c) ≡ t
          → ((older : List (Event M)) → Leads M k older (M.part k (M.after c r))
          → Leads M k (left_from M older (own_events M k (events M calls (M.after c r)))) (M.part k (after_all M calls (M.after c r))))
          → Leads M k (left_from M older (own_events M k (events M (c ∷ calls) r))) (M.part k (after_all M (c ∷ calls) r))
      go true e on = rw e (on (struck M (M.deed c (M.answer c r)) (c, M.answer c r) older) (here (own-seat M k (M.seat_of c) e)))
      go false e on = rw e (on older (rw (L.others-stay c k r fit (other-seat M k (M.seat_of c) e)) leads))

-- running two lists of calls, one after the other
module _ (M : Machine) where
  after-append : (calls more : List M.Call) (r : M.Room) → after_all M (calls ++ more) r ≡ after_all M more (after_all M calls r)
  unfolding after_all
  after-append [] more r = refl
  after-append (c ∷ calls) more r = after-append calls more (M.after c r)

  events-append : (calls more : List M.Call) (r : M.Room)
      → events M (calls ++ more) r ≡ events M calls r ++ events M more (after_all M calls r)
  unfolding after_all events
  events-append [] more r = refl
  events-append (c ∷ calls) more r = rw (events-append calls more (M.after c r))

  calls-append : (es more : List (Event M)) → calls_of M (es ++ more) ≡ calls_of M es ++ calls_of M more
  calls-append [] more = refl
  calls-append (e ∷ es) more = rw (calls-append es more)

  -- every room that calls reach is fit
  pub all_fit : (L : Laws M) (calls : List M.Call) (r : M.Room) → L.Fit r → L.Fit (after_all M calls r)
  unfolding after_all
  all_fit L [] r fit = fit
  all_fit L (c ∷ calls) r fit = all_fit L calls (M.after c r) (L.keeps-fit c r fit)

  one-event : (c : M.Call) (r : M.Room) → events M (c ∷ []) r ≡ (c, M.answer c r) ∷ []
  unfolding events
  one-event c r = refl

  one-after : (c : M.Call) (r : M.Room) → after_all M (c ∷ []) r ≡ M.after c r
  unfolding after_all
  one-after c r = refl

module _ (M : Machine) (L : Laws M) (k : ℕ) where
  -- run from a new room, calls that lead to a part have their answers and give the seat that part
  abbrev Run : List (Event M) → M.Part → Type 0
  Run es p = (events M (calls_of M es) M.new ≡ es) × (M.part k (after_all M (calls_of M es) M.new) ≡ p)

  run_more : (es : List (Event M)) (q : M.Part) (c : M.Call) → M.seat_of c ≡ Some k → Run es q
      → Run (es ++ ((c, M.answered c q) ∷ [])) (M.own c q)
  run_more es q c for-k run =
      let room : M.Room = after_all M (calls_of M es) M.new in
      let fit : L.Fit room = all_fit M L (calls_of M es) M.new L.new-fit in
      let told : M.answer c room ≡ M.answered c q = rw (L.by-answered c k room fit for-k, run.1) in
      let made : M.part k (M.after c room) ≡ M.own c q = rw (L.by-own c k room fit for-k, run.1) in (
        rw (calls-append M es ((c, M.answered c q) ∷ []), events-append M (calls_of M es) (c ∷ []) M.new, run.0, one-event M c room, told),
        rw (calls-append M es ((c, M.answered c q) ∷ []), after-append M (calls_of M es) (c ∷ []) M.new, one-after M c room) made,
      )

  leads-run : {older : List (Event M)} {p : M.Part} → Leads M k older p → Run (reversed M older) p
  unfolding events after_all
  leads-run at_first = (refl, refl)
  leads-run (one_more {older = older} {q = q} c leads for-k kept) = run_more (reversed M older) q c for-k (leads-run leads)

-- what is left of any calls, run from a new room, gives the seat its same part and each call its same answer
pub struck-out : (M : Machine) → Demand3 M
unfolding left
struck-out M L k calls =
    let run = leads-run M L k (all-lead M L k calls M.new [] L.new-fit at_first) in
    record { same-answers = run.0; same_numbers = run.1 }
