-- Case 11 has more steps than any other, and each call works a whole journal forward. So the rooms between its calls are named: a set that is done
-- leaves what it made, whatever the room is, and only that each of the 24 is done has to be worked out. That is done eight at a time.
-- Assumes nothing.
use mathlib.Core.List.{List, [], ◌∷◌, ◌++◌, map}
use mathlib.Core.Path.{◌≡◌, refl, ap, ◌∙◌}
use Prim.Native.Nat.{ℕ, zero, suc}
use lib.ListN.{replicate}
use Rattle.directory.specs.Directory.{found_from, found}
use Rattle.layout.specs.Seat.{seat_of, with_seat}
use Rattle.strike.specs.Strike.{events}
use Rattle.centre.specs.Answers.{Told, done, refused, is_done, behind}
use Rattle.centre.specs.Calls.{set_in, set_told, set_after}
use Rattle.demands.specs.Calls.{Call, under, take_back, act_told, call_told, act_room, call_room, act_slip, call_slip, new_room}
use Rattle.demands.specs.Seats.{Answer, answer_of}
use Rattle.cases.specs.Cases.{
  directory,
  begin,
  started,
  ticket,
  moves,
  wish,
  sets,
  as_opened,
  values,
  refusal,
  unslipped,
  accepted,
  Case,
  answers_from,
  played,
  case11,
}
use Rattle.cases.proofs.Opened.{opened}

-- a set that changes nothing, and what it makes of a room
abbrev idle : Call
idle = sets 0 as_opened

made : List ℕ → List ℕ
made room = with_seat room 3 (set_in 0 (wish 0 as_opened) (seat_of room 3))

behind-idle : (room : List ℕ) (calls : List Call) → call_told directory idle room ≡ done []
    → answers_from directory room (idle ∷ calls) ≡ values [] ∷ answers_from directory (made room) calls
unfolding made events answer_of call_told act_told call_slip act_slip call_room act_room set_told set_after behind is_done found found_from
behind-idle room calls h = rw h

-- what n of them are told, one behind the other, and the room behind them
abbrev idles_told : ℕ → List ℕ → List Told
idles_told zero room = []
idles_told (suc n) room = call_told directory idle room ∷ idles_told n (made room)

abbrev room_behind : ℕ → List ℕ → List ℕ
room_behind zero room = room
room_behind (suc n) room = room_behind n (made room)

behind-idles : (n : ℕ) (room : List ℕ) (calls : List Call) → idles_told n room ≡ replicate n (done [])
    → answers_from directory room (replicate n idle ++ calls) ≡ replicate n (values []) ++ answers_from directory (room_behind n room) calls
behind-idles zero room calls h = refl
behind-idles (suc n) room calls h =
    let first : call_told directory idle room ≡ done [] = cc in
    let others : idles_told n (made room) ≡ replicate n (done []) = cc in
    behind-idle room (replicate n idle ++ calls) first
    ∙ ap (λ (answers : List Answer). values [] ∷ answers) (behind-idles n (made room) calls others)

eight-more : (room : List ℕ) (calls : List Call) (answers : List Answer) → idles_told 8 room ≡ replicate 8 (done [])
    → answers_from directory (room_behind 8 room) calls ≡ answers → answers_from directory room (replicate 8 idle ++ calls) ≡ replicate 8 (values []) ++ answers
eight-more room calls answers h k = behind-idles 8 room calls h ∙ ap (λ (later : List Answer). replicate 8 (values []) ++ later) k

-- the rooms with seat 3 opened and 0, 8, 16 and 24 steps in it
abbrev room8 : List ℕ
room8 = room_behind 8 started

abbrev room16 : List ℕ
room16 = room_behind 8 room8

abbrev room24 : List ℕ
room24 = room_behind 8 room16

behind-opening : (calls : List Call) → answers_from directory new_room (begin ∷ calls) ≡ values (1 ∷ []) ∷ answers_from directory started calls
unfolding opened
behind-opening calls = refl

done-8 : idles_told 8 started ≡ replicate 8 (done [])
unfolding opened made
done-8 = refl

done-16 : idles_told 8 room8 ≡ replicate 8 (done [])
unfolding opened made
done-16 = refl

done-24 : idles_told 8 room16 ≡ replicate 8 (done [])
unfolding opened made
done-24 = refl

-- the calls of the case behind its 24 steps
abbrev last : List Call
last = idle ∷ moves "1" "1.00" ∷ under ticket take_back ∷ moves "1" "1.00" ∷ []

abbrev last_answers : List Answer
last_answers = refusal 9 ∷ unslipped (refused 9) ∷ values [] ∷ accepted 24 ∷ []

when-full : answers_from directory room24 last ≡ last_answers
unfolding opened made
when-full = refl

pub filled : map played case11 ≡ map (λ (case : Case). case.answers) case11
filled =
    ap (λ (answers : List Answer). answers ∷ [])
    (behind-opening (replicate 24 idle ++ last)
    ∙ ap (λ (later : List Answer). values (1 ∷ []) ∷ later)
    (eight-more started (replicate 16 idle ++ last) (replicate 16 (values []) ++ last_answers) done-8
    (eight-more room8 (replicate 8 idle ++ last) (replicate 8 (values []) ++ last_answers) done-16
    (eight-more room16 last last_answers done-24 when-full))))
