-- From the survey to the answer: refused by the sheet's place, unknown, or judged by its kind.
-- Assumes nothing.
use Rattle.std.specs.Prelude.{Option, Some, None, Ok, Err}
use mathlib.Core.Path.{◌≡◌, refl, sym, ap}
use mathlib.Core.List.{List}
use Prim.Native.Nat.{ℕ}
use Rattle.sheet.specs.Answer.{Reading, accepted, refused, reading_of}
use Rattle.outline.specs.Rows.{rows_of}
use Rattle.paths.specs.Survey.{seen_in, standing_of, survey_of}
use Rattle.sheet.specs.declared.parts.Refused.{Refused}
use Rattle.sheet.proofs.Descent.{not-read}
use Rattle.paths.specs.declared.Standing.{Standing}
use Rattle.table.specs.declared.Kind.{Kind}
use Rattle.message.specs.declared.Refusal.TheVariants.{IllFormed, BadField}
use Rattle.message.specs.declared.Received.{Received}
use Rattle.message.specs.Received.{refusal, received_in, received_as, received_from, received_of}
use Rattle.message.specs.Seen.{held_seen, kind_seen}
use Rattle.message.proofs.OfRows.{held-seen, kind-seen}

-- the answer by the kind that was seen
abbrev by_kind : List ℕ → Standing → Option Kind → Received
by_kind s seen None = refusal (BadField 0)
by_kind s seen (Some kind) = received_in kind (held_seen s kind seen.counts seen.starts)

kind-judged : (s : List ℕ) (n : ℕ) (starts depths : List ℕ) (body : Option Kind)
    → received_as body (rows_of s n starts depths) ≡ by_kind s (seen_in s n starts depths) body
unfolding received_as
kind-judged s n starts depths None = refl
kind-judged s n starts depths (Some kind) = ap (received_in kind) (held-seen s n starts depths kind)

-- a sheet that is refused
ill-formed : (s : List ℕ) (r : Reading) (reason : Refused) → standing_of s r ≡ Err reason → refusal (IllFormed reason.place) ≡ received_from s r
unfolding received_from standing_of
ill-formed s (refused k) reason e = let same : reason ≡ record { place = k } = cc in ap (λ (x : Refused). refusal (IllFormed x.place)) same
ill-formed s (accepted n starts depths) reason e = absurd (not-read (sym e))

-- and one that is read
well-formed : (s : List ℕ) (r : Reading) (seen : Standing) → standing_of s r ≡ Ok seen → (body : Option Kind) → body ≡ kind_seen seen.bodies seen.counts
    → by_kind s seen body ≡ received_from s r
unfolding received_from standing_of
well-formed s (refused k) seen e body b = absurd (not-read e)
well-formed s (accepted n starts depths) seen e body b =
    let same : seen ≡ seen_in s n starts depths = cc in
    let seen-there = seen_in s n starts depths in
    rw (kind-seen s n starts depths, kind-judged s n starts depths (kind_seen seen-there.bodies seen-there.counts), ← same, ← b)

module _ (s : List ℕ) where
  pub refused-received : (reason : Refused) → Err reason ≡ survey_of s → refusal (IllFormed reason.place) ≡ received_of s
  unfolding survey_of received_of
  refused-received reason e = ill-formed s (reading_of s) reason (sym e)

  module _ (seen : Standing) (e : Ok seen ≡ survey_of s) where
    -- a message that is unknown, and one of a kind
    pub unknown-received : None ≡ kind_seen seen.bodies seen.counts → refusal (BadField 0) ≡ received_of s
    unfolding survey_of received_of
    unknown-received b = well-formed s (reading_of s) seen (sym e) None b

    pub known-received : (kind : Kind) → Some kind ≡ kind_seen seen.bodies seen.counts
        → received_in kind (held_seen s kind seen.counts seen.starts) ≡ received_of s
    unfolding survey_of received_of
    known-received kind b = well-formed s (reading_of s) seen (sym e) (Some kind) b
