-- When the numbers of an identifier are what its text is stored as: nothing stands above their seven bytes, nor behind the text.
-- Assumes nothing.
use mathlib.Core.Path.{◌≡◌, refl, sym, ◌∙◌}
use mathlib.Core.Bool.{Bool, true, false, ◌&&◌, cond}
use mathlib.Core.List.{List, [], ◌∷◌}
use Prim.Native.Nat.{ℕ, zero, suc, ◌+◌, ◌<◌, ◌^◌}
use native.Mathlib.Omega.{arith}
use lib.Dec.{leb, eqb}
use lib.ListN.{length, get_or, drop, replicate}
use borrow.Author.Tests.{leb-true, eqb-true, eq-eqb}
use Rattle.shape.specs.Bits.{joined}
use Rattle.shape.specs.Bytes.{every}
use Rattle.shape.specs.Fields.{is_identifier}
use Rattle.shape.specs.Stored.{seven_from, identifier_of, same_identifier, before_zero, all_bytes, identifier_text}
use Rattle.shape.specs.declared.stored.Identifier.{Identifier}
use Rattle.shape.proofs.Bits.{joined-cut}
use Rattle.shape.proofs.Tests.{and_left, and_right}
use Rattle.journal.specs.Steps.{seven_most, is_stored}

abbrev pub is_zero : ℕ → Bool
is_zero b = eqb b 0

-- zeros have a zero at every place
zeros-at : (s : List ℕ) (k : ℕ) → every is_zero s ≡ true → get_or s k 0 ≡ 0
zeros-at [] k e = refl
zeros-at (b ∷ s) zero e = eqb-true b 0 (and_left (is_zero b) (every is_zero s) e)
zeros-at (b ∷ s) (suc k) e = zeros-at s k (and_right (is_zero b) (every is_zero s) e)

-- with zeros alone behind it, what comes before the first zero has the same number at every place
before_same : (s : List ℕ) (k : ℕ) → every is_zero (drop (length (before_zero s)) s) ≡ true → get_or (before_zero s) k 0 ≡ get_or s k 0
before_same [] k e = refl
before_same (b ∷ s) k e = go (eqb b 0) (λ k e. before_same s k e) k e
  where
    go : (t : Bool) → ((k : ℕ) → every is_zero (drop (length (before_zero s)) s) ≡ true → get_or (before_zero s) k 0 ≡ get_or s k 0)
        → (k : ℕ) → every is_zero (drop (length (cond t [] (b ∷ before_zero s))) (b ∷ s)) ≡ true
        → get_or (cond t [] (b ∷ before_zero s)) k 0 ≡ get_or (b ∷ s) k 0
    go true rest k e = sym (zeros-at (b ∷ s) k e)
    go false rest zero e = refl
    go false rest (suc k) e = rest k e

-- the same numbers at every place are stored the same
seven-same : (s t : List ℕ) → ((k : ℕ) → get_or s k 0 ≡ get_or t k 0) → (i : ℕ) → seven_from s i ≡ seven_from t i
unfolding seven_from
seven-same s t g i =
    λ j. joined 0
    ((8, g (i + 0) j) ∷ (8, g (i + 1) j) ∷ (8, g (i + 2) j) ∷ (8, g (i + 3) j) ∷ (8, g (i + 4) j) ∷ (8, g (i + 5) j) ∷ (8, g (i + 6) j) ∷ [])

-- a number of seven bytes is what its bytes are stored as
module _ (x : Identifier) where
  seven-first : x.first < 2 ^ 56 → seven_from (all_bytes x) 0 ≡ x.first
  unfolding seven_from all_bytes
  seven-first h = joined-cut (replicate 7 8) x.first h

  seven-second : x.second < 2 ^ 56 → seven_from (all_bytes x) 7 ≡ x.second
  unfolding seven_from all_bytes
  seven-second h = joined-cut (replicate 7 8) x.second h

  seven-third : x.third < 2 ^ 56 → seven_from (all_bytes x) 14 ≡ x.third
  unfolding seven_from all_bytes
  seven-third h = joined-cut (replicate 7 8) x.third h

  seven-fourth : x.fourth < 2 ^ 56 → seven_from (all_bytes x) 21 ≡ x.fourth
  unfolding seven_from all_bytes
  seven-fourth h = joined-cut (replicate 7 8) x.fourth h

  seven-fifth : x.fifth < 2 ^ 56 → seven_from (all_bytes x) 28 ≡ x.fifth
  unfolding seven_from all_bytes
  seven-fifth h = joined-cut (replicate 7 8) x.fifth h

  -- where nothing stands above seven bytes nor behind the text, these very numbers are stored
  module _
      (e : is_identifier (identifier_text x) ≡ true)
      (low : (leb x.first seven_most && leb x.second seven_most && leb x.third seven_most && leb x.fourth seven_most
      && leb x.fifth seven_most) ≡ true)
      (empty : every is_zero (drop (length (identifier_text x)) (all_bytes x)) ≡ true)
    where
      at : (i n : ℕ) → seven_from (all_bytes x) i ≡ n → seven_from (identifier_text x) i ≡ n
      unfolding identifier_text
      at i n h = seven-same (identifier_text x) (all_bytes x) (λ k. before_same (all_bytes x) k empty) i ∙ h

      lows : (x.first < 2 ^ 56) × (x.second < 2 ^ 56) × (x.third < 2 ^ 56) × (x.fourth < 2 ^ 56) × (x.fifth < 2 ^ 56)
      lows =
          let first = leb x.first seven_most in
          let second = leb x.second seven_most in
          let third = leb x.third seven_most in
          let fourth = leb x.fourth seven_most in
          let fifth = leb x.fifth seven_most in
          let four = and_left (first && second && third && fourth) fifth low in
          let three = and_left (first && second && third) fourth four in
          let two = and_left (first && second) third three in (
            omega (arith, leb-true x.first seven_most (and_left first second two)),
            omega (arith, leb-true x.second seven_most (and_right first second two)),
            omega (arith, leb-true x.third seven_most (and_right (first && second) third three)),
            omega (arith, leb-true x.fourth seven_most (and_right (first && second && third) fourth four)),
            omega (arith, leb-true x.fifth seven_most (and_right (first && second && third && fourth) fifth low)),
          )

      kept : identifier_of (identifier_text x) ≡ x
      unfolding identifier_of
      kept =
          rw e
          (λ j. record {
            first = at 0 x.first (seven-first lows.0) j;
            second = at 7 x.second (seven-second lows.1) j;
            third = at 14 x.third (seven-third lows.2) j;
            fourth = at 21 x.fourth (seven-fourth lows.3) j;
            fifth = at 28 x.fifth (seven-fifth lows.4) j;
          })

      pub stored-kept : is_stored x ≡ true
      unfolding is_stored same_identifier
      stored-kept =
          rw (e, kept, eq-eqb x.first x.first refl, eq-eqb x.second x.second refl, eq-eqb x.third x.third refl, eq-eqb x.fourth x.fourth refl, eq-eqb x.fifth x.fifth refl)

-- where the text is none, nothing is stored
pub not-stored : (x : Identifier) → is_identifier (identifier_text x) ≡ false → is_stored x ≡ false
unfolding is_stored
not-stored x e = rw e

-- where it is one, these numbers are stored exactly where they are the text's
pub stored-else : (x : Identifier) → is_identifier (identifier_text x) ≡ true → is_stored x ≡ same_identifier (identifier_of (identifier_text x)) x
unfolding is_stored
stored-else x e = rw e
