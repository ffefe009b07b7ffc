-- What follows in a fixed order, byte after byte: a Ccy, and a closing tag.
-- Assumes nothing.
use mathlib.Core.Path.{◌≡◌, refl, sym, subst, ◌∙◌}
use mathlib.Core.Bool.{Bool, true, false, false≢true}
use mathlib.Core.List.{List, [], ◌∷◌, ◌++◌}
use Prim.Native.Nat.{ℕ, zero, suc, ◌+◌, ◌-◌, ◌≤◌, ◌<◌}
use native.Mathlib.Omega.{arith}
use native.Mathlib.Numerals.{add-one}
use native.Mathlib.Nat.{add-zero, add-suc}
use lib.Dec.{ltb}
use lib.ListN.{length, get_or, drop, length-append, get_or-append, get_or-eq_default}
use lib.Seq.{drop-cons, drop_at}
use borrow.Author.Tests.{eq-eqb, ne_eqb, ltb-true, ltb-false}
use Rattle.shape.specs.Text.{bytes}
use Rattle.shape.specs.Bytes.{is_capital}
use Rattle.sheet.specs.Machine.{State, Mode, attribute, tagged, ending, goes, closes, is_next, step}
use Rattle.sheet.specs.Answer.{refused}
use Rattle.std.specs.Prelude.{Ok, Some, None}
use Rattle.sheet.specs.Parts.{run_at, part_of, AttributeRead, ClosingRead}
use Rattle.sheet.proofs.Ends.{inside as in-sheet}
use Rattle.sheet.proofs.Runs.{refusal, run-go, run-stop, run_end, part-at, part_length}

-- the state with so much of the Ccy, or of a closing tag, still to follow
abbrev pub with_ccy : State → List ℕ → State
with_ccy st [] = goes st (tagged true)
with_ccy st (c ∷ p) = goes st (attribute (c ∷ p))

abbrev pub with_end : State → List ℕ → State
with_end st [] = closes st
with_end st (c ∷ r) = goes st (ending (c ∷ r))

ccy-taken : (st : State) (m : Mode) (c : ℕ) (p : List ℕ) (i b : ℕ) → is_next c b ≡ true → step (goes st m) (attribute (c ∷ p)) i b ≡ Some (with_ccy st p)
unfolding step
ccy-taken st m c [] i b e = rw e
ccy-taken st m c (d ∷ p) i b e = rw e

ccy-refused : (st : State) (c : ℕ) (p : List ℕ) (i b : ℕ) → is_next c b ≡ false → step st (attribute (c ∷ p)) i b ≡ None
unfolding step
ccy-refused st c [] i b e = rw e
ccy-refused st c (d ∷ p) i b e = rw e

end-taken : (st : State) (m : Mode) (c : ℕ) (r : List ℕ) (i b : ℕ) → b ≡ c → step (goes st m) (ending (c ∷ r)) i b ≡ Some (with_end st r)
unfolding step
end-taken st m c [] i b e = rw (eq-eqb b c e)
end-taken st m c (d ∷ r) i b e = rw (eq-eqb b c e)

end_refused : (st : State) (c : ℕ) (r : List ℕ) (i b : ℕ) → (b ≡ c → ⊥) → step st (ending (c ∷ r)) i b ≡ None
unfolding step
end_refused st c [] i b e = rw (ne_eqb b c e)
end_refused st c (d ∷ r) i b e = rw (ne_eqb b c e)

module _ (s : List ℕ) (i : ℕ) (c : ℕ) (p : List ℕ) where
  pub ccy-goes : (st : State) → i < length s → is_next c (get_or s i 0) ≡ true → run_at s (with_ccy st (c ∷ p)) i ≡ run_at s (with_ccy st p) (suc i)
  ccy-goes st h e = run-go s (goes st (attribute (c ∷ p))) i (with_ccy st p) h (ccy-taken st (attribute (c ∷ p)) c p i (get_or s i 0) e)

  pub ccy-stops : (st : State) → is_next c (get_or s i 0) ≡ false → run_at s (with_ccy st (c ∷ p)) i ≡ refused i
  ccy-stops st e = run-stop s (goes st (attribute (c ∷ p))) i refl (ccy-refused (goes st (attribute (c ∷ p))) c p i (get_or s i 0) e)

  pub end_goes : (st : State) → i < length s → get_or s i 0 ≡ c → run_at s (with_end st (c ∷ p)) i ≡ run_at s (with_end st p) (suc i)
  end_goes st h e = run-go s (goes st (ending (c ∷ p))) i (with_end st p) h (end-taken st (ending (c ∷ p)) c p i (get_or s i 0) e)

  pub end-stops : (st : State) → (get_or s i 0 ≡ c → ⊥) → run_at s (with_end st (c ∷ p)) i ≡ refused i
  end-stops st e = run-stop s (goes st (ending (c ∷ p))) i refl (end_refused (goes st (ending (c ∷ p))) c p i (get_or s i 0) e)

-- the Ccy of a tag: the places from `from` on hold the first k bytes of it
abbrev pub ccy_pattern : List ℕ
ccy_pattern = bytes "Ccy=\"^^^\">"

abbrev pub CcyTo : List ℕ → ℕ → ℕ → Type 0
CcyTo s from k = (st : State) → run_at s (with_ccy st ccy_pattern) from ≡ run_at s (with_ccy st (drop k ccy_pattern)) (from + k)

-- each byte of a Ccy is in its place
module _ (s : List ℕ) (from k : ℕ) (so_far : CcyTo s from k) (h : k < 10) where
  left : drop k ccy_pattern ≡ get_or ccy_pattern k 0 ∷ drop (suc k) ccy_pattern
  left = drop-cons ccy_pattern k 0 h

  pub ccy-turn : from + k < length s → is_next (get_or ccy_pattern k 0) (get_or s (from + k) 0) ≡ true → CcyTo s from (k + 1)
  ccy-turn l e st =
      rw (add-one k, add-suc from k)
      (so_far st ∙ rw left (ccy-goes s (from + k) (get_or ccy_pattern k 0) (drop (suc k) ccy_pattern) st l e))

  pub ccy-wrong : is_next (get_or ccy_pattern k 0) (get_or s (from + k) 0) ≡ false → AttributeRead s from (refusal (from + k))
  ccy-wrong e = record { comes = λ st. so_far st ∙ rw left (ccy-stops s (from + k) (get_or ccy_pattern k 0) (drop (suc k) ccy_pattern) st e) }

-- none of it is the 0 that stands past a sheet's end
no-zero : (k : ℕ) → k < 10 → is_next (get_or ccy_pattern k 0) 0 ≡ false
unfolding is_capital
no-zero zero h = refl
no-zero (suc zero) h = refl
no-zero (suc (suc zero)) h = refl
no-zero (suc (suc (suc zero))) h = refl
no-zero (suc (suc (suc (suc zero)))) h = refl
no-zero (suc (suc (suc (suc (suc zero))))) h = refl
no-zero (suc (suc (suc (suc (suc (suc zero)))))) h = refl
no-zero (suc (suc (suc (suc (suc (suc (suc zero))))))) h = refl
no-zero (suc (suc (suc (suc (suc (suc (suc (suc zero)))))))) h = refl
no-zero (suc (suc (suc (suc (suc (suc (suc (suc (suc zero))))))))) h = refl
no-zero (suc (suc (suc (suc (suc (suc (suc (suc (suc (suc k)))))))))) h = absurd (omega arith)

pub ccy-inside : (s : List ℕ) (from k : ℕ) → k < 10 → is_next (get_or ccy_pattern k 0) (get_or s (from + k) 0) ≡ true → from + k < length s
ccy-inside s from k h e = go (ltb (from + k) (length s)) refl
  where
    go : (t : Bool) → ltb (from + k) (length s) ≡ t → from + k < length s
    go true q = ltb-true (from + k) (length s) q
    go false q =
        absurd (false≢true (sym (no-zero k h) ∙ rw (get_or-eq_default s 0 (ltb-false (from + k) (length s) q)) at e))

pub ccy-begins : (s : List ℕ) (from : ℕ) → CcyTo s from 0
ccy-begins s from st = rw (add-zero from)

pub ccy-done : (s : List ℕ) (from k : ℕ) → CcyTo s from k → k ≡ 10 → from + k ≤ length s → AttributeRead s from (Ok (from + 10))
ccy-done s from k so_far e h = record {
  comes = λ st. (subst (λ (n : ℕ). run_at s (with_ccy st ccy_pattern) from ≡ run_at s (with_ccy st (drop n ccy_pattern)) (from + n)) e (so_far st), omega arith, subst (λ (n : ℕ). from + n ≤ length s) e h);
}

-- what is left of a closing tag at its k-th byte
end_at : (s : List ℕ) (from to k : ℕ) → to ≤ length s → k < to - from
    → drop k (part_of s from to ++ bytes ">") ≡ get_or s (from + k) 0 ∷ drop (suc k) (part_of s from to ++ bytes ">")
end_at s from to k h l =
    let long : length (part_of s from to ++ bytes ">") ≡ to - from + 1 = rw (length-append (part_of s from to) (bytes ">"), part_length s from to h) in
    drop-cons (part_of s from to ++ bytes ">") k 0 (omega arith)
    ∙ rw (get_or-append (part_of s from to) (bytes ">") 0 k (rw (part_length s from to h) l), part-at s from to k l)

end_last : (s : List ℕ) (from to n : ℕ) → to ≤ length s → n ≡ to - from → drop n (part_of s from to ++ bytes ">") ≡ bytes ">"
end_last s from to n h e = drop_at (part_of s from to) (bytes ">") n (part_length s from to h ∙ sym e)

-- the places from `at` on hold the first k bytes of the name
abbrev pub EndTo : List ℕ → ℕ → ℕ → ℕ → ℕ → Type 0
EndTo s at from to k =
    (st : State) → run_at s (goes st (ending (part_of s from to ++ bytes ">"))) at ≡ run_at s (with_end st (drop k (part_of s from to ++ bytes ">"))) (at + k)

end-not-empty : (st : State) (r : List ℕ) → 0 < length r → with_end st r ≡ goes st (ending r)
end-not-empty st [] h = absurd (omega arith)
end-not-empty st (c ∷ r) h = refl

-- each byte of a closing tag is in its place
module _ (s : List ℕ) (at from to : ℕ) (inside : to ≤ length s) where
  pub end-begins : EndTo s at from to 0
  end-begins st =
      let long : length (part_of s from to ++ bytes ">") ≡ to - from + 1 = rw (length-append (part_of s from to) (bytes ">"), part_length s from to inside) in
      rw (add-zero at, end-not-empty st (part_of s from to ++ bytes ">") (omega arith))

  module _ (k : ℕ) (so_far : EndTo s at from to k) where
    pub end-turn : k < to - from → at + k < length s → get_or s (at + k) 0 ≡ get_or s (from + k) 0 → EndTo s at from to (k + 1)
    end-turn l h e st =
        rw (add-one k, add-suc at k)
        (so_far st ∙ rw (end_at s from to k inside l) (end_goes s (at + k) (get_or s (from + k) 0) (drop (suc k) (part_of s from to ++ bytes ">")) st h e))

    pub end-wrong : k < to - from → (get_or s (at + k) 0 ≡ get_or s (from + k) 0 → ⊥) → ClosingRead s at from to (refusal (at + k))
    end-wrong l e = record {
      comes = λ st. so_far st ∙ rw (end_at s from to k inside l) (end-stops s (at + k) (get_or s (from + k) 0) (drop (suc k) (part_of s from to ++ bytes ">")) st e);
    }

    pub end-cut : k < to - from → length s ≤ at + k → ClosingRead s at from to (refusal (at + k))
    end-cut l h = record {
      comes = λ st. so_far st ∙ rw (end_at s from to k inside l) (run_end s (goes st (ending (get_or s (from + k) 0 ∷ drop (suc k) (part_of s from to ++ bytes ">")))) (at + k) refl h);
    }

  module _ (n k : ℕ) (e : n ≡ to - from) (last : k ≡ n) (so_far : EndTo s at from to k) where
    at_last : EndTo s at from to n
    at_last = subst (EndTo s at from to) last so_far

    pub end-done : get_or s (at + n) 0 ≡ 62 → ClosingRead s at from to (Ok (at + n + 1))
    end-done b =
        let h = in-sheet s (at + n) 61 b in
        record {
          comes = λ st. (
            rw (add-one (at + n)) (at_last st ∙ rw (end_last s from to n inside e) (end_goes s (at + n) 62 [] st h b)),
            omega arith,
            omega arith,
          );
        }

    pub end-open : (get_or s (at + n) 0 ≡ 62 → ⊥) → ClosingRead s at from to (refusal (at + n))
    end-open b = record { comes = λ st. at_last st ∙ rw (end_last s from to n inside e) (end-stops s (at + n) 62 [] st b) }
