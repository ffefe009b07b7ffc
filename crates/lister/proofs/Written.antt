-- What was written piece by piece is what was written at once, and from the beginning on it is the front of the buffer.
-- Assumes nothing.
use mathlib.Core.Path.{◌≡◌, refl, sym, ap, ◌∙◌}
use mathlib.Core.List.{List, [], ◌∷◌, ◌++◌, append_assoc, append-nil}
use Prim.Native.Nat.{ℕ, suc, ◌+◌, ◌≤◌, ◌<◌}
use native.Mathlib.Omega.{arith}
use native.Mathlib.Numerals.{add-one}
use lib.ListN.{length, take, drop, set, length-append}
use lib.Seq.{set_out, set_at, take-nil}
use borrow.Author.Tests.{lt-ltb, le-ltb}
use Rattle.lister.specs.Writing.{behind, written, written_to, Wrote}

-- piece after piece
written-append : (out : List ℕ) (n : ℕ) (v w : List ℕ) → written out n (v ++ w) ≡ written (written out n v) (written_to out n v) w
unfolding written written_to
written-append out n [] w = refl
written-append out n (b ∷ v) w = written-append (set out n b) (behind out n) v w

written_to-append : (out : List ℕ) (n : ℕ) (v w : List ℕ) → written_to out n (v ++ w) ≡ written_to (written out n v) (written_to out n v) w
unfolding written written_to
written_to-append out n [] w = refl
written_to-append out n (b ∷ v) w = written_to-append (set out n b) (behind out n) v w

pub wrote_nothing : (out : List ℕ) (n : ℕ) → Wrote out n [] out n
unfolding written written_to
wrote_nothing out n = record { buffer = refl; place = refl }

pub wrote_then : {out : List ℕ} {n : ℕ} {v w mid : List ℕ} {at : ℕ} {left : List ℕ} {to : ℕ} → Wrote out n v mid at → Wrote mid at w left to → Wrote out n (v ++ w) left to
wrote_then {out} {n} {v} {w} {mid} {at} {left} {to} a b = record {
  buffer = b.buffer ∙ rw (a.buffer, a.place) (sym (written-append out n v w));
  place = b.place ∙ rw (a.buffer, a.place) (sym (written_to-append out n v w));
}

-- the same bytes under another name
pub wrote_as : {out : List ℕ} {n : ℕ} {v w left : List ℕ} {to : ℕ} → Wrote out n v left to → v ≡ w → Wrote out n w left to
wrote_as a e = record { buffer = a.buffer ∙ rw e; place = a.place ∙ rw e }

-- one byte, where there is room and where there is none
pub wrote-byte : (out : List ℕ) (n b : ℕ) → n < length out → Wrote out n (b ∷ []) (set out n b) (n + 1)
unfolding written written_to
wrote-byte out n b h = record { buffer = refl; place = rw (lt-ltb n (length out) h) (add-one n) }

pub wrote-no-byte : (out : List ℕ) (n b : ℕ) → length out ≤ n → Wrote out n (b ∷ []) out n
unfolding written written_to
wrote-no-byte out n b h = record { buffer = sym (set_out out n b h); place = rw (le-ltb n (length out) h) }

-- of w₀ from n₀ on, w is still to be written from n on
pub record Still (out₀ : List ℕ) (n₀ : ℕ) (w₀ : List ℕ) (out : List ℕ) (n : ℕ) (w : List ℕ) : Type 0 where
  pub buffer : written out₀ n₀ w₀ ≡ written out n w
  pub place : written_to out₀ n₀ w₀ ≡ written_to out n w

pub still-all : (out : List ℕ) (n : ℕ) (w : List ℕ) → Still out n w out n w
still-all out n w = record { buffer = refl; place = refl }

pub still-less : {out₀ : List ℕ} {n₀ : ℕ} {w₀ out : List ℕ} {n : ℕ} {u v w left : List ℕ} {to : ℕ} → Still out₀ n₀ w₀ out n u → u ≡ v ++ w → Wrote out n v left to → Still out₀ n₀ w₀ left to w
still-less {out₀} {n₀} {w₀} {out} {n} {u} {v} {w} {left} {to} k e a = record {
  buffer = k.buffer ∙ rw (e, a.buffer, a.place) (written-append out n v w);
  place = k.place ∙ rw (e, a.buffer, a.place) (written_to-append out n v w);
}

pub still-nothing : {out₀ : List ℕ} {n₀ : ℕ} {w₀ out : List ℕ} {n : ℕ} {u : List ℕ} → Still out₀ n₀ w₀ out n u → u ≡ [] → Wrote out₀ n₀ w₀ out n
unfolding written written_to
still-nothing {out₀} {n₀} {w₀} {out} {n} k e = record {
  buffer = sym (k.buffer ∙ ap (λ (x : List ℕ). written out n x) e);
  place = sym (k.place ∙ ap (λ (x : List ℕ). written_to out n x) e);
}

-- a front p grows by a byte
module _ (b : ℕ) where
  snoc : (p q : List ℕ) → (p ++ (b ∷ [])) ++ q ≡ p ++ (b ∷ q)
  snoc p q = append_assoc p (b ∷ []) q

  longer : (p : List ℕ) (n : ℕ) → length p ≡ n → length (p ++ (b ∷ [])) ≡ suc n
  longer p n e = length-append p (b ∷ []) ∙ omega arith

-- a full buffer stays as it is
written-full : (p : List ℕ) (n : ℕ) → length p ≡ n → (w : List ℕ) → written p n w ≡ p
unfolding written
written-full p n e [] = refl
written-full p n e (b ∷ w) = let h : length p ≤ n = omega arith in rw (le-ltb n (length p) h, set_out p n b h) (written-full p n e w)

written_to-full : (p : List ℕ) (n : ℕ) → length p ≡ n → (w : List ℕ) → written_to p n w ≡ n
unfolding written_to
written_to-full p n e [] = refl
written_to-full p n e (b ∷ w) = let h : length p ≤ n = omega arith in rw (le-ltb n (length p) h, set_out p n b h) (written_to-full p n e w)

-- behind a front p the bytes take the place of q, as far as q reaches
written_behind : (p q : List ℕ) (n : ℕ) → length p ≡ n → (w : List ℕ) → written (p ++ q) n w ≡ p ++ (take (length q) w ++ drop (length w) q)
unfolding written
written_behind p q n e [] = rw take-nil
written_behind p [] n e (b ∷ w) = rw (append-nil p) (written-full p n e (b ∷ w))
written_behind p (a ∷ q) n e (b ∷ w) =
    let h : n < length (p ++ (a ∷ q)) = omega (arith, length-append p (a ∷ q)) in
    rw (lt-ltb n (length (p ++ (a ∷ q))) h, set_at p a q b n e, ← snoc b p q) (written_behind (p ++ (b ∷ [])) q (suc n) (longer b p n e) w ∙ snoc b p (take (length q) w ++ drop (length w) q))

written_to-behind : (p q : List ℕ) (n : ℕ) → length p ≡ n → (w : List ℕ) → written_to (p ++ q) n w ≡ n + length (take (length q) w)
unfolding written_to
written_to-behind p q n e [] = rw (take-nil (length q)) (omega arith)
written_to-behind p [] n e (b ∷ w) = rw (append-nil p) (written_to-full p n e (b ∷ w) ∙ omega arith)
written_to-behind p (a ∷ q) n e (b ∷ w) =
    let h : n < length (p ++ (a ∷ q)) = omega (arith, length-append p (a ∷ q)) in
    rw (lt-ltb n (length (p ++ (a ∷ q))) h, set_at p a q b n e, ← snoc b p q) (written_to-behind (p ++ (b ∷ [])) q (suc n) (longer b p n e) w ∙ omega arith)

-- what was written from the beginning on
pub wrote-all : {out : List ℕ} {w left : List ℕ} {to : ℕ} → Wrote out 0 w left to → (to ≡ length (take (length out) w)) × (left ≡ take (length out) w ++ drop (length w) out)
wrote-all {out} {w} a = (a.place ∙ written_to-behind [] out 0 refl w ∙ omega arith, a.buffer ∙ written_behind [] out 0 refl w)
