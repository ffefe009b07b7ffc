-- The machine at a place of a sheet: one byte further, or refused there.
-- Assumes nothing.
use mathlib.Core.Path.{◌≡◌, refl, sym, ap, ◌∙◌}
use mathlib.Core.Bool.{Bool, true, false, ◌&&◌}
use mathlib.Core.List.{List, [], ◌∷◌, ◌++◌}
use Prim.Native.Nat.{ℕ, suc, ◌+◌, ◌-◌, ◌≤◌, ◌<◌}
use native.Mathlib.Omega.{arith}
use lib.Dec.{ltb}
use borrow.Author.Tests.{ltb-true, ltb-false}
use lib.ListN.{length, get_or, drop, length-take, length-drop, drop_of_length-le}
use lib.Seq.{drop-cons, take-suc, get_or-take, get_or-drop}
use Rattle.shape.specs.Bytes.{is_text}
use Rattle.sheet.specs.Grammar.{name_most, text_most, is_name_byte}
use Rattle.sheet.specs.Machine.{Mode, outer, begun, naming, attribute, tagged, texting, ending, between, turning, whole, State, step, goes}
use Rattle.sheet.specs.Answer.{Reading, refused, run, ends}
use Rattle.sheet.specs.Parts.{run_at, part_of}
use Rattle.sheet.specs.declared.parts.Refused.{Refused}
use Rattle.std.specs.Prelude.{Result, Err, Option, Some, None}

-- refused at a place
abbrev pub refusal : {A : Type 0} → ℕ → Result A Refused
refusal p = Err (record { place = p })

-- a sheet can end in this mode
abbrev pub is_whole : Mode → Bool
is_whole whole = true
is_whole outer = false
is_whole begun = false
is_whole (naming n) = false
is_whole (attribute p) = false
is_whole (tagged ccy) = false
is_whole (texting k) = false
is_whole (ending r) = false
is_whole between = false
is_whole turning = false

ends-refused : (st : State) (m : Mode) (i : ℕ) → is_whole m ≡ false → ends st m i ≡ refused i
ends-refused st whole i e = absurd (let z : ◌≡◌ {A = ℕ} 0 1 = cc in omega arith)
ends-refused st outer i e = refl
ends-refused st begun i e = refl
ends-refused st (naming n) i e = refl
ends-refused st (attribute p) i e = refl
ends-refused st (tagged ccy) i e = refl
ends-refused st (texting k) i e = refl
ends-refused st (ending r) i e = refl
ends-refused st between i e = refl
ends-refused st turning i e = refl

pub run-some : (st next : State) (i b : ℕ) (t : List ℕ) → step st st.mode i b ≡ Some next → run st i (b ∷ t) ≡ run next (suc i) t
unfolding run
run-some st next i b t e = ap (λ (o : Option State). elim o as (λ x. Reading) [ None ↦ refused i | Some n ↦ run n (suc i) t ]) e

pub run_none : (st : State) (i b : ℕ) (t : List ℕ) → step st st.mode i b ≡ None → run st i (b ∷ t) ≡ refused i
unfolding run
run_none st i b t e = ap (λ (o : Option State). elim o as (λ x. Reading) [ None ↦ refused i | Some n ↦ run n (suc i) t ]) e

module _ (s : List ℕ) (st : State) (i : ℕ) where
  -- the byte is taken
  pub run-go : (next : State) → i < length s → step st st.mode i (get_or s i 0) ≡ Some next → run_at s st i ≡ run_at s next (suc i)
  run-go next h e = rw (drop-cons s i 0 h) (run-some st next i (get_or s i 0) (drop (suc i) s) e)

  -- the sheet has ended
  pub run_end : is_whole st.mode ≡ false → length s ≤ i → run_at s st i ≡ refused i
  unfolding run
  run_end w h = rw (drop_of_length-le s h) (ends-refused st st.mode i w)

  -- the byte is refused, or there is none
  pub run-stop : is_whole st.mode ≡ false → step st st.mode i (get_or s i 0) ≡ None → run_at s st i ≡ refused i
  unfolding run
  run-stop w e = go (ltb i (length s)) refl
    where
      go : (t : Bool) → ltb i (length s) ≡ t → run st i (drop i s) ≡ refused i
      go true h = rw (drop-cons s i 0 (ltb-true i (length s) h)) (run_none st i (get_or s i 0) (drop (suc i) s) e)
      go false h = rw (drop_of_length-le s (ltb-false i (length s) h)) (ends-refused st st.mode i w)

-- two states that take the next byte alike
pub run-same : (s : List ℕ) (a b : State) (i : ℕ) → is_whole a.mode ≡ false → is_whole b.mode ≡ false
    → step a a.mode i (get_or s i 0) ≡ step b b.mode i (get_or s i 0) → run_at s a i ≡ run_at s b i
run-same s a b i wa wb e = go (step b b.mode i (get_or s i 0)) refl (ltb i (length s)) refl
  where
    go : (o : Option State) → step b b.mode i (get_or s i 0) ≡ o → (t : Bool) → ltb i (length s) ≡ t → run_at s a i ≡ run_at s b i
    go o q false h = run_end s a i wa (ltb-false i (length s) h) ∙ sym (run_end s b i wb (ltb-false i (length s) h))
    go None q true h = run-stop s a i wa (e ∙ q) ∙ sym (run-stop s b i wb q)
    go (Some next) q true h = run-go s a i next (ltb-true i (length s) h) (e ∙ q) ∙ sym (run-go s b i next (ltb-true i (length s) h) q)

-- one byte more of a part
pub part-more : (s : List ℕ) (from i : ℕ) → from ≤ i → i < length s → part_of s from (suc i) ≡ part_of s from i ++ (get_or s i 0 ∷ [])
part-more s from i h k =
    let more : suc i - from ≡ suc (i - from) = omega arith in
    let inside : i - from < length (drop from s) = rw (length-drop from s) (omega arith) in
    let at : from + (i - from) ≡ i = omega arith in
    rw (more, take-suc (drop from s) (i - from) 0 inside, get_or-drop from s (i - from) 0, at)

pub part-at : (s : List ℕ) (from to k : ℕ) → k < to - from → get_or (part_of s from to) k 0 ≡ get_or s (from + k) 0
part-at s from to k h = get_or-take (to - from) (drop from s) k 0 h ∙ get_or-drop from s k 0

pub part_length : (s : List ℕ) (from to : ℕ) → to ≤ length s → length (part_of s from to) ≡ to - from
part_length s from to h = simp (length-take, length-drop) (omega arith)

-- a byte of a name, and a byte of a text, is taken
pub name-taken : (st : State) (n : List ℕ) (i b : ℕ) → (is_name_byte b && ltb (length n) name_most) ≡ true → step st (naming n) i b ≡ Some (goes st (naming (n ++ (b ∷ []))))
unfolding step
name-taken st n i b e = rw e

pub text-taken : (st : State) (k i b : ℕ) → (is_text b && ltb k text_most) ≡ true → step st (texting k) i b ≡ Some (goes st (texting (suc k)))
unfolding step
text-taken st k i b e = rw e
