-- The answer to a well-formed sheet is the one that document 01 asks for, and no second answer is.
-- Assumes nothing.
use Rattle.std.specs.Prelude.{Option, Some, None, Err}
use mathlib.Core.Path.{◌≡◌, refl, sym, ap, subst, ◌∙◌}
use mathlib.Core.Bool.{Bool, true, false, ◌&&◌, cond, false≢true}
use mathlib.Core.List.{List, [], ◌∷◌, map}
use Prim.Native.Nat.{ℕ, zero, suc, ◌+◌, ◌≤◌, ◌<◌}
use native.Mathlib.Omega.{arith}
use lib.Dec.{ltb}
use lib.ListN.{length, get_or}
use borrow.Author.Tests.{ltb-true, ltb-false, ne_eqb}
use Rattle.outline.specs.Rows.{Row}
use Rattle.outline.specs.Paths.{standing}
use Rattle.table.specs.declared.Kind.{Kind}
use Rattle.message.specs.declared.Refusal.TheVariants.{BadField}
use Rattle.message.specs.Fields.{Field, no_field, fields_of}
use Rattle.message.specs.Held.{Held, held_in, kind_of, held_of}
use Rattle.message.specs.Good.{goes_with, first_bad}
use Rattle.message.specs.Message.{Answer}
use Rattle.message.specs.Received.{judged, received_in, received_as}
use Rattle.message.specs.Lowest.{fine, Bad, Told, unknown, bad, good}

module _ (rows : List Row) (kind : Kind) where
  -- a field is fine by itself, and goes with the others by its number
  abbrev passes : Field → ℕ → Bool
  passes f number = fine rows f && goes_with kind number (held_of kind rows)

  -- the first of the fields, numbered from k + 1 on, that is bad; or that none is
  data Looked (fields : List Field) (k : ℕ) : ℕ → Type 0 where
    none-bad : ((j : ℕ) → j < length fields → passes (get_or fields j no_field) (suc (k + j)) ≡ true) → Looked fields k 0
    first-bad : (i : ℕ) → i < length fields → passes (get_or fields i no_field) (suc (k + i)) ≡ false
        → ((j : ℕ) → j < i → passes (get_or fields j no_field) (suc (k + j)) ≡ true) → Looked fields k (suc (k + i))

  -- a number may be written in another way
  moved-number : (f : Field) (m n : ℕ) (t : Bool) → m ≡ n → passes f m ≡ t → passes f n ≡ t
  moved-number f m n t same e = subst (λ (x : ℕ). passes f x ≡ t) same e

  one_more : (f : Field) (fields : List Field) (k j : ℕ) → passes f (suc k) ≡ true
      → ((i : ℕ) → j ≡ suc i → passes (get_or fields i no_field) (suc (suc k + i)) ≡ true) → passes (get_or (f ∷ fields) j no_field) (suc (k + j)) ≡ true
  one_more f fields k zero e rest = moved-number f (suc k) (suc (k + 0)) true (omega arith) e
  one_more f fields k (suc j) e rest =
      moved-number (get_or fields j no_field) (suc (suc k + j)) (suc (k + suc j)) true (omega arith) (rest j refl)

  looked-behind : (f : Field) (fields : List Field) (k n : ℕ) → passes f (suc k) ≡ true → Looked fields (suc k) n → Looked (f ∷ fields) k n
  looked-behind f fields k n e (none-bad all) = none-bad (λ j h. one_more f fields k j e (λ i same. all i (omega arith)))
  looked-behind f fields k n e (first-bad i h b before) =
      let same : suc (k + suc i) ≡ suc (suc k + i) = omega arith in
      let here = moved-number (get_or fields i no_field) (suc (suc k + i)) (suc (k + suc i)) false (omega arith) b in
      subst (λ (x : ℕ). Looked (f ∷ fields) k x) same
      (first-bad (suc i) (omega arith) here (λ j l. one_more f fields k j e (λ m same_place. before m (omega arith))))

  looked-here : (f : Field) (fields : List Field) (k : ℕ) → passes f (suc k) ≡ false → Looked (f ∷ fields) k (suc k)
  looked-here f fields k e =
      let same : suc (k + 0) ≡ suc k = omega arith in
      subst (λ (x : ℕ). Looked (f ∷ fields) k x) same
      (first-bad 0 (omega arith) (moved-number f (suc k) (suc (k + 0)) false (omega arith) e) (λ j l. absurd (omega arith)))

  abbrev held : List Field → List Held
  held fields = map (λ (f : Field). held_in (standing f.path rows)) fields

  abbrev goes : ℕ → Bool
  goes number = goes_with kind number (held_of kind rows)

  looked : (fields : List Field) (k : ℕ) → Looked fields k (first_bad goes (suc k) fields (held fields))
  unfolding first_bad
  looked [] k = none-bad (λ j h. absurd (omega arith))
  looked (f ∷ fields) k = go (passes f (suc k)) refl (looked fields (suc k))
    where
      go : (t : Bool) → passes f (suc k) ≡ t → Looked fields (suc k) (first_bad goes (suc (suc k)) fields (held fields))
          → Looked (f ∷ fields) k (cond t (first_bad goes (suc (suc k)) fields (held fields)) (suc k))
      go true e rest = looked-behind f fields k (first_bad goes (suc (suc k)) fields (held fields)) e rest
      go false e rest = looked-here f fields k e

  -- so of a kind that is known
  module _ (known : kind_of rows ≡ Some kind) where
    by_number : (i : ℕ) → (judged kind (held_of kind rows) (suc (0 + i))).answer ≡ Err (BadField (suc i))
    by_number i =
        let same : suc (0 + i) ≡ suc i = omega arith in
        rw (same, ne_eqb (suc i) 0 (λ e. omega arith))

    -- what holds of the number from 0 on holds of the field's number
    from_zero : (i : ℕ) (t : Bool) → passes (get_or (fields_of kind) i no_field) (suc (0 + i)) ≡ t → passes (get_or (fields_of kind) i no_field) (suc i) ≡ t
    from_zero i t e = moved-number (get_or (fields_of kind) i no_field) (suc (0 + i)) (suc i) t (omega arith) e

    of-looked : (n : ℕ) → Looked (fields_of kind) 0 n → Told rows (judged kind (held_of kind rows) n).answer
    of-looked n (none-bad all) = good kind known (λ j b. false≢true (sym b.faulty ∙ from_zero j true (all j b.numbered)))
    of-looked n (first-bad i h b before) =
        let here : Bad kind rows i = record { numbered = h; faulty = from_zero i false b } in
        let told-bad : Told rows (Err (BadField (suc i))) = bad kind i known here (λ j c. lowest j c (ltb j i) refl) in
        subst (λ (a : Answer). Told rows a) (sym (by_number i)) told-bad
      where
        lowest : (j : ℕ) → Bad kind rows j → (t : Bool) → ltb j i ≡ t → i ≤ j
        lowest j c true e = absurd (false≢true (sym c.faulty ∙ from_zero j true (before j (ltb-true j i e))))
        lowest j c false e = ltb-false j i e

    of-kind : Told rows (received_in kind (held_of kind rows)).answer
    unfolding received_in held_of
    of-kind = of-looked (first_bad goes 1 (fields_of kind) (held (fields_of kind))) (looked (fields_of kind) 0)

module _ (rows : List Row) where
  of-body : (b : Option Kind) → kind_of rows ≡ b → Told rows (received_as b rows).answer
  unfolding received_as
  of-body None e = unknown e
  of-body (Some kind) e = of-kind rows kind e

  -- the answer of the definition is the one that is asked for
  pub told : Told rows (received_as (kind_of rows) rows).answer
  told = of-body (kind_of rows) refl

  kinds-same : (x y : Kind) → kind_of rows ≡ Some x → kind_of rows ≡ Some y → x ≡ y
  kinds-same x y e f = ap kind-in (sym e ∙ f)
    where
      kind-in : Option Kind → Kind
      kind-in (Some kind) = kind
      kind-in None = x

  is_known : Option Kind → Bool
  is_known (Some kind) = true
  is_known None = false

  never : {A : Type 0} (kind : Kind) → kind_of rows ≡ None → kind_of rows ≡ Some kind → A
  unfolding is_known
  never kind e f = absurd (false≢true (ap is_known (sym e ∙ f)))

  moved : (x y : Kind) (i : ℕ) → kind_of rows ≡ Some x → kind_of rows ≡ Some y → Bad y rows i → Bad x rows i
  moved x y i e f b = subst (λ (k : Kind). Bad k rows i) (kinds-same y x f e) b

  -- and there is no second one
  pub told-only : (a b : Answer) → Told rows a → Told rows b → a ≡ b
  told-only a b (unknown e) (unknown f) = refl
  told-only a b (unknown e) (bad y j f c low) = never y e f
  told-only a b (unknown e) (good y f none) = never y e f
  told-only a b (bad x i e c low) (unknown f) = never x f e
  told-only a b (bad x i e c low) (bad y j f d least) =
      let same : i ≡ j = omega (arith, low j (moved x y j e f d), least i (moved y x i f e c)) in
      rw same
  told-only a b (bad x i e c low) (good y f none) = absurd (none i (moved y x i f e c))
  told-only a b (good x e none) (unknown f) = never x f e
  told-only a b (good x e none) (bad y j f d least) = absurd (none j (moved x y j e f d))
  told-only a b (good x e none) (good y f no_second) = rw (kinds-same x y e f)
