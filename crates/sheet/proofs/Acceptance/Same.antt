-- Two tags that are written the same are the same, whatever stands behind each.
-- Assumes nothing.
use Rattle.std.specs.Prelude.{Option, Some, None}
use mathlib.Core.Path.{◌≡◌, refl, ap}
use mathlib.Core.Bool.{true, false, false≢true}
use mathlib.Core.List.{List, [], ◌∷◌, ◌++◌, append_assoc}
use Prim.Native.Nat.{ℕ, zero, suc}
use Prim.Native.Char.{code}
use native.Mathlib.Omega.{arith}
use lib.ListN.{replicate}
use Rattle.shape.specs.Text.{bytes}
use Rattle.shape.specs.Bytes.{every, is_digit, is_letter, is_capital, is_small}
use Rattle.shape.specs.Patterns.{fits, within, currency_pattern}
use Rattle.shape.proofs.Tests.{and_left, and_right, or_left}
use Rattle.sheet.specs.Grammar.{opening, closing, is_name_byte, is_name, is_ccy}
use Rattle.sheet.proofs.Acceptance.Parts.{name-letter, name-bytes, name-not-empty}
use Rattle.sheet.proofs.Acceptance.Split.{splits-same}

-- every byte of a name is a name byte
name-all-bytes : (n : List ℕ) → is_name n ≡ true → every is_name_byte n ≡ true
unfolding is_name_byte
name-all-bytes [] g = absurd (name-not-empty g)
name-all-bytes (b ∷ w) g = rw (or_left (is_letter b) (is_digit b) (name-letter b w g)) (name-bytes b w g)

-- neither the end of a tag nor a blank is a name byte
end-no-name : is_name_byte (code ">") ≡ false
unfolding is_name_byte is_letter is_capital is_small is_digit
end-no-name = refl

blank-no-name : is_name_byte (code " ") ≡ false
unfolding is_name_byte is_letter is_capital is_small is_digit
blank-no-name = refl

-- a quote is no capital
quote-no-capital : is_capital (code "\"") ≡ false
unfolding is_capital
quote-no-capital = refl

-- a text that fits a row of capitals is all capitals
row-all-capitals : (k : ℕ) (s : List ℕ) → fits (replicate k (code "^")) s ≡ true → every is_capital s ≡ true
unfolding fits within
row-all-capitals zero [] g = refl
row-all-capitals zero (b ∷ s) g = absurd (false≢true g)
row-all-capitals (suc k) [] g = absurd (false≢true g)
row-all-capitals (suc k) (b ∷ s) g =
    rw (and_left (is_capital b) (fits (replicate k (code "^")) s) g) (row-all-capitals k s (and_right (is_capital b) (fits (replicate k (code "^")) s) g))

ccy-all-capitals : (ccy : List ℕ) → is_ccy (Some ccy) ≡ true → every is_capital ccy ≡ true
unfolding is_ccy currency_pattern
ccy-all-capitals ccy g = row-all-capitals 3 ccy g

-- what stands behind a name in an opening tag
abbrev behind_name : Option (List ℕ) → List ℕ → List ℕ
behind_name None s = code ">" ∷ s
behind_name (Some ccy) s = bytes " Ccy=\"" ++ (ccy ++ (bytes "\">" ++ s))

-- a tag and what stands behind it, part by part
opening-written : (n : List ℕ) (c : Option (List ℕ)) (s : List ℕ) → opening n c ++ s ≡ code "<" ∷ (n ++ behind_name c s)
opening-written n None s = simp append_assoc
opening-written n (Some ccy) s = simp append_assoc

closing-written : (n : List ℕ) (s : List ℕ) → closing n ++ s ≡ bytes "</" ++ (n ++ (code ">" ∷ s))
closing-written n s = simp append_assoc

-- two opening tags have the same name and the same Ccy, and the same stands behind them
pub record SameOpening (n m : List ℕ) (c d : Option (List ℕ)) (s t : List ℕ) : Type 0 where
  pub name : n ≡ m
  pub ccy : c ≡ d
  pub after : s ≡ t

-- names end at their first byte that is no name byte; it also tells whether a Ccy follows
behind-name : (n m : List ℕ) (c d : Option (List ℕ)) (s t : List ℕ) → every is_name_byte n ≡ true → every is_name_byte m ≡ true
    → is_ccy c ≡ true → is_ccy d ≡ true → n ++ behind_name c s ≡ m ++ behind_name d t → SameOpening n m c d s t
behind-name n m None None s t g h k l e =
    let r = splits-same is_name_byte n m 62 62 s t g h end-no-name end-no-name e in
    record { name = r.before; ccy = refl; after = r.after }
behind-name n m None (Some v) s t g h k l e =
    let r = splits-same is_name_byte n m 62 32 s (bytes "Ccy=\"" ++ (v ++ (bytes "\">" ++ t))) g h end-no-name blank-no-name e in
    absurd (omega (arith, r.byte))
behind-name n m (Some u) None s t g h k l e =
    let r = splits-same is_name_byte n m 32 62 (bytes "Ccy=\"" ++ (u ++ (bytes "\">" ++ s))) t g h blank-no-name end-no-name e in
    absurd (omega (arith, r.byte))
behind-name n m (Some u) (Some v) s t g h k l e =
    let r = splits-same is_name_byte n m 32 32 (bytes "Ccy=\"" ++ (u ++ (bytes "\">" ++ s))) (bytes "Ccy=\"" ++ (v ++ (bytes "\">" ++ t))) g h blank-no-name blank-no-name e in
    let q = splits-same is_capital u v 34 34 (62 ∷ s) (62 ∷ t) (ccy-all-capitals u k) (ccy-all-capitals v l) quote-no-capital quote-no-capital (cc r.after) in
    record { name = r.before; ccy = ap Some q.before; after = cc q.after }

-- two opening tags that are written the same
pub same-opening : (n m : List ℕ) (c d : Option (List ℕ)) (s t : List ℕ) → is_name n ≡ true → is_name m ≡ true → is_ccy c ≡ true → is_ccy d ≡ true
    → opening n c ++ s ≡ opening m d ++ t → SameOpening n m c d s t
same-opening n m c d s t g h k l e =
    behind-name n m c d s t (name-all-bytes n g) (name-all-bytes m h) k l
    (cc (e, opening-written n c s, opening-written m d t))

-- behind two closing tags that are written the same stands the same
pub same-behind-closing : (n m s t : List ℕ) → is_name n ≡ true → is_name m ≡ true → closing n ++ s ≡ closing m ++ t → s ≡ t
same-behind-closing n m s t g h e =
    (splits-same is_name_byte n m 62 62 s t (name-all-bytes n g) (name-all-bytes m h) end-no-name end-no-name
    (cc (e, closing-written n s, closing-written m t))).after
