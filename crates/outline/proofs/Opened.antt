-- Where an opening tag stands, its name and its Ccy are read, and its content is found behind it.
-- Assumes nothing.
use Rattle.std.specs.Prelude.{Option, Some, None}
use mathlib.Core.Path.{◌≡◌, refl, ◌∙◌}
use mathlib.Core.Bool.{true, false}
use mathlib.Core.List.{List, [], ◌∷◌, ◌++◌, append_assoc}
use Prim.Native.Nat.{ℕ, suc, ◌+◌}
use native.Mathlib.Numerals.{add-one}
use native.Mathlib.Omega.{arith}
use lib.Dec.{eqb}
use lib.ListN.{length, drop, length-append}
use lib.Seq.{take_at}
use Rattle.shape.specs.Text.{bytes}
use Rattle.shape.specs.Bytes.{every, is_digit, is_capital, is_small, is_letter}
use Rattle.sheet.specs.Grammar.{opening, is_name_byte, is_name, is_ccy}
use Rattle.outline.specs.Rows.{name_at, name_end, has_ccy, ccy_at, inside_at}
use Rattle.outline.proofs.Standing.{stands-behind, byte-there, while-stops}
use Rattle.outline.proofs.GoodParts.{name-bytes, ccy-three}

-- what is read of a tag at place a: its name, its Ccy, and where what it holds begins
pub record Opens (s : List ℕ) (a : ℕ) (name : List ℕ) (ccy : Option (List ℕ)) (rest : List ℕ) : Type 0 where
  pub named : name_at s a ≡ name
  pub with-ccy : ccy_at s a ≡ ccy
  pub behind : inside_at s a ≡ a + length (opening name ccy)
  pub holds : drop (inside_at s a) s ≡ rest

-- a name ends where a byte stands that is none of a name's
module _ (s : List ℕ) (a : ℕ) (name : List ℕ) (b : ℕ) (rest : List ℕ) (good : every is_name_byte name ≡ true) (stop : is_name_byte b ≡ false)
    (stands : drop a s ≡ 60 ∷ (name ++ (b ∷ rest))) where
  name-stands : drop (suc a) s ≡ name ++ (b ∷ rest)
  name-stands = rw (← add-one a) (stands-behind s (60 ∷ []) (name ++ (b ∷ rest)) a stands)

  pub name-read : name_at s a ≡ name
  unfolding name_at
  name-read = rw name-stands (while-stops is_name_byte name b rest good stop)

  pub behind-name : drop (name_end s a) s ≡ b ∷ rest
  unfolding name_end
  behind-name = rw name-read (stands-behind s name (b ∷ rest) (suc a) name-stands)

  pub blank-told : has_ccy s a ≡ eqb b 32
  unfolding has_ccy
  blank-told = rw (byte-there s (name_end s a), behind-name)

-- neither `>` nor a blank is a byte of a name
right-no-name : is_name_byte 62 ≡ false
unfolding is_name_byte is_letter is_capital is_small is_digit
right-no-name = refl

blank-no-name : is_name_byte 32 ≡ false
unfolding is_name_byte is_letter is_capital is_small is_digit
blank-no-name = refl

-- a tag without a Ccy
opens-without-ccy : (s : List ℕ) (a : ℕ) (name rest : List ℕ) → is_name name ≡ true → drop a s ≡ opening name None ++ rest → Opens s a name None rest
unfolding ccy_at inside_at name_end
opens-without-ccy s a name rest g e =
    let good = name-bytes name g in
    let stands : drop a s ≡ 60 ∷ (name ++ (62 ∷ rest)) = e ∙ simp append_assoc in
    let named : name_at s a ≡ name = name-read s a name 62 rest good right-no-name stands in
    let no-blank : has_ccy s a ≡ false = blank-told s a name 62 rest good right-no-name stands in
    record {
      named = named;
      with-ccy = rw no-blank;
      behind = rw (no-blank, named) (omega (arith, length-append name (62 ∷ [])));
      holds = rw no-blank (stands-behind s (62 ∷ []) rest (name_end s a) (behind-name s a name 62 rest good right-no-name stands));
    }

-- a tag with a Ccy
opens-with-ccy : (s : List ℕ) (a : ℕ) (name ccy rest : List ℕ) → is_name name ≡ true → is_ccy (Some ccy) ≡ true
    → drop a s ≡ opening name (Some ccy) ++ rest → Opens s a name (Some ccy) rest
unfolding ccy_at inside_at name_end
opens-with-ccy s a name ccy rest g k e =
    let good = name-bytes name g in
    let back : List ℕ = bytes "\">" ++ rest in
    let tail : List ℕ = bytes "Ccy=\"" ++ (ccy ++ back) in
    let stands : drop a s ≡ 60 ∷ (name ++ (32 ∷ tail)) = e ∙ simp append_assoc in
    let named : name_at s a ≡ name = name-read s a name 32 tail good blank-no-name stands in
    let blank : has_ccy s a ≡ true = blank-told s a name 32 tail good blank-no-name stands in
    let from-blank : drop (name_end s a) s ≡ 32 ∷ tail = behind-name s a name 32 tail good blank-no-name stands in
    let from-ccy : drop (name_end s a + 6) s ≡ ccy ++ back = stands-behind s (bytes " Ccy=\"") (ccy ++ back) (name_end s a) from-blank in
    let from-quote : drop (name_end s a + 6 + 3) s ≡ back = rw (← ccy-three ccy k) (stands-behind s ccy back (name_end s a + 6) from-ccy) in
    let eleven : name_end s a + 11 ≡ name_end s a + 6 + 3 + 2 = omega arith in
    record {
      named = named;
      behind = rw (blank, named)
          (omega (arith, length-append name (32 ∷ 67 ∷ 99 ∷ 121 ∷ 61 ∷ 34 ∷ (ccy ++ (34 ∷ 62 ∷ []))), length-append ccy (34 ∷ 62 ∷ []), ccy-three ccy k));
      with-ccy = rw (blank, from-ccy, take_at ccy back 3 (ccy-three ccy k));
      holds = rw (blank, eleven) (stands-behind s (bytes "\">") rest (name_end s a + 6 + 3) from-quote);
    }

-- what an opening tag says is read where it stands
pub opening-read : (s : List ℕ) (a : ℕ) (name : List ℕ) (ccy : Option (List ℕ)) (rest : List ℕ) → is_name name ≡ true → is_ccy ccy ≡ true
    → drop a s ≡ opening name ccy ++ rest → Opens s a name ccy rest
opening-read s a name None rest g k e = opens-without-ccy s a name rest g e
opening-read s a name (Some ccy) rest g k e = opens-with-ccy s a name ccy rest g k e
