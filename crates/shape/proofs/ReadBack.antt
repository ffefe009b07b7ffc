-- What is stored is read back, so that two texts are the same exactly when their numbers are, and zeros are no text.
-- Assumes nothing.
use mathlib.Core.Path.{◌≡◌, refl, sym, ap, subst, ◌∙◌}
use mathlib.Core.Bool.{true, ◌&&◌, false≢true}
use mathlib.Core.List.{List, ◌∷◌, ◌++◌}
use mathlib.Core.Logic.{◌↔◌}
use Prim.Native.Nat.{ℕ, ◌*◌, ◌≤◌, ◌/◌, ◌%◌, ◌^◌}
use native.Mathlib.Omega.{arith}
use lib.Dec.{leb, eqb, lit<}
use lib.ListN.{length, get_or, take}
use borrow.Author.Tests.{leb-true, eqb-true, eq-eqb}
use Rattle.shape.specs.Bytes.{every, is_text, is_digit, is_hex, is_variant}
use Rattle.shape.specs.Patterns.{within, fits, uetr_pattern}
use Rattle.shape.specs.Numbers.{hex_value}
use Rattle.shape.specs.Fields.{identifier_most, is_identifier}
use Rattle.shape.specs.Stored.{stored_bytes, seven_from, identifier_of, all_bytes, identifier_text, same_identifier, before_zero, seven_bytes}
use Rattle.shape.specs.Stored.{four_from, groups, is_uetr, uetr_of, uetr_text, same_uetr, hex_digit}
use Rattle.shape.specs.declared.stored.Identifier.{Identifier}
use Rattle.shape.specs.declared.stored.Uetr.{Uetr}
use Rattle.shape.proofs.Tests.{and_left, and_right}
use Rattle.shape.proofs.Loops.{fits-length}
use Rattle.shape.proofs.Hex.{four-hex, variant-value}
use Rattle.shape.proofs.Places.{bytes_from, bytes_whole, text-small, before-zero, before-short, before-front, fits-at}
use Rattle.shape.proofs.Packing.{seven-back, FourHex, four-fit, half_back, last-group-digit, first-group-digit}

-- an identifier is short, and a text
identifier-parts : (s : List ℕ) → is_identifier s ≡ true → (length s ≤ identifier_most) × (every is_text s ≡ true)
unfolding is_identifier
identifier-parts s e =
    let some = leb 1 (length s) in
    let few = leb (length s) identifier_most in
    let h = and_left (some && few) (every is_text s) e in
    (leb-true (length s) identifier_most (and_right some few h), and_right (some && few) (every is_text s) e)

-- the five numbers hold the bytes at the places 0 to 34
identifier-bytes : (s : List ℕ) → every is_text s ≡ true
    → seven_bytes (seven_from s 0) ++ (seven_bytes (seven_from s stored_bytes) ++ (seven_bytes (seven_from s (2 * stored_bytes))
    ++ (seven_bytes (seven_from s (3 * stored_bytes)) ++ seven_bytes (seven_from s (4 * stored_bytes)))))
    ≡ bytes_from s 0 identifier_most
identifier-bytes s e =
    let h = text-small s e in
    λ i. seven-back s 0 h i ++ (seven-back s stored_bytes h i ++ (seven-back s (2 * stored_bytes) h i
    ++ (seven-back s (3 * stored_bytes) h i ++ seven-back s (4 * stored_bytes) h i)))

-- an identifier read back is the one that was stored
pub identifier-back : (s : List ℕ) → is_identifier s ≡ true → identifier_text (identifier_of s) ≡ s
unfolding identifier_of identifier_text all_bytes
identifier-back s e =
    let p = identifier-parts s e in
    rw e (ap before_zero (identifier-bytes s p.1) ∙ before-zero s identifier_most p.1 p.0)

-- a stored text has at most 35 bytes, and stands in front of the others
pub text-short : (x : Identifier) → length (identifier_text x) ≤ identifier_most
unfolding identifier_text all_bytes
text-short x = before-short (all_bytes x)

pub text-front : (x : Identifier) → take (length (identifier_text x)) (all_bytes x) ≡ identifier_text x
unfolding identifier_text
text-front x = before-front (all_bytes x)

-- the same numbers are the same identifier
same-identifier : (x y : Identifier) → same_identifier x y ≡ true → x ≡ y
unfolding same_identifier
same-identifier x y e =
    let first = eqb x.first y.first in
    let second = eqb x.second y.second in
    let third = eqb x.third y.third in
    let fourth = eqb x.fourth y.fourth in
    let fifth = eqb x.fifth y.fifth in
    let four = and_left (first && second && third && fourth) fifth e in
    let three = and_left (first && second && third) fourth four in
    let two = and_left (first && second) third three in
    λ i. record {
      first = eqb-true x.first y.first (and_left first second two) i;
      second = eqb-true x.second y.second (and_right first second two) i;
      third = eqb-true x.third y.third (and_right (first && second) third three) i;
      fourth = eqb-true x.fourth y.fourth (and_right (first && second && third) fourth four) i;
      fifth = eqb-true x.fifth y.fifth (and_right (first && second && third && fourth) fifth e) i;
    }

-- an identifier is the same as itself
identifier-self : (x : Identifier) → same_identifier x x ≡ true
unfolding same_identifier
identifier-self x =
    rw (eq-eqb x.first x.first refl, eq-eqb x.second x.second refl, eq-eqb x.third x.third refl, eq-eqb x.fourth x.fourth refl, eq-eqb x.fifth x.fifth refl)

-- two identifiers are the same exactly when their numbers are
pub identifier-same : (s t : List ℕ) → is_identifier s ≡ true → is_identifier t ≡ true
    → (same_identifier (identifier_of s) (identifier_of t) ≡ true) ↔ (s ≡ t)
identifier-same s t es et = (
  λ e. sym (identifier-back s es) ∙ ap identifier_text (same-identifier (identifier_of s) (identifier_of t) e) ∙ identifier-back t et,
  λ e. rw e (identifier-self (identifier_of t)),
)

-- zeros are no identifier
pub identifier-not-zeros : (s : List ℕ) → is_identifier s ≡ true → identifier_of s ≡ record { first = 0; second = 0; third = 0; fourth = 0; fifth = 0 } → ⊥
unfolding identifier_text all_bytes is_identifier
identifier-not-zeros s e z =
    false≢true (subst (λ (t : List ℕ). is_identifier t ≡ true) (sym (identifier-back s e) ∙ ap identifier_text z) e)

-- the places of the eight groups hold digits
uetr-hex : (s : List ℕ) → is_uetr s ≡ true → FourHex s 0 × FourHex s 4 × FourHex s 9 × FourHex s 14 × FourHex s 19 × FourHex s 24 × FourHex s 28 × FourHex s 32
unfolding uetr_pattern
uetr-hex s e = (
  four-hex s 0 e refl refl refl refl,
  four-hex s 4 e refl refl refl refl,
  four-hex s 9 e refl refl refl refl,
  four-hex s 14 e refl refl refl refl,
  four-hex s 19 e refl refl refl refl,
  four-hex s 24 e refl refl refl refl,
  four-hex s 28 e refl refl refl refl,
  four-hex s 32 e refl refl refl refl,
)

-- the places between them hold hyphens
uetr-hyphens : (s : List ℕ) → is_uetr s ≡ true → (get_or s 8 0 ≡ 45) × (get_or s 13 0 ≡ 45) × (get_or s 18 0 ≡ 45) × (get_or s 23 0 ≡ 45)
unfolding is_uetr uetr_pattern within
uetr-hyphens s e = (
  eqb-true (get_or s 8 0) 45 (fits-at uetr_pattern s 8 e (lit< tt)),
  eqb-true (get_or s 13 0) 45 (fits-at uetr_pattern s 13 e (lit< tt)),
  eqb-true (get_or s 18 0) 45 (fits-at uetr_pattern s 18 e (lit< tt)),
  eqb-true (get_or s 23 0) 45 (fits-at uetr_pattern s 23 e (lit< tt)),
)

-- a UETR has 36 bytes
uetr-length : (s : List ℕ) → is_uetr s ≡ true → length s ≡ 36
unfolding is_uetr uetr_pattern
uetr-length s e = fits-length uetr_pattern s e

-- the two numbers and the hyphens are the bytes at the places 0 to 35
uetr-bytes : (s : List ℕ) → is_uetr s ≡ true
    → uetr_text (record { high = groups (four_from s 0) (four_from s 4) (four_from s 9) (four_from s 14); low = groups (four_from s 19) (four_from s 24) (four_from s 28) (four_from s 32) })
    ≡ bytes_from s 0 36
unfolding uetr_text
uetr-bytes s e =
    let h = uetr-hex s e in
    let hyphen = uetr-hyphens s e in
    let high = half_back s 0 4 9 14 h.0 h.1 h.2 h.3 in
    let low = half_back s 19 24 28 32 h.4 h.5 h.6 h.7 in
    λ i. high.0 i ++ (high.1 i
    ++ (sym hyphen.0 i ∷ high.2 i
    ++ (sym hyphen.1 i ∷ high.3 i
    ++ (sym hyphen.2 i ∷ low.0 i
    ++ (sym hyphen.3 i ∷ low.1 i ++ (low.2 i ++ low.3 i))))))

-- a UETR read back is the one that was stored
pub uetr-back : (s : List ℕ) → is_uetr s ≡ true → uetr_text (uetr_of s) ≡ s
unfolding uetr_of
uetr-back s e = rw e (uetr-bytes s e ∙ bytes_whole s 36 (uetr-length s e))

-- the digit of the version is 4, that of the variant one of 8, 9, a and b
version-digit : (s : List ℕ) → is_uetr s ≡ true → get_or s 14 0 ≡ 52
unfolding is_uetr uetr_pattern within
version-digit s e = eqb-true (get_or s 14 0) 52 (fits-at uetr_pattern s 14 e (lit< tt))

variant-digit : (s : List ℕ) → is_uetr s ≡ true → is_variant (get_or s 19 0) ≡ true
unfolding is_uetr uetr_pattern within
variant-digit s e = fits-at uetr_pattern s 19 e (lit< tt)

four-worth : hex_value 52 ≡ 4
unfolding hex_value is_digit
four-worth = refl

-- the version's digit is stored as 4
pub stored-version : (s : List ℕ) → is_uetr s ≡ true → (uetr_of s).high / 4096 % 16 ≡ 4
unfolding uetr_of
stored-version s e =
    let h = uetr-hex s e in
    rw e
    (last-group-digit s 14 (four_from s 0) (four_from s 4) (four_from s 9) h.3 ∙ ap hex_value (version-digit s e) ∙ four-worth)

-- the two bits of the variant are stored as 2
pub stored-variant : (s : List ℕ) → is_uetr s ≡ true → (uetr_of s).low / 2 ^ 62 ≡ 2
unfolding uetr_of
stored-variant s e =
    let h = uetr-hex s e in
    let top = first-group-digit s 19 (four_from s 24) (four_from s 28) (four_from s 32) h.4 (four-fit s 24 h.5) (four-fit s 28 h.6) (four-fit s 32 h.7) in
    let v = variant-value (get_or s 19 0) (variant-digit s e) in
    rw e (omega (arith, top, v.0, v.1))

-- the same numbers are the same UETR
same-uetr : (x y : Uetr) → same_uetr x y ≡ true → x ≡ y
unfolding same_uetr
same-uetr x y e =
    let high = eqb x.high y.high in
    let low = eqb x.low y.low in
    λ i. record { high = eqb-true x.high y.high (and_left high low e) i; low = eqb-true x.low y.low (and_right high low e) i }

-- a UETR is the same as itself
uetr-self : (x : Uetr) → same_uetr x x ≡ true
unfolding same_uetr
uetr-self x = rw (eq-eqb x.high x.high refl, eq-eqb x.low x.low refl)

-- two UETRs are the same exactly when their numbers are
pub uetr-same : (s t : List ℕ) → is_uetr s ≡ true → is_uetr t ≡ true → (same_uetr (uetr_of s) (uetr_of t) ≡ true) ↔ (s ≡ t)
uetr-same s t es et = (
  λ e. sym (uetr-back s es) ∙ ap uetr_text (same-uetr (uetr_of s) (uetr_of t) e) ∙ uetr-back t et,
  λ e. rw e (uetr-self (uetr_of t)),
)

-- zeros are no UETR
pub uetr-not-zeros : (s : List ℕ) → is_uetr s ≡ true → uetr_of s ≡ record { high = 0; low = 0 } → ⊥
unfolding uetr_text is_uetr uetr_pattern fits within is_hex is_digit hex_digit
uetr-not-zeros s e z =
    false≢true (subst (λ (t : List ℕ). is_uetr t ≡ true) (sym (uetr-back s e) ∙ ap uetr_text z) e)
