-- Fields of bits, the most significant first: joined into one number, and cut out of one. A field is its width and its value.
-- Slips, stored identifiers and stored UETRs are all made so; the laws are proved once, over the width (`proofs/Bits.antt`).
use Rattle.std.specs.Prelude.{List, [], ◌∷◌, ℕ, ◌+◌, ◌*◌, ◌/◌, ◌%◌, ◌^◌}

-- the bits of n and after them those of the fields
abbrev pub joined : ℕ → List (ℕ × ℕ) → ℕ
joined n [] = n
joined n (f ∷ fs) = joined (n * 2 ^ f.0 + f.1) fs

-- the bits that fields of these widths take
abbrev pub total : List ℕ → ℕ
total [] = 0
total (w ∷ ws) = w + total ws

-- the last bits of n as fields of these widths
abbrev pub cut : List ℕ → ℕ → List (ℕ × ℕ)
cut [] n = []
cut (w ∷ ws) n = (w, n / 2 ^ total ws % 2 ^ w) ∷ cut ws n
