-- Writing and reading a slip, which know refusal 11 alone: document 01, "Calls and refusals" and "The slip".
use Rattle.std.specs.Prelude.{Bool, not, List, [], ◌∷◌, ℕ}
use Rattle.slip.specs.declared.Slip.{Slip}
use Rattle.slip.specs.Image.{slip_of}
use Rattle.slip.specs.Answers.{can_write, holds_slip}
use Rattle.centre.specs.Answers.{Told, done, refused, first, slip_values}

-- 11, writing: fields that no slip has, or a buffer that is shorter than a slip
abbrev pub write_bad : Slip → List ℕ → Bool
write_bad slip buffer = not (can_write slip buffer)

unfoldable pub write_told : Slip → List ℕ → Told
write_told slip buffer = first ((write_bad slip buffer, refused 11) ∷ []) (done [])

-- 11, reading: not exactly a slip
abbrev pub read_bad : List ℕ → Bool
read_bad bytes = not (holds_slip bytes)

unfoldable pub read_told : List ℕ → Told
read_told bytes = first ((read_bad bytes, refused 11) ∷ []) (done (slip_values (slip_of bytes)))
