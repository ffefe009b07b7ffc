-- What the refusal of a message prints.
use Rattle.std.specs.Prelude.{List, ℕ, ◌++◌, zero, suc, decimal}
use Rattle.shape.specs.Text.{bytes}
use Rattle.message.specs.declared.Refusal.{Refusal}
use Rattle.message.specs.declared.Refusal.TheVariants.{IllFormed, BadField}

abbrev pub words_of : Refusal → List ℕ
words_of (IllFormed place) = bytes "the sheet is ill-formed at byte " ++ decimal place
words_of (BadField zero) = bytes "the message is unknown"
words_of (BadField (suc n)) = bytes "field " ++ (decimal (suc n) ++ bytes " is bad")
