-- What the refusals of a seat's calls print.
use Rattle.std.specs.Prelude.{List, ℕ}
use Rattle.shape.specs.Text.{bytes}
use Rattle.seat.specs.declared.calls.Refusal.{Refusal}
use Rattle.seat.specs.declared.calls.Refusal.TheVariants.{NoTicket, AlreadyOpen, NoOpeningLeft, BadNumber, JournalFull, NothingToTakeBack}

abbrev pub words_of : Refusal → List ℕ
words_of NoTicket = bytes "the seat is closed or has another opening number"
words_of AlreadyOpen = bytes "the seat is open already"
words_of NoOpeningLeft = bytes "the seat's last opening number is given out"
words_of BadNumber = bytes "a sum, an owner, an account or a limit is bad"
words_of JournalFull = bytes "the journal has no free place"
words_of NothingToTakeBack = bytes "there is no step to take back"
