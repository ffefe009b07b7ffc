-- What the refusals of the centre's calls print.
use Rattle.std.specs.Prelude.{List, ℕ, ◌++◌, decimal}
use Rattle.shape.specs.Text.{bytes}
use Rattle.centre.specs.declared.answers.Refusal.{Refusal}
use Rattle.centre.specs.declared.answers.Refusal.TheVariants.{
  RoomUnfit,
  DirectoryUnfit,
  NoTicket,
  AlreadyOpen,
  NoOpeningLeft,
  BadNumber,
  IllFormed,
  BadField,
  JournalFull,
  NothingToTakeBack,
  NoSlip,
  NotTaken,
}

abbrev pub words_of : Refusal → List ℕ
words_of RoomUnfit = bytes "the room is unfit"
words_of DirectoryUnfit = bytes "the directory is unfit"
words_of NoTicket = bytes "the ticket is for no open seat"
words_of AlreadyOpen = bytes "the seat is open already"
words_of NoOpeningLeft = bytes "the seat has no opening left"
words_of BadNumber = bytes "a number of the call is bad"
words_of (IllFormed place) = bytes "the sheet is ill-formed at " ++ decimal place
words_of (BadField number) = bytes "field " ++ (decimal number ++ bytes " of the message is bad")
words_of JournalFull = bytes "the journal is full"
words_of NothingToTakeBack = bytes "there is no step to take back"
words_of NoSlip = bytes "there is no slip"
words_of (NotTaken check) = bytes "the message fails by check " ++ decimal check
