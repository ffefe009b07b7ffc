-- The list of banks of a lesson: which line names which bank. A bank is a record of the directory (document 01, "Room, seats, directory"), and
-- stands where its line stands among the others. Whether the list is fit is asked by the calls that need it.
use Rattle.std.specs.Prelude.{cond, ℕ, ltb, eqb, get_or}
use Rattle.directory.specs.declared.Kind.{Kind}
use Rattle.directory.specs.declared.Kind.TheVariants as kind
use Rattle.directory.specs.declared.Participant.{Participant}
use Rattle.directory.specs.declared.Gathered.{Gathered}
use Rattle.directory.specs.Directory.{records_most}
use Rattle.directory.specs.Gathering.{none_gathered, added}
use Rattle.script.specs.declared.Word.{Word}
use Rattle.script.specs.declared.Word.TheVariants.{
  Blank,
  Room,
  Nobody,
  Owner,
  Direct,
  Indirect,
  Provider,
  Open,
  Close,
  Set,
  Submit,
  Back,
  Read,
  Slip,
  Unknown,
}
use Rattle.script.specs.declared.Line.{Line}

-- a bank that is instant where a line says 1
unfoldable pub bank_of : ℕ → ℕ → Kind → Participant
bank_of code instant kind = record { code = code; instant = eqb instant 1; kind = kind }

-- one bank more, at the end. Behind a 17th nothing changes: the list is too long already
unfoldable pub with_bank : Gathered → Participant → Gathered
with_bank g p = cond (ltb records_most g.count) g (added g p)

-- what the word of a line does to the list
unfoldable pub with_word : Word → Gathered → Line → Gathered
with_word Nobody g line = none_gathered
with_word Owner g line = with_bank g (bank_of (get_or line.values 0 0) (get_or line.values 1 0) kind.Owner)
with_word Direct g line = with_bank g (bank_of (get_or line.values 0 0) (get_or line.values 2 0) (kind.Direct (get_or line.values 1 0)))
with_word Indirect g line = with_bank g (bank_of (get_or line.values 0 0) (get_or line.values 2 0) (kind.Indirect (get_or line.values 1 0)))
with_word Provider g line = with_bank g (bank_of (get_or line.values 0 0) (get_or line.values 2 0) (kind.Provider (get_or line.values 1 0)))
with_word Blank g line = g
with_word Room g line = g
with_word Open g line = g
with_word Close g line = g
with_word Set g line = g
with_word Submit g line = g
with_word Back g line = g
with_word Read g line = g
with_word Slip g line = g
with_word Unknown g line = g

-- the list behind a line; a bad line leaves it as it is
unfoldable pub with_line : Gathered → Line → Gathered
with_line g line = cond line.good (with_word line.word g line) g
