-- What was found stands in the journal, else the step itself does.
use Rattle.journal.proofs.AnswerLaws.{told-within, told-there}
use Rattle.journal.proofs.answers.result_now.Goals as goal

pub row_result-requires : goal.row_result-requires
row_result-requires c =
    (c.requires.0, rw (c.unwrap_or.ensures, c.answer_to.ensures) (told-within c.args.s.now c.args.k c.requires.1 c.requires.2))

pub returns : goal.returns
returns c = rw (c.row_result.ensures, c.unwrap_or.ensures, c.answer_to.ensures) (told-there c.args.s.now c.args.k)
