-- Both fields are found by their numbers; the count of TxSts says whether it stands.
use Rattle.std.proofs.Common.{sym, ap, ◌∙◌}
use Rattle.shape.specs.Patterns.{fits}
use Rattle.message.specs.Message.{accepted_text}
use Rattle.message.specs.Seen.{held_found, held_by}
use Rattle.message.proofs.Beside.{counted-stands, goes-otherwise, goes-beside}
use Rattle.message.proofs.seen.Seen.goes_with_group.Goals as goal

pub returns-then-number-numbers : goal.returns-then-number-numbers
returns-then-number-numbers c =
    goes-otherwise c.numbers_of-numbers.result c.numbers_of-numbers.ensures (held_by c.args.self) c.args.number c.if-number-numbers.true

pub returns : goal.returns
returns c =
    let own = c.numbered.result in
    goes-beside c.numbers_of-numbers.result c.numbers_of-numbers.ensures (held_by c.args.self) c.args.number c.if-number-numbers.false
    (held_found own) (held_found c.numbered-2.result) c.numbered.ensures c.numbered-2.ensures _ c.matches.result
    (sym (counted-stands own.sheet.now own.count own.start)) (c.matches.ensures ∙ ap (fits accepted_text) c.text.ensures)
