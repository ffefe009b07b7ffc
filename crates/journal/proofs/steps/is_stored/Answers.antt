-- The bytes in front are the stored text, which is never longer than 35. Where it is an identifier, with nothing above or after it, these very
-- numbers are stored.
use Rattle.std.proofs.Common.{◌≡◌, ◌∙◌, sym, ap, arith}
use Rattle.std.proofs.lemmas.Grind.{common_steps}
use Rattle.shape.specs.Fields.{is_identifier}
use Rattle.shape.specs.Stored.{identifier_of, same_identifier}
use Rattle.shape.specs.declared.stored.Identifier.{Identifier}
use Rattle.shape.proofs.Tests.{and_left, and_right}
use Rattle.journal.proofs.StepLaws.{text-most, text-part, text-behind}
use Rattle.journal.proofs.StoredLaws.{is_zero, stored-kept, not-stored, stored-else}
use Rattle.journal.proofs.steps.is_stored.Goals as goal

pub shared_ref_as_front-word : goal.shared_ref_as_front-word
shared_ref_as_front-word c = text-most c.text_of-text.result c.args.x c.text_of-text.ensures

pub returns-then-not-is_identifier : goal.returns-then-not-is_identifier
returns-then-not-is_identifier c =
    sym
    (not-stored c.args.x
    (ap is_identifier (sym (text-part c.text_of-text.result c.args.x c.text_of-text.ensures)) ∙ sym c.if-not-is_identifier.ensures))

pub returns-then-is_low-all_zeros : goal.returns-then-is_low-all_zeros
returns-then-is_low-all_zeros c =
    sym
    (stored-kept c.args.x
    (ap is_identifier (sym (text-part c.text_of-text.result c.args.x c.text_of-text.ensures)) ∙ sym c.if-not-is_identifier.ensures)
    (sym c.is_low.ensures ∙ and_left c.is_low.result c.all_zeros.result c.if-is_low-all_zeros.true)
    (text-behind c.text_of-text.result c.args.x c.text_of-text.ensures is_zero
    (sym c.all_zeros.ensures ∙ and_right c.is_low.result c.all_zeros.result c.if-is_low-all_zeros.true)))

pub returns : goal.returns
unfolding same_identifier
returns c =
    let same : c.eq.result ≡ same_identifier c.identifier_of.result c.args.x = grind (arith, common_steps, c.eq.ensures) in
    same
    ∙ ap (λ (y : Identifier). same_identifier y c.args.x)
    (c.identifier_of.ensures ∙ ap identifier_of (text-part c.text_of-text.result c.args.x c.text_of-text.ensures))
    ∙ sym
    (stored-else c.args.x
    (ap is_identifier (sym (text-part c.text_of-text.result c.args.x c.text_of-text.ensures)) ∙ sym c.if-not-is_identifier.ensures))
