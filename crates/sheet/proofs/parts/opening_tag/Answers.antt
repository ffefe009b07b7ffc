-- The name, and then the tag's end, a Ccy, or a refusal.
use Rattle.std.proofs.Common.{sym, ◌∙◌}
use Rattle.std.proofs.lemmas.Result.{err_from_is_err_and}
use Rattle.sheet.proofs.Opened.{letter-inside, tag-unnamed, tag-plain, tag-broken, tag-with-ccy, tag-without-ccy}
use Rattle.sheet.proofs.parts.opening_tag.Goals as goal

pub returns-then-not-is_letter : goal.returns-then-not-is_letter
returns-then-not-is_letter c =
    tag-unnamed c.args.s.now c.args.at (rw c.peek.ensures at (sym c.is_letter.ensures ∙ c.if-not-is_letter.true))

pub name_end-to-requires : goal.name_end-to-requires
name_end-to-requires c =
    letter-inside c.args.s.now c.args.at (rw c.peek.ensures at (sym c.is_letter.ensures ∙ c.if-not-is_letter.false))

pub returns-then-b-eq62 : goal.returns-then-b-eq62
returns-then-b-eq62 c =
    tag-plain c.args.s.now c.args.at c.name_end-to.result (rw c.peek.ensures at (sym c.is_letter.ensures ∙ c.if-not-is_letter.false))
    c.name_end-to.ensures (sym c.peek-b.ensures ∙ c.if-b-eq62.true)

pub returns-then-b-ne32 : goal.returns-then-b-ne32
returns-then-b-ne32 c =
    tag-broken c.args.s.now c.args.at c.name_end-to.result (rw c.peek.ensures at (sym c.is_letter.ensures ∙ c.if-not-is_letter.false))
    c.name_end-to.ensures (λ e. c.if-b-eq62.false (c.peek-b.ensures ∙ e)) (λ e. c.if-b-ne32.true (c.peek-b.ensures ∙ e))

pub returns-in_err-place : goal.returns-in_err-place
returns-in_err-place c =
    let p = err_from_is_err_and c.from_residual.result c.from_residual.ensures.1 in
    rw (p.1, p.2)
    (tag-without-ccy c.args.s.now c.args.at c.name_end-to.result
    (rw c.peek.ensures at (sym c.is_letter.ensures ∙ c.if-not-is_letter.false)) c.name_end-to.ensures
    c.in_err-place.field-0.0.place (sym c.peek-b.ensures ∙ c.if-b-ne32.false) (c.in_err-place.ensures))

pub returns : goal.returns
returns c =
    tag-with-ccy c.args.s.now c.args.at c.name_end-to.result
    (rw c.peek.ensures at (sym c.is_letter.ensures ∙ c.if-not-is_letter.false)) c.name_end-to.ensures
    c.in_ok-place.place (sym c.peek-b.ensures ∙ c.if-b-ne32.false) (c.in_ok-place.ensures)
