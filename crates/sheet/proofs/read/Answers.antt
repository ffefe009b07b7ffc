-- The length, the first `<`, the outer element, and nothing after it.
use Rattle.std.proofs.Common.{◌≡◌, sym, ap, ◌∙◌, ℕ, List, Result}
use Rattle.std.proofs.lemmas.Result.{err_from_is_err_and}
use Rattle.sheet.specs.Sheet.{Answers, sheet_of}
use Rattle.sheet.specs.Answer.{reading_of}
use Rattle.sheet.specs.declared.Sheet.{Sheet}
use Rattle.sheet.specs.declared.parts.Refused.{Refused}
use Rattle.sheet.proofs.Reading.{reading-right}
use Rattle.sheet.proofs.Outer.{too_long, unbegun, outer-stopped, bytes-behind, all_read}
use Rattle.sheet.proofs.read.Goals as goal

-- the definition that computes is the grammar's answer
right-too : (s : List ℕ) (r : Result Sheet Refused) → r ≡ sheet_of (reading_of s) → Answers s r
right-too s r e = record { reading = reading_of s; right = reading-right s; image = e }

pub returns-then-s-gt-SHEET_MOST-clause-value : goal.returns-then-s-gt-SHEET_MOST-clause-value
unfolding sheet_of
returns-then-s-gt-SHEET_MOST-clause-value c = ap sheet_of (sym (too_long c.args.s.now c.if-s-gt-SHEET_MOST.true))

pub returns-then-s-gt-SHEET_MOST-clause-answers : goal.returns-then-s-gt-SHEET_MOST-clause-answers
returns-then-s-gt-SHEET_MOST-clause-answers c = right-too c.args.s.now _ (returns-then-s-gt-SHEET_MOST-clause-value c)

pub returns-then-peek-ne60-clause-value : goal.returns-then-peek-ne60-clause-value
unfolding sheet_of
returns-then-peek-ne60-clause-value c =
    ap sheet_of (sym (unbegun c.args.s.now c.if-s-gt-SHEET_MOST.false (λ e. c.if-peek-ne60.true (c.peek.ensures ∙ e))))

pub returns-then-peek-ne60-clause-answers : goal.returns-then-peek-ne60-clause-answers
returns-then-peek-ne60-clause-answers c = right-too c.args.s.now _ (returns-then-peek-ne60-clause-value c)

pub returns-in_err-place-clause-value : goal.returns-in_err-place-clause-value
unfolding sheet_of
returns-in_err-place-clause-value c =
    let p = err_from_is_err_and c.from_residual.result c.from_residual.ensures.1 in
    rw (p.1, p.2)
    (ap sheet_of (sym (outer-stopped c.args.s.now c.if-s-gt-SHEET_MOST.false (sym c.peek.ensures ∙ c.if-peek-ne60.false)
    c.in_err-place.field-0.0 c.element.new.starts c.element.new.depths c.in_err-place.ensures)))

pub returns-in_err-place-clause-answers : goal.returns-in_err-place-clause-answers
returns-in_err-place-clause-answers c = right-too c.args.s.now _ (returns-in_err-place-clause-value c)

pub returns-then-place-s-clause-value : goal.returns-then-place-s-clause-value
unfolding sheet_of
returns-then-place-s-clause-value c =
    ap sheet_of (sym (bytes-behind c.args.s.now c.if-s-gt-SHEET_MOST.false (sym c.peek.ensures ∙ c.if-peek-ne60.false)
    c.in_ok-place.field-0 c.element.new.starts c.element.new.depths c.in_ok-place.ensures c.if-place-s.true))

pub returns-then-place-s-clause-answers : goal.returns-then-place-s-clause-answers
returns-then-place-s-clause-answers c = right-too c.args.s.now _ (returns-then-place-s-clause-value c)

pub returns-clause-value : goal.returns-clause-value
unfolding sheet_of
returns-clause-value c =
    ap sheet_of (sym (all_read c.args.s.now c.if-s-gt-SHEET_MOST.false (sym c.peek.ensures ∙ c.if-peek-ne60.false)
    c.in_ok-place.field-0 c.element.new.starts c.element.new.depths c.in_ok-place.ensures c.if-place-s.false))

pub returns-clause-answers : goal.returns-clause-answers
returns-clause-answers c = right-too c.args.s.now _ (returns-clause-value c)
