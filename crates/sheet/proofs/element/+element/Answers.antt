-- The tag, then a text or children one after the other, then the closing tag; each way out is one lemma of `Descent` or `Children`.
use Rattle.std.proofs.Common.{◌≡◌, refl, sym, ap, ◌∙◌, ℕ, ◌+◌, ◌-◌, ◌<◌, arith, Result, Ok, Err}
use Rattle.std.proofs.lemmas.Result.{err_from_is_err_and}
use lib.Arith.{lt_of_le-ne}
use Rattle.shape.specs.Bytes.{is_text}
use Rattle.sheet.specs.Grammar.{element_most}
use Rattle.sheet.specs.Parts.{part_of}
use Rattle.sheet.specs.Element.{may_hold, ElementRead}
use Rattle.sheet.specs.declared.element.Came.{Came}
use Rattle.sheet.specs.declared.parts.Refused.{Refused}
use Rattle.sheet.proofs.Ends.{inside as in-sheet, text-inside}
use Rattle.sheet.proofs.Descent.{untagged, with-text, with_nothing, first-child, may-hold-parts}
use Rattle.sheet.proofs.Children.{within, sibling, Turn, in-child, after-child, in-sibling, in-closing}
use Rattle.sheet.proofs.element.+element.Goals as goal
use Rattle.sheet.proofs.element.+element.Goals.{Else-not-may_hold, After-element}

pub returns-in_err-tag : goal.returns-in_err-tag
returns-in_err-tag t c =
    let p = err_from_is_err_and c.from_residual.result c.from_residual.ensures.1 in
    rw (p.1, p.2)
    (untagged c.args.s.now c.args.at c.args.left c.args.count c.args.starts.now c.args.depths.now
    c.in_err-tag.field-0.0 c.in_err-tag.ensures c.requires.5 c.requires.6)

pub leaf-requires : goal.leaf-requires
leaf-requires t c =
    let tag = c.in_ok-tag.ensures in
    let p = tag.places c.in_ok-tag.tag refl in
    let text = rw c.peek-b.ensures at (sym c.is_text.ensures ∙ c.if-is_text.true) in
    (text-inside c.args.s.now c.in_ok-tag.tag.place text, omega arith, omega arith, text)

pub returns-in_err-place : goal.returns-in_err-place
returns-in_err-place t c =
    let p = err_from_is_err_and c.from_residual-in_err-place.result c.from_residual-in_err-place.ensures.1 in
    rw (p.1, p.2)
    (with-text c.args.s.now c.args.at c.args.left c.args.count c.args.starts.now c.args.depths.now
    c.in_ok-tag.tag c.in_ok-tag.ensures c.requires.4 c.requires.5 c.requires.6 (Err c.in_err-place.field-0.0) c.in_err-place.ensures)

pub returns-then-is_text : goal.returns-then-is_text
returns-then-is_text t c =
    with-text c.args.s.now c.args.at c.args.left c.args.count c.args.starts.now c.args.depths.now
    c.in_ok-tag.tag c.in_ok-tag.ensures c.requires.4 c.requires.5 c.requires.6 (Ok c.in_ok-place.place) c.in_ok-place.ensures

pub returns-then-not-may_hold : goal.returns-then-not-may_hold
returns-then-not-may_hold t c =
    with_nothing c.args.s.now c.args.at c.args.left c.args.count c.args.starts.now c.args.depths.now
    c.in_ok-tag.tag c.in_ok-tag.ensures c.requires.4 c.requires.5 c.requires.6
    (rw c.peek-b.ensures at (sym c.is_text.ensures ∙ c.if-is_text.false))
    (rw c.peek-b.ensures at (sym c.may_hold.ensures ∙ c.if-not-may_hold.true))

-- a `<` stands there, a level is left for the child, and a place in the lists
held : (t : ℕ) (c : Else-not-may_hold t) → (c.peek-b.result ≡ 60) × (1 < c.args.left) × (c.args.count + 1 < element_most)
held t c = may-hold-parts c.peek-b.result c.in_ok-tag.tag.ccy c.args.left (c.args.count + 1) (sym c.may_hold.ensures ∙ c.if-not-may_hold.false)

-- from the element's beginning to the child that was read
turned : (t : ℕ) (c : After-element t) (child : Result Came Refused)
    → ElementRead c.args.s.now c.loop-child.i (c.args.left - 1) c.loop-child.seen c.loop-child.starts c.loop-child.depths child c.element.new.starts c.element.new.depths
    → Turn c.args.s.now c.args.at c.args.left c.args.count c.args.starts.now c.args.depths.now c.in_ok-tag.tag.to child c.element.new.starts c.element.new.depths
turned t c child read =
    let peeked = sym c.peek-b.ensures in
    let holds = sym c.may_hold.ensures ∙ c.if-not-may_hold.false in
    let h = may-hold-parts c.peek-b.result c.in_ok-tag.tag.ccy c.args.left (c.args.count + 1) holds in
    record {
      i = c.loop-child.i;
      seen = c.loop-child.seen;
      starts_before = c.loop-child.starts;
      depths_before = c.loop-child.depths;
      behind = c.loop-child.invariant.0;
      more = c.loop-child.invariant.2;
      deep = h.1;
      so_far = λ names l.
          first-child c.args.s.now c.args.at c.args.left c.args.count c.args.starts.now c.args.depths.now
          c.in_ok-tag.tag c.in_ok-tag.ensures c.requires.4 c.requires.5 c.requires.6
          (ap is_text peeked ∙ sym c.is_text.ensures ∙ c.if-is_text.false)
          (ap (λ (b : ℕ). may_hold b c.in_ok-tag.tag.ccy c.args.left (c.args.count + 1)) peeked ∙ holds)
          (peeked ∙ h.0) names l
          ∙ c.loop-child.invariant.6 names l;
      read = read;
    }

pub returns-in_err-child : goal.returns-in_err-child
returns-in_err-child t c =
    let p = err_from_is_err_and c.from_residual-in_err-child.result c.from_residual-in_err-child.ensures.1 in
    rw (p.1, p.2)
    (in-child c.args.s.now c.args.at c.args.left c.args.count c.args.starts.now c.args.depths.now c.in_ok-tag.tag.to c.element.new.starts c.element.new.depths
    c.in_err-child.field-0.0
    (turned t (goal.at.returns-in_err-child t c).After-element (Err c.in_err-child.field-0.0) c.in_err-child.ensures))

pub returns-then-peek-ne60 : goal.returns-then-peek-ne60
returns-then-peek-ne60 t c =
    after-child c.args.s.now c.args.at c.args.left c.args.count c.args.starts.now c.args.depths.now c.in_ok-tag.tag.to c.element.new.starts c.element.new.depths
    c.in_ok-child.child (turned t (goal.at.returns-then-peek-ne60 t c).After-element (Ok c.in_ok-child.child) c.in_ok-child.ensures)
    (λ e. c.if-peek-ne60.true (c.peek.ensures ∙ e))

pub returns-in_err-place-2 : goal.returns-in_err-place-2
returns-in_err-place-2 t c =
    let p = err_from_is_err_and c.from_residual-in_err-place-2.result c.from_residual-in_err-place-2.ensures.1 in
    rw (p.1, p.2)
    (in-closing c.args.s.now c.args.at c.args.left c.args.count c.args.starts.now c.args.depths.now c.in_ok-tag.tag.to c.element.new.starts c.element.new.depths
    c.in_ok-child.child (turned t (goal.at.returns-in_err-place-2 t c).After-element (Ok c.in_ok-child.child) c.in_ok-child.ensures)
    (sym c.peek.ensures ∙ c.if-peek-ne60.false) (sym c.peek-in-loop-child.ensures ∙ c.if-peek-eq47.true)
    (Err c.in_err-place-2.field-0.0) c.in_err-place-2.ensures)

pub returns-then-peek-eq47 : goal.returns-then-peek-eq47
returns-then-peek-eq47 t c =
    in-closing c.args.s.now c.args.at c.args.left c.args.count c.args.starts.now c.args.depths.now c.in_ok-tag.tag.to c.element.new.starts c.element.new.depths
    c.in_ok-child.child (turned t (goal.at.returns-then-peek-eq47 t c).After-element (Ok c.in_ok-child.child) c.in_ok-child.ensures)
    (sym c.peek.ensures ∙ c.if-peek-ne60.false) (sym c.peek-in-loop-child.ensures ∙ c.if-peek-eq47.true)
    (Ok c.in_ok-place-2.place) c.in_ok-place-2.ensures

pub returns-then-seen-eq-ELEMENT_MOST : goal.returns-then-seen-eq-ELEMENT_MOST
returns-then-seen-eq-ELEMENT_MOST t c =
    in-sibling c.args.s.now c.args.at c.args.left c.args.count c.args.starts.now c.args.depths.now c.in_ok-tag.tag.to c.element.new.starts c.element.new.depths
    c.in_ok-child.child (turned t (goal.at.returns-then-seen-eq-ELEMENT_MOST t c).After-element (Ok c.in_ok-child.child) c.in_ok-child.ensures)
    (sym c.peek.ensures ∙ c.if-peek-ne60.false)
    (λ e. c.if-peek-eq47.false (c.peek-in-loop-child.ensures ∙ e)) c.if-seen-eq-ELEMENT_MOST.true

pub loop-child-preserved : goal.loop-child-preserved
loop-child-preserved t c =
    let read = c.in_ok-child.ensures in
    let p = read.places c.in_ok-child.child refl in
    let more = sym c.peek.ensures ∙ c.if-peek-ne60.false in
    let i = in-sheet c.args.s.now c.in_ok-child.child.place 59 more in
    let few : c.in_ok-child.child.count < element_most = lt_of_le-ne p.3 c.if-seen-eq-ELEMENT_MOST.false in (
      omega arith,
      omega arith,
      omega arith,
      few,
      read.long-starts,
      read.long-depths,
      sibling c.args.s.now c.args.left (part_of c.args.s.now c.args.at c.in_ok-tag.tag.to)
          (within c.args.s.now c.args.at c.args.left c.args.count c.args.starts.now c.args.depths.now c.in_ok-tag.tag)
          c.loop-child.i c.loop-child.seen c.loop-child.starts c.loop-child.depths c.loop-child.invariant.6
          (held t (goal.at.loop-child-preserved t c).Else-not-may_hold).1
          c.element.new.starts c.element.new.depths c.in_ok-child.child read
          more (λ e. c.if-peek-eq47.false (c.peek-in-loop-child.ensures ∙ e)) few,
    )
