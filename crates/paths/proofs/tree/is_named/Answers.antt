-- The line's blank ends the test.
use Rattle.std.proofs.Common.{arith, refl, sym, ◌∙◌, ◌≡◌, length}
use borrow.Author.Tests.{ne_eqb, eq-eqb}
use Rattle.paths.specs.Tree.{names, name_of}
use Rattle.paths.proofs.Table.{line-long}
use Rattle.paths.proofs.Named.{name-too-long, name-differs, name-agrees, name-ends}
use Rattle.paths.proofs.tree.is_named.Goals as goal
use Rattle.paths.proofs.tree.is_named.Goals.{then-line-i-via-then-line-i, then-line-i-via-else-line-i+then-b-eq32}

pub returns-then-name-ge-NAME_WIDE : goal.returns-then-name-ge-NAME_WIDE
returns-then-name-ge-NAME_WIDE c = sym (name-too-long _ _ c.requires c.if-name-ge-NAME_WIDE.true)

pub loop-i-init : goal.loop-i-init
unfolding name_of names
loop-i-init c = (
  line-long c.args.node c.requires,
  c.if-name-ge-NAME_WIDE.false,
  refl,
)

pub returns-then-line-i : goal.returns-then-line-i
returns-then-line-i c =
    let long = c.loop-i.invariant.0 in
    let short = c.loop-i.invariant.1 in
    let here = c.loop-i-test.true in
    sym (c.loop-i.invariant.2
    ∙ name-differs _ c.args.name.now c.loop-i.i (omega arith) here
    (elim c.then-line-i.branch [
      | then-line-i-via-then-line-i w ↦ rw (ne_eqb _ _ w.if-line-i.true)
      | then-line-i-via-else-line-i+then-b-eq32 w ↦ rw (eq-eqb _ _ w.if-line-i.false, eq-eqb _ _ w.if-b-eq32.true)
    ]))

pub loop-i-preserved : goal.loop-i-preserved
loop-i-preserved c =
    let long = c.loop-i.invariant.0 in
    let short = c.loop-i.invariant.1 in
    let here = c.loop-i-test.true in (
      long,
      short,
      c.loop-i.invariant.2
          ∙ name-agrees _ c.args.name.now c.loop-i.i (omega arith) here
          (rw (eq-eqb _ _ c.if-line-i.false, ne_eqb _ _ c.if-b-eq32.false)),
    )

pub returns : goal.returns
returns c =
    let long = c.loop-i.invariant.0 in
    let short = c.loop-i.invariant.1 in
    let at_end : length c.args.name.now ≡ c.loop-i.i = omega arith in
    rw at_end (sym (c.loop-i.invariant.2 ∙ name-ends _ c.args.name.now c.loop-i.i (omega arith) (omega arith)))
