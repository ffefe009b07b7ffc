-- The answer follows the two tests; the low six bytes of the number are the slip in front.
use mathlib.Core.Path.{sym, ◌∙◌}
use native.Mathlib.Nat.{div-one}
use lib.ListN.{length}
use borrow.Author.Tests.{lt-ltb, le-ltb}
use Rattle.slip.specs.Meaning.{slip_long, is_slip}
use Rattle.slip.specs.Answers.{can_write, write_answer, write_after}
use Rattle.slip.proofs.Exact.{written-fits}
use Rattle.slip.specs.Image.{slip_number, image}
use Rattle.slip.proofs.write.Goals as goal
use Rattle.slip.proofs.write.Goals.{then-buffer-lt-SLIP_LONG-via-then-buffer-lt-SLIP_LONG, then-buffer-lt-SLIP_LONG-via-else-buffer-lt-SLIP_LONG+then-not-is_slip}

pub returns-then-buffer-lt-SLIP_LONG-clause-value : goal.returns-then-buffer-lt-SLIP_LONG-clause-value
unfolding write_answer can_write is_slip
returns-then-buffer-lt-SLIP_LONG-clause-value c =
    elim c.then-buffer-lt-SLIP_LONG.branch [
      | then-buffer-lt-SLIP_LONG-via-then-buffer-lt-SLIP_LONG w ↦ rw (lt-ltb (length c.args.buffer.now) slip_long w.if-buffer-lt-SLIP_LONG.true)
      | then-buffer-lt-SLIP_LONG-via-else-buffer-lt-SLIP_LONG+then-not-is_slip w ↦ rw (le-ltb (length c.args.buffer.now) slip_long w.if-buffer-lt-SLIP_LONG.false, sym w.is_slip.ensures ∙ w.if-not-is_slip.true)
    ]

pub returns-then-buffer-lt-SLIP_LONG-clause-buffer_after : goal.returns-then-buffer-lt-SLIP_LONG-clause-buffer_after
unfolding write_after can_write is_slip
returns-then-buffer-lt-SLIP_LONG-clause-buffer_after c =
    elim c.then-buffer-lt-SLIP_LONG.branch [
      | then-buffer-lt-SLIP_LONG-via-then-buffer-lt-SLIP_LONG w ↦ rw (lt-ltb (length c.args.buffer.now) slip_long w.if-buffer-lt-SLIP_LONG.true)
      | then-buffer-lt-SLIP_LONG-via-else-buffer-lt-SLIP_LONG+then-not-is_slip w ↦ rw (le-ltb (length c.args.buffer.now) slip_long w.if-buffer-lt-SLIP_LONG.false, sym w.is_slip.ensures ∙ w.if-not-is_slip.true)
    ]

pub number_of-requires : goal.number_of-requires
unfolding is_slip
number_of-requires c = written-fits c.args.s (sym c.is_slip.ensures ∙ c.if-not-is_slip.false)

pub returns-clause-value : goal.returns-clause-value
unfolding write_answer can_write is_slip
returns-clause-value c =
    rw (le-ltb (length c.args.buffer.now) slip_long c.if-buffer-lt-SLIP_LONG.false, sym c.is_slip.ensures ∙ c.if-not-is_slip.false)

pub returns-clause-buffer_after : goal.returns-clause-buffer_after
unfolding write_after can_write is_slip image
returns-clause-buffer_after c =
    rw (
      le-ltb (length c.args.buffer.now) slip_long c.if-buffer-lt-SLIP_LONG.false,
      sym c.is_slip.ensures ∙ c.if-not-is_slip.false,
      c.copy_from_slice.ensures.after,
      c.to_be_bytes-bytes.ensures,
      c.number_of.ensures,
      div-one (slip_number c.args.s),
    )
