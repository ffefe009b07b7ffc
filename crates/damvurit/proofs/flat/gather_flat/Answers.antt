-- Each turn takes one row off the front of what is left.
use Rattle.std.proofs.Common.{◌≡◌, ◌∙◌, sym, ap, arith, length, length-append}
use Rattle.std.specs.Slice.Iter.{chunks_rest, chunks_size}
use Rattle.directory.specs.declared.Gathered.{Gathered}
use Rattle.damvurit.proofs.FlatDirectories.{gathered_behind, at-start, none_left, row-missing, row-there, one-more}
use Rattle.damvurit.proofs.flat.gather_flat.Goals as goal

pub loop-row-init : goal.loop-row-init
loop-row-init c =
    let same = c.into_iter-row-iterator.ensures.into_iter_gives in
    let begun : chunks_rest c.into_iter-row-iterator.result ≡ c.args.dir.now = rw same c.chunks-row-items.ensures.rest in
    let size : chunks_size c.into_iter-row-iterator.result ≡ 4 = rw same c.chunks-row-items.ensures.size in
    record {
      next = omega arith;
      finite = tt;
      size = size;
      few = rw (c.no_records-out.ensures, begun) (omega arith);
      rest = rw (begun, c.no_records-out.ensures) (at-start c.args.dir.now);
    }

pub returns-in_default : goal.returns-in_default
returns-in_default c =
    let s = c.in-Some.ensures.steps in
    c.no_records.ensures
    ∙ sym (c.loop-row.invariant.rest ∙ ap (gathered_behind c.loop-row.out) s.1.0
    ∙ row-missing c.loop-row.out c.in-Some.row.now (chunks_rest c.next.new.self) (rw (c.loop-row.invariant.size, s.1.0) at s.1.1)
    (rw s.1.0 at s.1.2) (sym c.record_in.ensures ∙ c.in_default.is))

pub loop-row-preserved : goal.loop-row-preserved
loop-row-preserved c =
    let s = c.in-Some.ensures.steps in
    let left = ap length s.1.0 in
    record {
      next = omega (arith, s.0);
      finite = tt;
      size = s.0 ∙ c.loop-row.invariant.size;
      few = rw (c.add.ensures, one-more)
          (omega (arith, left, length-append c.in-Some.row.now (chunks_rest c.next.new.self), s.1.1, s.1.2));
      rest = c.loop-row.invariant.rest ∙ ap (gathered_behind c.loop-row.out) s.1.0
          ∙ row-there c.loop-row.out c.in-Some.row.now (chunks_rest c.next.new.self) c.in-Some-record_in.record
          (sym c.record_in.ensures ∙ c.in-Some-record_in.is)
          ∙ ap (λ (g : Gathered). gathered_behind g (chunks_rest c.next.new.self)) (sym c.add.ensures);
    }

pub returns : goal.returns
returns c =
    sym (c.loop-row.invariant.rest ∙ none_left c.loop-row.out (chunks_rest c.loop-row.row-iterator) c.in-None.ensures.steps.1.0)
