-- In every turn the next spot is stored; at the end they all are.
use Rattle.std.proofs.Common.{◌≡◌, map, length, get_or, ap, ◌∙◌, arith}
use lib.ListN.{length-map}
use Rattle.message.specs.Fields.{fields_of}
use Rattle.message.specs.Message.{spot_in}
use Rattle.message.specs.Seen.{entry_of, held_by}
use Rattle.message.proofs.Entries.{no-entry, listed}
use Rattle.message.proofs.FieldShown.{fields-few}
use Rattle.message.proofs.Filled.{filled-begin, filled_next, filled-ends, spots-count}
use Rattle.message.proofs.seen.Seen.spots.Goals as goal

pub loop-k-init : goal.loop-k-init
loop-k-init c = filled-begin (map spot_in (held_by c.args.self))

pub at-requires : goal.at-requires
at-requires c = (listed c.args.self.kind c.fields_of-fields.result.now c.loop-k.k c.fields_of-fields.ensures c.loop-k-test.true).node

pub bounds-spots-k : goal.bounds-spots-k
bounds-spots-k c =
    let e = listed c.args.self.kind c.fields_of-fields.result.now c.loop-k.k c.fields_of-fields.ensures c.loop-k-test.true in
    omega (arith, e.place, fields-few c.args.self.kind)

pub loop-k-preserved : goal.loop-k-preserved
loop-k-preserved c =
    let seen = c.args.self in
    let e = listed seen.kind c.fields_of-fields.result.now c.loop-k.k c.fields_of-fields.ensures c.loop-k-test.true in
    rw c.loop-k.invariant
    (filled_next seen.sheet.now seen.kind seen.counts.now seen.starts.now c.loop-k.k
    (get_or c.fields_of-fields.result.now c.loop-k.k no-entry) e.entry e.place
    (omega (arith, e.place, fields-few seen.kind)) c.spot.result (c.spot.ensures ∙ ap spot_in c.at.ensures))

pub returns : goal.returns
returns c =
    let seen = c.args.self in
    let many : length c.fields_of-fields.result.now ≡ length (fields_of seen.kind) =
    ap length c.fields_of-fields.ensures ∙ length-map (fields_of seen.kind) entry_of
    in
    let count = spots-count seen.sheet.now seen.kind seen.counts.now seen.starts.now in
    c.loop-k.invariant ∙ filled-ends (map spot_in (held_by seen)) c.loop-k.k (omega (arith, many, count))
