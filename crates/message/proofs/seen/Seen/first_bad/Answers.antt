-- A good field is passed, and at a bad one its number is the answer.
use Rattle.std.proofs.Common.{◌≡◌, length, get_or, ap, ◌∙◌, arith}
use lib.ListN.{length-map}
use Rattle.message.specs.Fields.{fields_of}
use Rattle.message.specs.Seen.{entry_of}
use Rattle.message.proofs.Entries.{no-entry, listed}
use Rattle.message.proofs.Turns.{bad-begin, bad-passes, bad-stops, bad-ends}
use Rattle.message.proofs.seen.Seen.first_bad.Goals as goal

pub loop-k-init : goal.loop-k-init
loop-k-init c = bad-begin c.args.self.sheet.now c.args.self.kind c.args.self.counts.now c.args.self.starts.now

pub at-requires : goal.at-requires
at-requires c = (listed c.args.self.kind c.fields_of-fields.result.now c.loop-k.k c.fields_of-fields.ensures c.loop-k-test.true).node

pub returns-then-not-good-goes_with : goal.returns-then-not-good-goes_with
returns-then-not-good-goes_with c =
    let seen = c.args.self in
    let e = listed seen.kind c.fields_of-fields.result.now c.loop-k.k c.fields_of-fields.ensures c.loop-k-test.true in
    bad-stops seen.sheet.now seen.kind seen.counts.now seen.starts.now c.loop-k.k
    (get_or c.fields_of-fields.result.now c.loop-k.k no-entry) c.is_good-good.result c.goes_with.result
    c.loop-k.invariant e.entry (c.is_good-good.ensures ∙ rw c.at.ensures) c.goes_with.ensures e.place c.if-not-good-goes_with.true

pub loop-k-preserved : goal.loop-k-preserved
loop-k-preserved c =
    let seen = c.args.self in
    let e = listed seen.kind c.fields_of-fields.result.now c.loop-k.k c.fields_of-fields.ensures c.loop-k-test.true in
    bad-passes seen.sheet.now seen.kind seen.counts.now seen.starts.now c.loop-k.k
    (get_or c.fields_of-fields.result.now c.loop-k.k no-entry) c.is_good-good.result c.goes_with.result
    c.loop-k.invariant e.entry (c.is_good-good.ensures ∙ rw c.at.ensures) c.goes_with.ensures e.place c.if-not-good-goes_with.false

pub returns : goal.returns
returns c =
    let seen = c.args.self in
    let many : length c.fields_of-fields.result.now ≡ length (fields_of seen.kind) =
    ap length c.fields_of-fields.ensures ∙ length-map (fields_of seen.kind) entry_of
    in
    bad-ends seen.sheet.now seen.kind seen.counts.now seen.starts.now c.loop-k.k c.loop-k.invariant (omega (arith, many))
