-- The entry of the field stands in the table one place before its number.
use Rattle.std.proofs.Common.{sym, ap, ◌∙◌, ◌-◌, length, arith}
use borrow.Author.Tests.{ltb-true, ltb-false}
use lib.ListN.{length-map}
use Rattle.message.specs.Fields.{fields_of}
use Rattle.message.specs.Seen.{entry_of}
use Rattle.message.proofs.Entries.{found}
use Rattle.message.proofs.Numbered.{numbered-here, numbered-nowhere}
use Rattle.message.proofs.seen.Seen.numbered.Goals as goal

pub at-requires : goal.at-requires
at-requires c =
    let at = c.in-Some.ensures.lookup in
    (found c.args.self.kind c.fields_of.result.now (c.args.number - 1) c.in-Some.e.now _ c.fields_of.ensures (ltb-true _ _ (sym at.0)) at.1).node

pub returns-in-Some : goal.returns-in-Some
returns-in-Some c =
    let at = c.in-Some.ensures.lookup in
    let e = found c.args.self.kind c.fields_of.result.now (c.args.number - 1) c.in-Some.e.now _ c.fields_of.ensures (ltb-true _ _ (sym at.0)) at.1 in
    let seen = c.args.self in
    c.at.ensures
    ∙ numbered-here seen.sheet.now seen.kind seen.counts.now seen.starts.now c.args.number c.if-number-eq0.false c.in-Some.e.now e.entry e.place

pub returns-in-None : goal.returns-in-None
returns-in-None c =
    let seen = c.args.self in
    let past = ltb-false _ _ (sym c.in-None.ensures.lookup.0) in
    let many = ap length c.fields_of.ensures ∙ length-map (fields_of seen.kind) entry_of in
    c.nothing-in-None.ensures
    ∙ numbered-nowhere seen.sheet.now seen.kind seen.counts.now seen.starts.now c.args.number c.if-number-eq0.false (omega (arith, past, many))
