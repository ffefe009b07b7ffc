-- The refusal's line, or the lines and the count: each is the listing of the reading.
use Rattle.std.proofs.Common.{ap, ◌++◌, ℕ}
use Rattle.shape.specs.Text.{bytes}
use Rattle.sheet.proofs.Within.{within}
use Rattle.lister.specs.Listing.{decimal_text}
use Rattle.lister.proofs.Written.{wrote_then, wrote_as}
use Rattle.lister.proofs.Whole.{listed-refused, listed-accepted}
use Rattle.lister.proofs.listing.Goals as goal

pub put_lines-listed-requires : goal.put_lines-listed-requires
put_lines-listed-requires c = (within c.args.s.now c.in-Ok.sheet c.in-Ok.ensures.answers).0

pub returns-in-Ok-clause-value : goal.returns-in-Ok-clause-value
returns-in-Ok-clause-value c =
    (listed-accepted c.args.s.now c.args.out.now _ _ c.in-Ok.sheet c.in-Ok.ensures.value
    (wrote_then c.put_lines-listed.ensures.wrote
    (wrote_as c.put_count.ensures (ap (λ (x : ℕ). decimal_text x ++ bytes " fields\n") c.put_lines-listed.ensures.fields_value)))).0

pub returns-in-Ok-clause-out_after : goal.returns-in-Ok-clause-out_after
returns-in-Ok-clause-out_after c =
    (listed-accepted c.args.s.now c.args.out.now _ _ c.in-Ok.sheet c.in-Ok.ensures.value
    (wrote_then c.put_lines-listed.ensures.wrote
    (wrote_as c.put_count.ensures (ap (λ (x : ℕ). decimal_text x ++ bytes " fields\n") c.put_lines-listed.ensures.fields_value)))).1

pub returns-in-Err-clause-value : goal.returns-in-Err-clause-value
returns-in-Err-clause-value c = (listed-refused c.args.s.now c.args.out.now _ _ c.in-Err.refused c.in-Err.ensures.value c.put_refusal.ensures).0

pub returns-in-Err-clause-out_after : goal.returns-in-Err-clause-out_after
returns-in-Err-clause-out_after c = (listed-refused c.args.s.now c.args.out.now _ _ c.in-Err.refused c.in-Err.ensures.value c.put_refusal.ensures).1
