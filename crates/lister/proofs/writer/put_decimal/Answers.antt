-- As many digits as the definition's test says.
use borrow.Author.Tests.{lt-ltb, le-ltb}
use Rattle.lister.specs.Listing.{decimal_text}
use Rattle.lister.proofs.Written.{wrote_then, wrote_as}
use Rattle.lister.proofs.writer.put_decimal.Goals as goal

pub returns-then-number-lt10 : goal.returns-then-number-lt10
unfolding decimal_text
returns-then-number-lt10 c = wrote_as c.put_ones.ensures (rw (lt-ltb _ _ c.if-number-lt10.true))

pub returns-then-number-lt100 : goal.returns-then-number-lt100
unfolding decimal_text
returns-then-number-lt100 c =
    wrote_as (wrote_then c.put_ones-tens.ensures c.put_ones-then-number-lt100.ensures)
    (rw (le-ltb _ _ c.if-number-lt10.false, lt-ltb _ _ c.if-number-lt100.true))

pub returns-then-number-lt1000 : goal.returns-then-number-lt1000
unfolding decimal_text
returns-then-number-lt1000 c =
    wrote_as (wrote_then (wrote_then c.put_ones-hundreds.ensures c.put_ones-tens-then-number-lt1000.ensures) c.put_ones-then-number-lt1000.ensures)
    (rw (le-ltb _ _ c.if-number-lt10.false, le-ltb _ _ c.if-number-lt100.false, lt-ltb _ _ c.if-number-lt1000.true))

pub returns : goal.returns
unfolding decimal_text
returns c =
    wrote_as
    (wrote_then (wrote_then (wrote_then c.put_ones-thousands.ensures c.put_ones-hundreds-2.ensures) c.put_ones-tens-2.ensures) c.put_ones-2.ensures)
    (rw (le-ltb _ _ c.if-number-lt10.false, le-ltb _ _ c.if-number-lt100.false, le-ltb _ _ c.if-number-lt1000.false))
