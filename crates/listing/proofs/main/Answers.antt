-- The bytes that are printed are within the buffer that they were written into.
use Rattle.std.proofs.Common.{◌≤◌, length, sym, length-take-le}
use Rattle.lister.proofs.Whole.{inside}
use Rattle.listing.proofs.main.Goals as goal

pub slice_bounds-out-end : goal.slice_bounds-out-end
slice_bounds-out-end c = rw (c.listing-count.ensures.value, c.listing-count.ensures.out_after) (inside _ _)

pub slice_bounds-write_all-end : goal.slice_bounds-write_all-end
slice_bounds-write_all-end c =
    let within : c.listing-count.result ≤ length c.listing-count.new.out =
    rw (c.listing-count.ensures.value, c.listing-count.ensures.out_after) (inside _ _) in
    sym (length-take-le _ _ within)
