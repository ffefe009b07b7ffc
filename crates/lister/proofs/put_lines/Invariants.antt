use Rattle.std.proofs.Common.{◌≡◌, ◌+◌, ◌≤◌, length}
use Rattle.sheet.specs.Grammar.{element_most}
use Rattle.outline.specs.Rows.{rows_of}
use Rattle.lister.specs.Listing.{lines_of, fields_of}
use Rattle.lister.proofs.Written.{Still}
use Rattle.lister.proofs.Lines.{rows_left}
use Rattle.lister.proofs.put_lines.Given as goal

-- the lines of the rows that are left are still to be written, and the stack's names are the path of the row before
abbrev pub invariant-loop-k : goal.invariant-loop-k
invariant-loop-k l = (length l.stack ≡ element_most) × (l.level ≤ l.k) × (l.fields ≤ l.k)
    × Still l.initial.out 0 (lines_of (rows_of l.s l.sheet.count l.sheet.starts l.sheet.depths)) l.out l.to (lines_of (rows_left l.s l.sheet.count l.sheet.starts l.sheet.depths l.stack l.level l.k))
    × (fields_of (rows_of l.s l.sheet.count l.sheet.starts l.sheet.depths) ≡ l.fields + fields_of (rows_left l.s l.sheet.count l.sheet.starts l.sheet.depths l.stack l.level l.k))
