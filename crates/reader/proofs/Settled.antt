-- Of the public function: no second answer satisfies its contract.
-- Assumes nothing.
use Rattle.shape.proofs.Single.{Settled, by-equation}
use Rattle.reader.proofs.damvurit_read_sheet.Kinds as read-sheet-kinds
use Rattle.reader.proofs.damvurit_read_sheet.Reads as read-sheet-reads

pub damvurit-read-sheet : Settled _ read-sheet-kinds.ps read-sheet-kinds.r read-sheet-reads.Post
damvurit-read-sheet κs a x y e f = by-equation
