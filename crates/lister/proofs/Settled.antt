-- Of each public function: no second answer satisfies its contract, and no second buffer.
-- Assumes nothing.
use mathlib.Core.List.{List}
use Prim.Native.Nat.{ℕ}
use Rattle.shape.proofs.Single.{SettledWith, by-equations}
use Rattle.lister.proofs.listing.Kinds as listing-kinds
use Rattle.lister.proofs.listing.Reads as listing-reads

pub listing : SettledWith _ listing-kinds.ps listing-kinds.r listing-reads.Post (List ℕ) (λ κs e. e.1.0.now)
listing κs a x y e f = by-equations
