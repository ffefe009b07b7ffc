-- Of each public function: no second answer satisfies its contract.
-- Assumes nothing.
use mathlib.Core.List.{List}
use Prim.Native.Nat.{ℕ}
use Rattle.shape.proofs.Single.{Settled, SettledShown, by-equation}
use Rattle.std.specs.Prelude.{Option}
use Rattle.outline.specs.Places.{LeafHeld, leaf_shown}
use Rattle.outline.proofs.leaf_at.Kinds as leaf-at-kinds
use Rattle.outline.proofs.leaf_at.Reads as leaf-at-reads
use Rattle.outline.proofs.name_at.Kinds as name-at-kinds
use Rattle.outline.proofs.name_at.Reads as name-at-reads
use Rattle.outline.proofs.names_around.Kinds as names-around-kinds
use Rattle.outline.proofs.names_around.Reads as names-around-reads
use Rattle.outline.proofs.parts_at.Kinds as parts-at-kinds
use Rattle.outline.proofs.parts_at.Reads as parts-at-reads

pub parts_at : Settled _ parts-at-kinds.ps parts-at-kinds.r parts-at-reads.Post
parts_at κs a x y e f = by-equation

pub names-around : Settled _ names-around-kinds.ps names-around-kinds.r names-around-reads.Post
names-around κs a x y e f = by-equation

-- of a part that is handed back, its bytes are settled
pub name-at : SettledShown _ name-at-kinds.ps name-at-kinds.r name-at-reads.Post (List ℕ) (λ κs x. x.now)
name-at κs a x y e f = by-equation

-- of an element that holds a text, what is shown is settled
pub leaf-at : SettledShown _ leaf-at-kinds.ps leaf-at-kinds.r leaf-at-reads.Post (Option LeafHeld) (λ κs x. leaf_shown x)
leaf-at κs a x y e f = by-equation
