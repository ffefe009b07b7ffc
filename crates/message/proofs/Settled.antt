-- Of each public function: no second answer satisfies its contract.
-- Assumes nothing.
use mathlib.Core.List.{List}
use Prim.Native.Nat.{ℕ}
use Rattle.shape.proofs.Single.{Settled, SettledShown, by-equation}
use Rattle.message.proofs.receive.Kinds as receive-kinds
use Rattle.message.proofs.receive.Reads as receive-reads
use Rattle.message.proofs.field.Kinds as field-kinds
use Rattle.message.proofs.field.Reads as field-reads

pub receive : Settled _ receive-kinds.ps receive-kinds.r receive-reads.Post
receive κs a x y e f = by-equation

-- of a part that is handed back, its bytes are settled
pub field : SettledShown _ field-kinds.ps field-kinds.r field-reads.Post (List ℕ) (λ κs x. x.now)
field κs a x y e f p q = by-equation p.0 q.0
