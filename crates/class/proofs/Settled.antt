-- Of each public function: no second answer satisfies its contract, and no second room or buffer behind it.
-- Assumes nothing.
use mathlib.Core.Path.{◌≡◌}
use mathlib.Core.List.{List}
use Prim.Native.Nat.{ℕ}
use Rattle.shape.proofs.Single.{Settled, SettledWith, SettledShown, by-equation}
use Rattle.centre.proofs.Settled.{by-told}
use Rattle.class.proofs.banks.no_banks.Kinds as no-banks-kinds
use Rattle.class.proofs.banks.no_banks.Reads as no-banks-reads
use Rattle.class.proofs.banks.with_line.Kinds as with-line-kinds
use Rattle.class.proofs.banks.with_line.Reads as with-line-reads
use Rattle.class.proofs.ends.trimmed.Kinds as trimmed-kinds
use Rattle.class.proofs.ends.trimmed.Reads as trimmed-reads
use Rattle.class.proofs.ends.behind.Kinds as behind-kinds
use Rattle.class.proofs.ends.behind.Reads as behind-reads
use Rattle.class.proofs.calls.perform.Kinds as perform-kinds
use Rattle.class.proofs.calls.perform.Reads as perform-reads

pub no-banks : Settled _ no-banks-kinds.ps no-banks-kinds.r no-banks-reads.Post
no-banks κs a x y e f = by-equation

pub with-line : Settled _ with-line-kinds.ps with-line-kinds.r with-line-reads.Post
with-line κs a x y e f = by-equation

-- of a part that is handed back, its bytes are settled
pub trimmed : SettledShown _ trimmed-kinds.ps trimmed-kinds.r trimmed-reads.Post (List ℕ) (λ κs x. x.now)
trimmed κs a x y e f = by-equation

pub behind : SettledShown _ behind-kinds.ps behind-kinds.r behind-reads.Post (List ℕ) (λ κs x. x.now)
behind κs a x y e f = by-equation

-- the room and the buffer at exit are both settled
two : {A B : Type 0} {u v : A} {w z : B} → u ≡ v → w ≡ z → ◌≡◌ {A = A × B} (u, w) (v, z)
two e f = rw (e, f)

pub perform : SettledWith _ perform-kinds.ps perform-kinds.r perform-reads.Post (List ℕ × List ℕ)
    (λ κs e. (e.0.now, e.1.1.1.1.0.now))
perform κs a x y e f p q =
    (by-told x y p.0 q.0, two (by-equation p.1.0 q.1.0) (by-equation p.1.1 q.1.1))
