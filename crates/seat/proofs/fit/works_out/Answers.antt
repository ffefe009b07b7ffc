-- Each turn leaves what comes out as it was, with one step less to go; a seat that was worked forward so far has no high numbers.
use Rattle.std.specs.Prelude.{nat_eq}
use Rattle.std.specs.Cmp.Lexicographic.{pointwise}
use mathlib.Core.Path.{sym, ap, ◌∙◌}
use mathlib.Core.List.{List}
use Prim.Native.Nat.{ℕ}
use native.Mathlib.Omega.{arith}
use Rattle.journal.proofs.Grown.{grown-low}
use Rattle.journal.proofs.Backed.{possible-fits}
use Rattle.seat.proofs.Compared.{same-pointwise}
use Rattle.seat.proofs.Turns.{works-first, works-next, works-not, works-last}
use Rattle.seat.proofs.fit.works_out.Goals as goal

pub loop-k-init : goal.loop-k-init
loop-k-init c =
    works-first c.args.s.now c.args.opening c.args.count c.args.given.now c.open_with.new.s c.requires.1 c.requires.3 c.open_with.ensures

pub returns-then-not-is_possible : goal.returns-then-not-is_possible
returns-then-not-is_possible c =
    works-not c.args.s.now c.args.opening c.args.count c.args.given.now c.loop-k.t c.loop-k.k c.step-x.result c.loop-k.invariant c.loop-k-test.true
    c.step-x.ensures (sym c.is_possible.ensures ∙ c.if-not-is_possible.true)

pub append-requires : goal.append-requires
append-requires c = (
  grown-low c.loop-k.k c.loop-k.t (omega (arith, c.loop-k.invariant.most, c.loop-k.invariant.within)) c.loop-k.invariant.grown,
  possible-fits c.step-x.result c.loop-k.t (sym c.is_possible.ensures ∙ c.if-not-is_possible.false),
  omega (arith, c.loop-k.invariant.most, c.loop-k.invariant.counted),
)

pub loop-k-preserved : goal.loop-k-preserved
loop-k-preserved c =
    works-next c.args.s.now c.args.opening c.args.count c.args.given.now c.loop-k.t c.append.new.s c.loop-k.k c.step-x.result c.loop-k.invariant
    c.loop-k-test.true c.step-x.ensures (sym c.is_possible.ensures ∙ c.if-not-is_possible.false) c.append.ensures

pub returns : goal.returns
returns c =
    works-last c.args.s.now c.args.opening c.args.count c.args.given.now c.loop-k.t c.loop-k.k c.eq.result c.loop-k.invariant c.loop-k-test.false
    (c.eq.ensures ∙ ap (λ (t : List ℕ). pointwise nat_eq t c.args.s.now) c.as_slice.ensures ∙ same-pointwise c.loop-k.t c.args.s.now)
