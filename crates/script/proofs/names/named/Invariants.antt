-- The names that are left give the word that all of them give.
use Rattle.std.proofs.Common.{◌≡◌, map, drop}
use Rattle.script.specs.Words.{named}
use Rattle.script.proofs.names.named.Given as goal

abbrev pub invariant-loop-name : goal.invariant-loop-name
invariant-loop-name l = named (map (λ n. (n.0.now, n.1)) l.names) l.s ≡ named (map (λ n. (n.0.now, n.1)) (drop l.name-index l.names)) l.s
