use Rattle.std.proofs.Common.{◌≡◌, ◌-◌, ◌<◌, ◌≤◌, length, ◌∷◌}
use Rattle.sheet.specs.Grammar.{element_most}
use Rattle.sheet.specs.Machine.{begun}
use Rattle.sheet.specs.Parts.{run_at, part_of}
use Rattle.sheet.specs.Element.{state_of}
use Rattle.sheet.proofs.Children.{Reaches}
use Rattle.sheet.proofs.element.+element.Given as goal

abbrev pub decreases-element : goal.decreases-element
decreases-element l = l.left

-- the children so far were read, and the next may begin at i
abbrev pub invariant-loop-child : goal.invariant-loop-child
invariant-loop-child l = (l.at < l.i) × (l.i ≤ length l.s) × (l.count < l.seen) × (l.seen < element_most)
    × (length l.starts ≡ element_most) × (length l.depths ≡ element_most)
    × Reaches l.s l.left
    (λ names. run_at l.s (state_of begun (part_of l.s l.at l.to ∷ names) l.initial.seen l.initial.starts l.initial.depths) l.initial.i)
    (λ names. state_of begun (part_of l.s l.at l.to ∷ names) l.seen l.starts l.depths) l.i

abbrev pub decreases-loop-child : goal.decreases-loop-child
decreases-loop-child l = length l.s - l.i
