use mathlib.Core.Path.{◌≡◌}
use lib.Dec.{eqb}
use lib.ListN.{get_or}
use Rattle.rules.specs.Below.{any}
use Rattle.refining.proofs.locked.some_locked.Given as goal

abbrev pub invariant-loop-slot : goal.invariant-loop-slot
invariant-loop-slot l = l.some ≡ any l.slot-index (λ k. eqb (get_or l.locks (get_or l.slots k 0) 0) 1)
