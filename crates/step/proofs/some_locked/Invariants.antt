use mathlib.Core.Path.{◌≡◌}
use lib.Dec.{eqb}
use lib.ListN.{get_or}
use Rattle.rules.specs.Below.{any}
use Rattle.step.proofs.some_locked.Given as goal

abbrev pub invariant-loop-lock : goal.invariant-loop-lock
invariant-loop-lock l =
    l.some ≡ any l.lock-index (λ t. eqb (get_or l.locks t 0) 1)
