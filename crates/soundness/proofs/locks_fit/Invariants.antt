use mathlib.Core.Path.{◌≡◌}
use lib.Dec.{leb}
use lib.ListN.{get_or}
use Rattle.rules.specs.Below.{all}
use Rattle.soundness.proofs.locks_fit.Given as goal

abbrev pub invariant-loop-lock : goal.invariant-loop-lock
invariant-loop-lock l =
    l.fit ≡ all l.lock-index (λ t. leb (get_or l.locks t 0) 1)
