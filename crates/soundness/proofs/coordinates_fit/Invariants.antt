use mathlib.Core.Path.{◌≡◌}
use lib.IntN.{pos}
use lib.ListN.{get_or}
use Rattle.rules.specs.Below.{all}
use Rattle.rules.specs.Numbers.{in_range}
use Rattle.soundness.proofs.coordinates_fit.Given as goal

abbrev pub invariant-loop-x : goal.invariant-loop-x
invariant-loop-x l =
    l.fit ≡ all l.x-index (λ i. in_range (get_or l.positions i (pos 0)))
