use mathlib.Core.Path.{◌≡◌}
use lib.Dec.{eqb}
use lib.ListN.{get_or}
use Rattle.rules.specs.Below.{all}
use Rattle.moving.proofs.all_of.Given as goal

abbrev pub invariant-loop-generation : goal.invariant-loop-generation
invariant-loop-generation l =
    l.same ≡ all l.generation-index (λ i. eqb (get_or l.generations i 0) l.g)
