use mathlib.Core.Bool.{not}
use mathlib.Core.Path.{◌≡◌}
use lib.Dec.{eqb}
use lib.ListN.{get_or}
use Rattle.rules.specs.Below.{all}
use Rattle.rules.specs.Tables.{boundary}
use Rattle.moving.proofs.none_on_boundary.Given as goal

abbrev pub invariant-loop-link : goal.invariant-loop-link
invariant-loop-link l =
    l.inner ≡ all l.link-index (λ i. not (eqb (get_or l.links i 0) boundary))
