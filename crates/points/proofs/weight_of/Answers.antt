-- `points::weight_of` meets its contract: the table is that of the rules.
use mathlib.Core.Path.{refl}
use Rattle.rules.specs.Numbers.{weights, weight}
use Rattle.points.proofs.weight_of.Goals as goal

pub returns : goal.returns
unfolding weight weights
returns c =
    refl
