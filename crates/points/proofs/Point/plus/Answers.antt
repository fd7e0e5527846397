-- `points::Point::plus` meets its contract.
use native.Mathlib.Omega.{arith}
use Rattle.std.proofs.lemmas.Grind.{common_steps}
use Rattle.points.proofs.Point.plus.Goals as goal

pub added-requires : goal.added-requires
added-requires c =
    let fits = c.requires.axis 0 in
    grind (arith, common_steps)

pub added-requires-2 : goal.added-requires-2
added-requires-2 c =
    let fits = c.requires.axis 1 in
    grind (arith, common_steps)

pub added-requires-3 : goal.added-requires-3
added-requires-3 c =
    let fits = c.requires.axis 2 in
    grind (arith, common_steps)
