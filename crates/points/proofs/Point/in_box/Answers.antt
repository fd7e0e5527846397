-- `points::Point::in_box` meets its contract: the axes that are looked at decide.
use borrow.Author.Rules.{rules}
use Rattle.points.proofs.Point.in_box.Goals as goal
use Rattle.points.proofs.Point.in_box.Goals.{then-between, else-between}

pub returns-then-between-2 : goal.returns-then-between-2
returns-then-between-2 c =
    elim c.if-between.branch [ then-between w ↦ search rules | else-between w ↦ search rules ]

pub returns-else-between-2 : goal.returns-else-between-2
returns-else-between-2 c =
    elim c.if-between.branch [ then-between w ↦ search rules | else-between w ↦ search rules ]
