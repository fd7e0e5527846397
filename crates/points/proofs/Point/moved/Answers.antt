-- `points::Point::moved` meets its contract.
use native.Mathlib.Omega.{arith}
use Rattle.points.proofs.Means.{light, move_parts, move_by}
use Rattle.points.proofs.Point.moved.Goals as goal

pub overflow_sub-w : goal.overflow_sub-w
overflow_sub-w c =
    omega (arith, light c.args.n c.weight_of-w.result c.weight_of-w.ensures)

pub mean-requires : goal.mean-requires
mean-requires c =
    move_parts c.args.n c.weight_of-w.result c.weight_of-w.ensures c.requires.0 c.requires.1

pub returns : goal.returns
returns c =
    move_by c.args.n c.weight_of-w.result c.weight_of-w.ensures c.args.rule c.args.self c.args.sum
    c.mean.result c.mean.ensures
