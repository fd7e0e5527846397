-- `points::Point::limit` meets its contract.
use native.Mathlib.Omega.{arith}
use Rattle.points.proofs.Means.{light, limit_parts, limit_by}
use Rattle.points.proofs.Point.limit.Goals as goal

pub overflow_mul-w : goal.overflow_mul-w
overflow_mul-w c =
    omega (arith, light c.args.n c.weight_of-w.result c.weight_of-w.ensures)

pub mean-requires : goal.mean-requires
mean-requires c =
    limit_parts c.args.n c.weight_of-w.result c.weight_of-w.ensures c.requires.0 c.requires.1

pub returns : goal.returns
returns c =
    limit_by c.args.n c.weight_of-w.result c.weight_of-w.ensures c.args.rule c.args.self c.args.sum
    c.mean.result c.mean.ensures
