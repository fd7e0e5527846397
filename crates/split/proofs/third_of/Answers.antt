-- `split::third_of` meets its contract.
use Rattle.tables.specs.Lent.{held, mesh_with}
use Rattle.split.proofs.Steps.{third_steps}
use Rattle.split.proofs.third_of.Goals as goal

pub returns : goal.returns
returns c n =
    let m = mesh_with n (held c.args.tables.now) in
    third_steps m c.args.t c.args.h c.args.i c.args.j _ _ _ _
    c.point_at-a.ensures c.point_at-b.ensures c.point_at-c.ensures c.thirds.ensures
