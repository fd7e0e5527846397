-- `dividing::write_children` meets its contract.
use Prim.Native.Nat.{◌+◌, ◌*◌}
use native.Mathlib.Omega.{arith}
use Rattle.theory.proofs.Steps.Closed.{child_corners, child_links}
use Rattle.tables.specs.Lent.{topology_now}
use Rattle.dividing.proofs.ChildRows.{rows_of, child_rows}
use Rattle.dividing.proofs.write_children.Goals as goal

pub returns : goal.returns
returns c g =
    let d = topology_now c.args.counts c.args.corners.now c.args.links.now g in
    let one = child_rows d c.args.t (3 * c.args.t) (3 * c.args.t + 2) (omega arith) (omega arith) c.across-ab.ensures.0 c.across-ca.ensures.0 c.child_at-one.ensures in
    let two =
    child_rows d c.args.t (3 * c.args.t + 1) (3 * c.args.t) (omega arith) (omega arith) c.across-bc.ensures.0 c.across-ab.ensures.0 c.child_at-two.ensures in
    let three =
    child_rows d c.args.t (3 * c.args.t + 2) (3 * c.args.t + 1) (omega arith) (omega arith) c.across-ca.ensures.0 c.across-bc.ensures.0 c.child_at-three.ensures in (
      rows_of d.triangles c.args.t (child_corners d) _ _ _ c.args.corners.now _ _ _ one.0 two.0 three.0
          c.store_child.ensures.0 c.store_child-2.ensures.0 c.store_child-3.ensures.0,
      rows_of d.triangles c.args.t (child_links d) _ _ _ c.args.links.now _ _ _ one.1 two.1 three.1
          c.store_child.ensures.1 c.store_child-2.ensures.1 c.store_child-3.ensures.1,
    )
