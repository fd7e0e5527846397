-- `dividing::write_all` meets its contract.
use native.Mathlib.Omega.{arith}
use mathlib.Core.List.{[]}
use mathlib.Core.Path.{◌≡◌, refl}
use Rattle.theory.proofs.Links.Rows.{put_rows}
use Rattle.theory.proofs.Steps.Children.{child_of}
use Rattle.theory.proofs.Steps.Closed.{child_corners, child_links}
use Rattle.tables.specs.Lent.{mesh_now, topology_now}
use Rattle.dividing.proofs.ChildRows.{rows_on, same_corners, same_links, next_fits}
use Rattle.dividing.proofs.write_all.Goals as goal

pub loop-t-init : goal.loop-t-init
unfolding put_rows
loop-t-init c =
    (refl, refl)

pub write_children-requires : goal.write_children-requires
write_children-requires c =
    let (p, g, k, R) = c.requires in
    next_fits (mesh_now c.args.counts p c.args.corners.now c.args.links.now g k) R c.args.counts refl refl c.loop-t.t
    c.loop-t-test.true c.loop-t.invariant.0 c.loop-t.invariant.1

pub loop-t-preserved : goal.loop-t-preserved
loop-t-preserved c =
    let d = topology_now c.args.counts c.args.corners.now c.args.links.now [] in
    let (corners, links) = c.loop-t.invariant in
    let done = c.write_children.ensures [] in (
      rows_on (child_of d) (child_corners d) _ d.corners c.loop-t.t corners (same_corners d c.loop-t.t c.loop-t-test.true corners links) done.0,
      rows_on (child_of d) (child_links d) _ d.links c.loop-t.t links (same_links d c.loop-t.t c.loop-t-test.true corners links) done.1,
    )

pub returns : goal.returns
returns c g =
    let e : c.loop-t.t ≡ c.args.counts.triangles = omega arith in
    (rw e at c.loop-t.invariant.0, rw e at c.loop-t.invariant.1)
