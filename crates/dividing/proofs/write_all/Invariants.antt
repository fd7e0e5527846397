use Prim.Native.Nat.{◌*◌}
use mathlib.Core.List.{[]}
use mathlib.Core.Path.{◌≡◌}
use Rattle.theory.proofs.Links.Rows.{put_rows}
use Rattle.theory.proofs.Steps.Children.{child_of}
use Rattle.theory.proofs.Steps.Closed.{child_corners, child_links}
use Rattle.tables.specs.Lent.{topology_now}
use Rattle.dividing.proofs.write_all.Given as goal

abbrev pub invariant-loop-t : goal.invariant-loop-t
invariant-loop-t l =
    let d = topology_now l.counts l.initial.corners l.initial.links [] in
    (l.corners ≡ put_rows (3 * l.t) (child_of d) (child_corners d) l.initial.corners)
    × (l.links ≡ put_rows (3 * l.t) (child_of d) (child_links d) l.initial.links)
