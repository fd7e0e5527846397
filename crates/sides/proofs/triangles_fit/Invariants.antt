use Prim.Native.Nat.{◌*◌}
use mathlib.Core.Bool.{true}
use mathlib.Core.Path.{◌≡◌}
use Rattle.rules.specs.Below.{all}
use Rattle.tables.specs.Lent.{seen, topology_with}
use Rattle.sides.specs.Parts.{triangle_fits}
use Rattle.sides.specs.Starts.{AllKept}
use Rattle.sides.proofs.triangles_fit.Given as goal

abbrev pub invariant-loop-t : goal.invariant-loop-t
invariant-loop-t l =
    (all l.t (triangle_fits (topology_with l.counts (seen l.view))) ≡ true)
    × AllKept l.counts.vertices l.view.corners.now l.view.links.now (3 * l.t) l.starts
