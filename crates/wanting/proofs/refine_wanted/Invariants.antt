use mathlib.Core.Path.{◌≡◌}
use Prim.Native.Nat.{◌-◌, ◌*◌}
use lib.ListN.{length}
use Rattle.marks.specs.Marks.{marked}
use Rattle.points.specs.Axes.{box_of}
use Rattle.rules.specs.Below.{lowest}
use Rattle.rules.specs.Spares.{Spares}
use Rattle.rules.specs.Tables.{Mesh}
use Rattle.tables.specs.Lent.{mesh_with, held, SameTables}
use Rattle.refining.specs.Batches.{Begins}
use Rattle.wanting.specs.Wanting.{Marked}
use Rattle.wanting.proofs.Told.{BoxingTold}
use Rattle.wanting.proofs.refine_wanted.Given as goal

abbrev pub invariant-loop-t : goal.invariant-loop-t
invariant-loop-t l =
    ((m : Mesh) (s : Spares)
    → Begins m s m.topology.generations (mesh_with l.initial.reached (held l.initial.tables))
    → BoxingTold (box_of l.low l.high l.below) m s l.handled l.splits l.flips l.initial.report l.report
    (mesh_with l.reached (held l.tables)))
    × Marked (box_of l.low l.high l.below) (mesh_with l.reached (held l.tables)) l.inside l.bits l.words
    × (l.t ≡ lowest (64 * length l.bits) (marked l.bits))
    × SameTables l.tables l.initial.tables

abbrev pub decreases-loop-t : goal.decreases-loop-t
decreases-loop-t l = 65536 - l.reached.triangles
