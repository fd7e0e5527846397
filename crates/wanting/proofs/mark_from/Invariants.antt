use mathlib.Core.Path.{◌≡◌}
use Rattle.rules.specs.Boxes.{Box}
use Rattle.rules.specs.Tables.{Mesh}
use Rattle.wanting.specs.Wanting.{Looks}
use Rattle.wanting.proofs.Marking.{MarkedTo}
use Rattle.wanting.proofs.mark_from.Given as goal

abbrev pub invariant-loop-t : goal.invariant-loop-t
invariant-loop-t l =
    (b : Box) (m : Mesh) → Looks b m l.corners l.generations l.inside l.below → l.triangles ≡ m.topology.triangles
    → MarkedTo l.from l.t b m l.initial.bits l.bits l.words
