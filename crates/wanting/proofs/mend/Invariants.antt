use mathlib.Core.Path.{◌≡◌}
use Rattle.rules.specs.Boxes.{Box}
use Rattle.rules.specs.Tables.{Mesh}
use Rattle.wanting.specs.Wanting.{Looks, Mended}
use Rattle.wanting.proofs.mend.Given as goal

abbrev pub invariant-loop-t : goal.invariant-loop-t
invariant-loop-t l =
    (b : Box) (m : Mesh) → Looks b m l.corners l.generations l.inside l.below → l.triangles ≡ m.topology.triangles
    → Mended l.t-index l.slots b m l.initial.bits l.bits l.words
