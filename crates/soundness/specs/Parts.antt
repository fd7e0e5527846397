-- Parts of the test of soundness, as the code makes them, and the start that it tells.
use Rattle.std.specs.Prelude.{ℕ, Bool, true, false, Option, Some, None, ◌&&◌, leb}
use Rattle.rules.specs.Below.{all}
use Rattle.rules.specs.Numbers.{known_rule}
use Rattle.rules.specs.Ring.{first_side}
use Rattle.rules.specs.Sound.{has_one_fan}
use Rattle.rules.specs.Tables.{Topology, Mesh, vertex_slots, triangle_slots}
use Rattle.sides.specs.Parts.{triangle_fits}

-- The rule is known, and the counts are at least 1 and within the slots.
abbrev pub counts_fit : Mesh → Bool
counts_fit m =
    known_rule m.rule
    && leb 1 m.topology.vertices
    && leb 1 m.topology.triangles
    && leb m.topology.vertices (vertex_slots m)
    && leb m.topology.triangles (triangle_slots m)

-- Every triangle fits, and each vertex has one fan.
abbrev pub is_surface : Topology → Bool
is_surface m = all m.triangles (triangle_fits m) && all m.vertices (has_one_fan m)

-- The side where the ring of v starts, if it is to be told.
abbrev pub start_if : Bool → Topology → ℕ → Option ℕ
start_if told m v = elim told [ true ↦ Some (first_side m v) | false ↦ None ]
