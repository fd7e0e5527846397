-- The answers of the calls that read, with what the lent slices hold afterwards, as outcomes of the rules.
use Rattle.std.specs.Prelude.{ℕ, ◌*◌, ◌/◌, ◌≤◌, Bool, true, false, List, Result, Ok, Err, ◌≡◌, ltb, ℤ, pos, length}
use Rattle.points.specs.declared.Point.{Point}
use Rattle.rules.specs.Calls.{Outcome, answer_of, no_room, buffer_room, outcome_of, refused_with, zero_point}
use Rattle.rules.specs.Calls.{ring_refusal}
use Rattle.rules.specs.Ring.{ring}
use Rattle.rules.specs.Spares.{Spares}
use Rattle.rules.specs.Tables.{Mesh}
use Rattle.rings.specs.Rings.{ring_from, Walkable}
use Rattle.tables.specs.Answers.{table_outcome}
use Rattle.tables.specs.Lent.{mesh_with, point_in}
use Rattle.tables.specs.Refusals.{number}
use Rattle.tables.specs.declared.refusals.Refusal.{Refusal}
use Rattle.reading.specs.declared.FoundRing.{FoundRing}
use Rattle.reading.specs.declared.LimitRead.{LimitRead}
use Rattle.reading.specs.declared.RingRead.{RingRead}
use Rattle.reading.specs.declared.PositionRead.{PositionRead}

-- The outcome of a call that reads limit positions.
abbrev pub limit_outcome : LimitRead → Spares → List ℤ → Outcome
limit_outcome a s table = table_outcome a.refusal (mesh_with a.counts s) table

-- The outcome of a call that reads a ring.
abbrev pub ring_outcome : RingRead → Spares → List ℕ → Outcome
ring_outcome a s buffer =
    let m = mesh_with a.counts s in
    outcome_of (answer_of a.refusal 0 0 a.length zero_point m) m (buffer_room buffer)

-- A ring of v into a buffer with this room is refused with n, or 0 for none.
pub record Refused (v room n : ℕ) (m : Mesh) : Type 0 where
  pub first : (buffer : List ℕ) → length buffer ≡ room → n ≡ ring_refusal v buffer m

-- A ring that can be written to a buffer with this room: the walk from its first side gives the ring of v.
pub record Found (v room : ℕ) (m : Mesh) (a : FoundRing) : Type 0 where
  pub walk : Walkable m.topology.triangles a.first m.topology.links
  pub corners : 3 * m.topology.triangles ≤ length m.topology.corners
  pub same : ring m.topology v ≡ ring_from m.topology a.first
  pub entries : a.length ≡ length (ring m.topology v)
  pub fits : length (ring m.topology v) ≤ room
  pub accepted : Refused v room 0 m

-- The outcome of a call that reads a position.
abbrev pub position_outcome : PositionRead → Spares → Outcome
position_outcome a s =
    let m = mesh_with a.counts s in
    outcome_of (answer_of a.refusal 0 0 0 (a.point.x, a.point.y, a.point.z) m) m no_room

-- The outcome of one that finds this point, or is refused.
abbrev pub point_outcome : Result Point Refusal → Mesh → Outcome
point_outcome (Ok p) m = outcome_of (answer_of 0 0 0 0 (p.x, p.y, p.z) m) m no_room
point_outcome (Err r) m = refused_with (number r) m no_room

-- The point in slot v of a table, or zeros where it has no such slot.
abbrev pub point_if : Bool → Point → Point
point_if true p = p
point_if false p = record { x = pos 0; y = pos 0; z = pos 0 }

abbrev pub point_or_zero : List ℤ → ℕ → Point
point_or_zero table v = point_if (ltb v (length table / 3)) (point_in table v)
