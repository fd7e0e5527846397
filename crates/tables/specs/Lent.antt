-- The tables of the rules, as lent slices hold them, and one triangle of them as a record.
use Rattle.std.specs.Prelude.{ℕ, ◌+◌, ◌*◌, ◌/◌, ◌≤◌, List, [], ◌∷◌, ◌≡◌, ℤ, pos, length, get_or}
use Rattle.points.specs.Axes.{each_axis}
use Rattle.points.specs.declared.Point.{Point}
use Rattle.rules.specs.Spares.{Spares}
use Rattle.rules.specs.Tables.{Topology, Mesh, topology_of, mesh_of, origin, link, generation, put_three, put_triangle}
use Rattle.tables.specs.declared.Counts.{Counts}
use Rattle.tables.specs.declared.Tables.{Tables}
use Rattle.tables.specs.declared.Triangle.{Triangle}
use Rattle.tables.specs.declared.View.{View}

-- What the lists of the tables hold, with the counts in use.
abbrev pub topology_now : Counts → List ℕ → List ℕ → List ℕ → Topology
topology_now n corners links generations = topology_of n.vertices n.triangles corners links generations

abbrev pub mesh_now : Counts → List ℤ → List ℕ → List ℕ → List ℕ → List ℕ → Mesh
mesh_now n positions corners links generations locks =
    mesh_of (topology_now n corners links generations) positions locks n.rule

abbrev pub spares_now : List ℤ → List ℕ → List ℕ → List ℕ → List ℕ → Spares
spares_now positions corners links generations locks = record {
  positions = positions;
  corners = corners;
  links = links;
  generations = generations;
  locks = locks;
}

-- What five tables hold: lent for writing, and for reading.
abbrev pub held : Tables → Spares
held t = spares_now t.positions.now t.corners.now t.links.now t.generations.now t.locks.now

abbrev pub seen : View → Spares
seen v = spares_now v.positions.now v.corners.now v.links.now v.generations.now v.locks.now

-- The mesh in them, and its triangles.
abbrev pub mesh_with : Counts → Spares → Mesh
mesh_with n s = mesh_now n s.positions s.corners s.links s.generations s.locks

-- The same with points that are not in them.
abbrev pub mesh_over : Counts → List ℤ → Spares → Mesh
mesh_over n positions s = mesh_now n positions s.corners s.links s.generations s.locks

abbrev pub topology_with : Counts → Spares → Topology
topology_with n s = topology_now n s.corners s.links s.generations

-- Tables of the same sizes.
pub record SameSizes (a b : Spares) : Type 0 where
  pub positions : length a.positions ≡ length b.positions
  pub corners : length a.corners ≡ length b.corners
  pub links : length a.links ≡ length b.links
  pub generations : length a.generations ≡ length b.generations
  pub locks : length a.locks ≡ length b.locks

-- The same five tables, whatever they hold.
pub record SameTables (a b : Tables) : Type 0 where
  pub sizes : SameSizes (held a) (held b)
  pub positions : a.positions.ghost_name ≡ b.positions.ghost_name
  pub corners : a.corners.ghost_name ≡ b.corners.ghost_name
  pub links : a.links.ghost_name ≡ b.links.ghost_name
  pub generations : a.generations.ghost_name ≡ b.generations.ghost_name
  pub locks : a.locks.ghost_name ≡ b.locks.ghost_name

-- The same, where only the triangles' corners, links and generations may hold something else.
pub record SameBeside (a b : Tables) : Type 0 where
  pub tables : SameTables a b
  pub positions : a.positions.now ≡ b.positions.now
  pub locks : a.locks.now ≡ b.locks.now

-- Tables with slots for so many vertices and triangles.
pub record HasSlots (n : Counts) (s : Spares) : Type 0 where
  pub positions : 3 * n.vertices ≤ length s.positions
  pub corners : 3 * n.triangles ≤ length s.corners
  pub links : 3 * n.triangles ≤ length s.links
  pub generations : n.triangles ≤ length s.generations
  pub locks : n.triangles ≤ length s.locks

-- The triangles' tables agree in their slots and keep to the maximum.
pub record TrianglesAgree (s : Spares) : Type 0 where
  pub corners : length s.corners ≡ 3 * length s.generations
  pub links : length s.links ≡ 3 * length s.generations
  pub few : length s.generations ≤ 65536

-- The vertices' table has three entries a slot and keeps to the maximum.
pub record VerticesAgree (positions : List ℤ) : Type 0 where
  pub whole : length positions ≡ 3 * (length positions / 3)
  pub few : length positions / 3 ≤ 32768

-- The triangle in slot t.
abbrev pub triangle_at : Topology → ℕ → Triangle
triangle_at m t = record {
  corners = origin m (3 * t) ∷ origin m (3 * t + 1) ∷ origin m (3 * t + 2) ∷ [];
  links = link m (3 * t) ∷ link m (3 * t + 1) ∷ link m (3 * t + 2) ∷ [];
  generation = generation m t;
}

-- The three entries of an array.
abbrev pub entries : List ℕ → ℕ × ℕ × ℕ
entries l = (get_or l 0 0, get_or l 1 0, get_or l 2 0)

-- The point in slot v of a table.
abbrev pub point_in : List ℤ → ℕ → Point
point_in table v = each_axis (λ k. get_or table (3 * v + k) (pos 0))

-- The triangle x put into slot t, and the point p into vertex slot v.
abbrev pub put : ℕ → Triangle → Topology → Topology
put t x m = put_triangle t (entries x.corners) (entries x.links) x.generation m

abbrev pub put_point : ℕ → Point → List ℤ → List ℤ
put_point v p positions = put_three v (p.x, p.y, p.z) positions
