-- A cage (control mesh) as bytes, and the mesh that it is loaded as. (The cage and the lent tables; Load)
use Rattle.std.specs.Prelude.{ℕ, ◌+◌, ◌*◌, Bool, true, false, not, ◌&&◌, List, eqb, ltb, leb, ℤ, length}
use Rattle.rules.specs.Below.{all, any, lowest, fill}
use Rattle.rules.specs.Numbers.{number_at, signed, in_range}
use Rattle.rules.specs.Sound.{has_one_fan}
use Rattle.rules.specs.Tables.{Topology, Mesh, topology_of, mesh_of, sides, next, boundary, rotate, vertex_slots}
use Rattle.rules.specs.Tables.{triangle_slots}

-- `coordinate (3 * v + k)` is coordinate k of vertex v, and `corner h` the origin of side h.
pub record Cage : Type 0 where
  pub vertices : ℕ
  pub triangles : ℕ
  pub coordinate : ℕ → ℤ
  pub corner : ℕ → ℕ

-- The cage that bytes hold: the sizes, then the coordinates, then the corners.
unfoldable pub cage_of : List ℕ → Cage
cage_of bytes =
    let v = number_at bytes 0 in
    record {
      vertices = v;
      triangles = number_at bytes 4;
      coordinate = λ i. signed (number_at bytes (8 + 4 * i));
      corner = λ h. number_at bytes (8 + 12 * v + 4 * h);
    }

-- Side k runs between the vertices of side h the other way.
abbrev pub opposite : Cage → ℕ → ℕ → Bool
opposite c h k = eqb (c.corner k) (c.corner (next h)) && eqb (c.corner (next k)) (c.corner h)

-- Side k runs between the vertices of side h the same way.
abbrev pub parallel : Cage → ℕ → ℕ → Bool
parallel c h k = eqb (c.corner k) (c.corner h) && eqb (c.corner (next k)) (c.corner (next h))

-- The side opposite to h, or the boundary. Condition 5 leaves at most one; before it is tested, the lowest is meant.
unfoldable pub partner : Cage → ℕ → ℕ
partner c h =
    let k = lowest (3 * c.triangles) (opposite c h) in
    elim (ltb k (3 * c.triangles)) [ true ↦ k | false ↦ boundary ]

-- The mesh m with the cage in its first slots: all generations and locks 0, links by opposite sides.
unfoldable pub loaded : Cage → Mesh → Mesh
loaded c m =
    let t = m.topology in
    mesh_of (topology_of c.vertices c.triangles
    (fill (3 * c.triangles) c.corner t.corners)
    (fill (3 * c.triangles) (partner c) t.links)
    (fill c.triangles (λ i. 0) t.generations))
    (fill (3 * c.vertices) c.coordinate m.positions)
    (fill c.triangles (λ i. 0) m.locks)
    m.rule

-- ---- tests of a cage (Refused inputs, 2 to 6), which decide the conditions (theory/proofs/Results, load-returns)

-- The bytes are as long as their sizes say, and the sizes are at least 1 and within the slots.
unfoldable pub sizes_fit : List ℕ → Mesh → Bool
sizes_fit bytes m =
    let c = cage_of bytes in
    leb 8 (length bytes)
    && leb 1 c.vertices
    && leb 1 c.triangles
    && leb c.vertices (vertex_slots m)
    && leb c.triangles (triangle_slots m)
    && eqb (length bytes) (8 + 12 * (c.vertices + c.triangles))

-- Corners are below V, and no triangle repeats one.
unfoldable pub corners_fit : Cage → Bool
corners_fit c =
    all (3 * c.triangles) (λ h. ltb (c.corner h) c.vertices && not (eqb (c.corner h) (c.corner (next h))))

-- Coordinates are in range.
unfoldable pub coordinates_fit : Cage → Bool
coordinates_fit c = all (3 * c.vertices) (λ i. in_range (c.coordinate i))

-- No directed side occurs twice.
unfoldable pub sides_differ : Cage → Bool
sides_differ c = all (3 * c.triangles) (λ h. all h (λ k. not (parallel c h k)))

-- Each vertex has one fan, in the tables that the cage would be loaded as.
unfoldable pub fans_fit : Cage → Mesh → Bool
fans_fit c m = all c.vertices (has_one_fan (loaded c m).topology)

-- A turn from side h leads to a side in use, and a second one back to h. That the first is in use has to be asked: past
-- the tables, as the boundary is, a turn reads as side 0.
abbrev pub turns_back : Topology → ℕ → Bool
turns_back m h = ltb (rotate m h) (sides m) && eqb (rotate m (rotate m h)) h

-- Some side turns back, in the same tables: where each vertex has one fan, its origin is off the boundary and has two
-- triangles. (Request g)
unfoldable pub some_inner_of_two : Cage → Mesh → Bool
some_inner_of_two c m = any (3 * c.triangles) (turns_back (loaded c m).topology)
