-- The rings of a mesh without boundary added up, side by side.
use Rattle.std.specs.Prelude.{ℕ, ◌+◌, ◌*◌, ◌/◌, ◌≤◌, ◌<◌, Bool, true, false, List, ◌≢◌, ◌≡◌, ℤ, pos, length, get_or, set}
use Rattle.points.specs.Axes.{coordinate, each_axis, plus, Fits}
use Rattle.points.specs.declared.Point.{Point}
use Rattle.theory.proofs.Rings.RingSums.{out_of, SumOut}
use Rattle.rules.specs.Conditions.{LongRing}
use Rattle.rules.specs.Numbers.{InRange}
use Rattle.rules.specs.Ring.{ring}
use Rattle.rules.specs.Sound.{Sound}
use Rattle.rules.specs.Step.{sum_over}
use Rattle.rules.specs.Tables.{Mesh, sides, link, boundary}
use Rattle.tables.specs.Lent.{point_in}
use Rattle.tables.specs.declared.Counts.{Counts}
use Rattle.rings.specs.declared.sums.RingSum.{RingSum}

-- A sound mesh without boundary.
pub record Closed (m : Mesh) : Type 0 where
  pub sound : Sound m
  pub inner : (h : ℕ) → h < sides m.topology → link m.topology h ≢ boundary

-- A ring of which nothing is known yet.
abbrev pub nothing : RingSum
nothing = record { length = 0; sum = each_axis (λ _. pos 0) }

-- The first n entries of the list are such rings.
pub record Cleared (n : ℕ) (rings : List RingSum) : Type 0 where
  pub size : n ≤ length rings
  pub each : (v : ℕ) → v < n → get_or rings v nothing ≡ nothing

-- The list has the length of each ring, which is 1 to 12, and the sum of its positions on each axis.
pub record RingSums (m : Mesh) (rings : List RingSum) : Type 0 where
  pub room : m.topology.vertices ≤ length rings
  pub long : (v : ℕ) → v < m.topology.vertices → (get_or rings v nothing).length ≡ length (ring m.topology v)
  pub some : (v : ℕ) → v < m.topology.vertices → 1 ≤ (get_or rings v nothing).length
  pub few : (v : ℕ) → v < m.topology.vertices → (get_or rings v nothing).length ≤ 12
  pub sum : (v k : ℕ) → v < m.topology.vertices → k < 3
      → coordinate (get_or rings v nothing).sum k ≡ sum_over m k (ring m.topology v)

-- By the answer: the rings are added up, or one of them is too long.
pub record RingsAdded (m : Mesh) (rings : List RingSum) (r : Bool) : Type 0 where
  pub whole : r ≡ true → RingSums m rings
  pub crowded : r ≡ false → LongRing m.topology

-- ---- one side, from one vertex to another

-- What is asked: the slots, and a sum that fits where fewer than 12 sides are counted.
pub record SideFits (positions : List ℤ) (from to : ℕ) (rings : List RingSum) : Type 0 where
  pub ahead : to < length positions / 3
  pub entry : from < length rings
  pub sum : (get_or rings from nothing).length < 12
      → Fits (plus (get_or rings from nothing).sum (point_in positions to))

-- The ring of a vertex, with a neighbour more.
abbrev pub with_one : RingSum → Point → RingSum
with_one r p = record { length = r.length + 1; sum = plus r.sum p }

-- By the answer: it is counted and added, or 12 were counted already.
pub record SideAdded (positions : List ℤ) (from to : ℕ) (rings rings' : List RingSum) (r : Bool) : Type 0 where
  pub put : r ≡ true → rings' ≡ set rings from (with_one (get_or rings from nothing) (point_in positions to))
  pub few : r ≡ true → (get_or rings from nothing).length < 12
  pub full : r ≡ false → 12 ≤ (get_or rings from nothing).length

-- ---- all sides

-- At most 65,536 triangles: the tables have the slots in use, and what stands there is in use and in range.
pub record Summable (n : Counts) (positions : List ℤ) (corners : List ℕ) : Type 0 where
  pub few : n.triangles ≤ 65536
  pub room : 3 * n.triangles ≤ length corners
  pub slots : 3 * n.vertices ≤ length positions
  pub corner : (h : ℕ) → h < 3 * n.triangles → get_or corners h 0 < n.vertices
  pub range : (i : ℕ) → i < 3 * n.vertices → InRange (get_or positions i (pos 0))

-- Of the first n sides the list has how many go out of each vertex, 12 at most, and the sum of where they lead.
pub record Summed (n vertices : ℕ) (positions : List ℤ) (corners : List ℕ) (rings : List RingSum) : Type 0 where
  pub room : vertices ≤ length rings
  pub counted : (v : ℕ) → v < vertices → (get_or rings v nothing).length ≡ out_of n corners v
  pub few : (v : ℕ) → v < vertices → (get_or rings v nothing).length ≤ 12
  pub added : (v k : ℕ) → v < vertices → k < 3
      → SumOut n positions corners v k (coordinate (get_or rings v nothing).sum k)

-- By the answer: the first n sides are added up, or more than 12 of all sides go out of some vertex.
pub record SidesAdded (n : ℕ) (c : Counts) (positions : List ℤ) (corners : List ℕ) (rings : List RingSum) (r : Bool)
    : Type 0 where
  pub whole : r ≡ true → Summed n c.vertices positions corners rings
  pub crowded : r ≡ false → (v : ℕ) × (v < c.vertices) × (12 < out_of (3 * c.triangles) corners v)
