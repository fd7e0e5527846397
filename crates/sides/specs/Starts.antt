-- The starts that the pass over the triangles keeps.
use Rattle.std.specs.Prelude.{ℕ, ◌+◌, ◌-◌, ◌≤◌, ◌<◌, List, ◌≢◌, ◌≡◌, length, get_or}
use Rattle.rules.specs.Tables.{boundary}
use Rattle.rings.specs.Walks.{Begun}

-- The start of v among the first n sides, kept as x: a side to walk from, and the lowest where none is on the boundary.
pub record Kept (corners links : List ℕ) (n v x : ℕ) : Type 0 where
  pub begun : Begun corners links n n v x
  pub lowest : 0 < x → get_or links (x - 1) 0 ≢ boundary → (h : ℕ) → h < n → get_or corners h 0 ≡ v → x ≤ h + 1

-- A start is kept for each vertex.
pub record AllKept (vertices : ℕ) (corners links : List ℕ) (n : ℕ) (starts : List ℕ) : Type 0 where
  pub size : vertices ≤ length starts
  pub each : (v : ℕ) → v < vertices → Kept corners links n v (get_or starts v 0)
