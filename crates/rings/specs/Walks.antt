-- The walks by which fans are tested, and where they start.
use Rattle.std.specs.Prelude.{ℕ, ◌-◌, ◌*◌, ◌≤◌, ◌<◌, Bool, List, ◌≢◌, ◌⊎◌, ◌≡◌, length, get_or}
use Rattle.theory.proofs.Rings.Turning.{Glued}
use Rattle.rules.specs.Below.{all}
use Rattle.rules.specs.Sound.{has_one_fan}
use Rattle.rules.specs.Tables.{topology_of, boundary}

-- Room for n numbers, all 0.
pub record Zeroed (n : ℕ) (l : List ℕ) : Type 0 where
  pub size : n ≤ length l
  pub each : (i : ℕ) → i < n → get_or l i 0 ≡ 0

-- No side out of v, among the first n, is on the boundary.
abbrev pub NoneOnBoundary : List ℕ → List ℕ → ℕ → ℕ → Type 0
NoneOnBoundary corners links n v = (h : ℕ) → h < n → get_or corners h 0 ≡ v → get_or links h 0 ≢ boundary

-- A side out of v to walk from, kept as x: 0 where none of the first n sides goes out of v, else one more than a side
-- out of v, on the boundary if one of the first b is.
pub record Begun (corners links : List ℕ) (n b v x : ℕ) : Type 0 where
  pub none : x ≡ 0 → (h : ℕ) → h < n → get_or corners h 0 ≢ v
  pub in_use : x ≤ n
  pub out : 0 < x → get_or corners (x - 1) 0 ≡ v
  pub best : 0 < x → (get_or links (x - 1) 0 ≡ boundary) ⊎ NoneOnBoundary corners links b v

-- Such a side is kept for each vertex.
pub record AllBegun (vertices : ℕ) (corners links : List ℕ) (n b : ℕ) (starts : List ℕ) : Type 0 where
  pub size : vertices ≤ length starts
  pub each : (v : ℕ) → v < vertices → Begun corners links n b v (get_or starts v 0)

-- Links of this many triangles, and for each vertex a start among their sides, or none.
pub record StartsInUse (vertices triangles : ℕ) (links starts : List ℕ) : Type 0 where
  pub few_vertices : vertices ≤ 32768
  pub few_triangles : triangles ≤ 65536
  pub link_room : 3 * triangles ≤ length links
  pub start_room : vertices ≤ length starts
  pub in_use : (v : ℕ) → v < vertices → get_or starts v 0 ≤ 3 * triangles

-- Each of the first n corners is one of so many vertices.
abbrev pub CornersInUse : ℕ → ℕ → List ℕ → Type 0
CornersInUse vertices n corners = (h : ℕ) → h < n → get_or corners h 0 < vertices

-- With whatever generations the triangles are glued, r says whether each vertex has one fan.
abbrev pub TellsFans : ℕ → ℕ → List ℕ → List ℕ → Bool → Type 0
TellsFans vertices triangles corners links r = (g : List ℕ) →
    let m = topology_of vertices triangles corners links g in
    Glued m → r ≡ all vertices (has_one_fan m)
