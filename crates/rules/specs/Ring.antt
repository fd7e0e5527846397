-- The triangles round a vertex and the ring of its neighbours. (Rings and positions)
use Rattle.std.specs.Prelude.{ℕ, zero, suc, ◌<◌, true, false, not, ◌&&◌, List, [], ◌∷◌, ◌≡◌, eqb, ltb}
use Rattle.rules.specs.Below.{lowest, count}
use Rattle.rules.specs.Tables.{Topology, sides, origin, target, previous, link, rotate, boundary}

-- A side out of v is on the boundary.
abbrev pub OnBoundary : Topology → ℕ → Type 0
OnBoundary m v = (h : ℕ) × (h < sides m) × (origin m h ≡ v) × (link m h ≡ boundary)

-- The number of triangles that v has: each has one side out of it.
abbrev pub triangle_count : Topology → ℕ → ℕ
triangle_count m v = count (sides m) (λ h. eqb (origin m h) v)

-- The side out of v where its ring starts: the one on the boundary, or else the one in the lowest slot that holds v;
-- `sides m` where v has no triangle.
unfoldable pub first_side : Topology → ℕ → ℕ
first_side m v =
    let h = lowest (sides m) (λ k. eqb (origin m k) v && eqb (link m k) boundary) in
    elim (ltb h (sides m)) [ true ↦ h | false ↦ lowest (sides m) (λ k. eqb (origin m k) v) ]

-- The sides with one origin from h on, turning until the boundary or until back at the first; at most n of them. A
-- vertex has one side out of it in each of its triangles, so to be back at the first side is to be back at the first
-- triangle.
unfoldable pub fan_from : ℕ → Topology → ℕ → ℕ → List ℕ
fan_from zero m first h = []
fan_from (suc n) m first h = h ∷ elim (ltb (rotate m h) (sides m) && not (eqb (rotate m h) first)) [
  | true ↦ fan_from n m first (rotate m h)
  | false ↦ []
]

-- The sides out of v in the order of its ring, one for each triangle that the walk meets.
unfoldable pub fan : Topology → ℕ → List ℕ
fan m v = elim (ltb (first_side m v) (sides m)) [
  | true ↦ fan_from m.triangles m (first_side m v) (first_side m v)
  | false ↦ []
]

-- The neighbours along such sides; where the last triangle ends at the boundary, its other neighbour too.
unfoldable pub neighbours : Topology → List ℕ → List ℕ
neighbours m [] = []
neighbours m (h ∷ []) = target m h ∷ elim (eqb (rotate m h) boundary) [ true ↦ origin m (previous h) ∷ [] | false ↦ [] ]
neighbours m (h ∷ k ∷ hs) = target m h ∷ neighbours m (k ∷ hs)

-- The ring (one-ring) of v.
unfoldable pub ring : Topology → ℕ → List ℕ
ring m v = neighbours m (fan m v)
