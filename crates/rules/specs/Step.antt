-- The whole smoothing step, and where ever more of them would lead without rounding. (Whole step; request a)
use Rattle.std.specs.Prelude.{ℕ, zero, suc, ◌*◌, ◌/◌, ◌%◌, List, [], ◌∷◌, ℤ, pos, ◌+ℤ◌, length}
use Rattle.rules.specs.Below.{fill}
use Rattle.rules.specs.Numbers.{moved, limit}
use Rattle.rules.specs.Ring.{ring}
use Rattle.rules.specs.Split.{Work, at_first, with_mesh, refine}
use Rattle.rules.specs.Tables.{Mesh, with_positions, coordinate, put_three}

-- Coordinate k of these vertices, added up.
unfoldable pub sum_over : Mesh → ℕ → List ℕ → ℤ
sum_over m k [] = pos 0
sum_over m k (v ∷ vs) = coordinate m v k +ℤ sum_over m k vs

-- Coordinate k of the place that vertex v moves to.
unfoldable pub moved_coordinate : Mesh → ℕ → ℕ → ℤ
moved_coordinate m v k = let r = ring m.topology v in moved m.rule (length r) (coordinate m v k) (sum_over m k r)

-- The positions with the first n vertices moved, all of them by the old mesh m.
unfoldable pub move_vertices : ℕ → Mesh → List ℤ → List ℤ
move_vertices zero m l = l
move_vertices (suc v) m l =
    move_vertices v m (put_three v (moved_coordinate m v 0, moved_coordinate m v 1, moved_coordinate m v 2) l)

-- Slots 0 to n - 1 refined in order.
unfoldable pub refine_first : ℕ → Work → Work
refine_first zero w = w
refine_first (suc n) w = refine n (refine_first n w)

-- The step: all old triangles refined, with their centres at the old positions, and then all old vertices moved at
-- once.
unfoldable pub whole_step : Mesh → Work
whole_step m =
    let w = refine_first m.topology.triangles (at_first m) in
    with_mesh (with_positions (move_vertices m.topology.vertices m w.mesh.positions) w.mesh) w

-- Coordinate k of the limit position of vertex v. (Request a)
unfoldable pub limit_coordinate : Mesh → ℕ → ℕ → ℤ
limit_coordinate m v k = let r = ring m.topology v in limit m.rule (length r) (coordinate m v k) (sum_over m k r)

-- The table with the limit positions of all vertices, three coordinates to each. (Request a)
unfoldable pub limit_positions : Mesh → List ℤ → List ℤ
limit_positions m table = fill (3 * m.topology.vertices) (λ i. limit_coordinate m (i / 3) (i % 3)) table
