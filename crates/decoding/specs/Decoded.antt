-- Corners decoded from the bytes of a cage, and the tests of them.
use Rattle.std.specs.Prelude.{ℕ, ◌+◌, ◌*◌, ◌≤◌, ◌<◌, Bool, not, ◌&&◌, List, eqb, ltb, pos, length, get_or}
use Rattle.rules.specs.Cage.{Cage}
use Rattle.rules.specs.Tables.{next}

-- The cage of v vertices and f triangles whose corner h is entry h of the list, all vertices at one point.
abbrev pub decoded : ℕ → ℕ → List ℕ → Cage
decoded v f corners = record { vertices = v; triangles = f; coordinate = λ i. pos 0; corner = λ h. get_or corners h 0 }

-- The list has the corners of f triangles, and they name vertices.
pub record Readable (v f : ℕ) (corners : List ℕ) : Type 0 where
  pub few : f ≤ 65536
  pub room : 3 * f ≤ length corners
  pub corner : (h : ℕ) → h < 3 * f → get_or corners h 0 < v

-- The origin of side h is one of v vertices, and not its target.
abbrev pub corner_fits : ℕ → List ℕ → ℕ → Bool
corner_fits v corners h = ltb (get_or corners h 0) v && not (eqb (get_or corners h 0) (get_or corners (next h) 0))

-- The three corners of triangle t are such.
abbrev pub triangle_fits : ℕ → List ℕ → ℕ → Bool
triangle_fits v corners t =
    (corner_fits v corners (3 * t) && corner_fits v corners (3 * t + 1)) && corner_fits v corners (3 * t + 2)
