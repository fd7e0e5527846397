-- Parts of the test of a triangle, as the code makes them, and the room that they need in the tables.
use Rattle.std.specs.Prelude.{ℕ, ◌+◌, ◌*◌, ◌/◌, ◌%◌, ◌≤◌, Bool, not, ◌&&◌, ◌||◌, List, ◌≡◌, eqb, leb, ltb, length, get_or}
use Rattle.rules.specs.Sound.{role, five_kinds}
use Rattle.rules.specs.Spares.{Spares}
use Rattle.rules.specs.Tables.{Topology, sides, next, origin, target, boundary, link, generation}

-- The tables have their entries for each triangle slot, and slots for this many triangles.
pub record Room (triangles : ℕ) (s : Spares) : Type 0 where
  pub few_slots : length s.generations ≤ 65536
  pub corner_room : 3 * length s.generations ≤ length s.corners
  pub link_room : 3 * length s.generations ≤ length s.links
  pub triangle_room : triangles ≤ length s.generations

-- What is read of side h before its link is tested: its place in its triangle, the generation of that, and the vertices
-- at its ends.
pub record SideRead (corners generations : List ℕ) (h i g from to : ℕ) : Type 0 where
  pub place : i ≡ h % 3
  pub generation : g ≡ get_or generations (h / 3) 0
  pub origin : from ≡ get_or corners h 0
  pub target : to ≡ get_or corners (next h) 0

-- Three corners are vertices in use, no two the same.
unfoldable pub corners_fit : ℕ → ℕ → ℕ → ℕ → Bool
corners_fit v a b c = ltb a v && ltb b v && ltb c v && not (eqb a b) && not (eqb b c) && not (eqb c a)

-- Side k links back to side h and starts where h ends, and the two are of one of the five kinds. That k ends where h
-- starts is told from k.
unfoldable pub partner_fits : Topology → ℕ → ℕ → Bool
partner_fits m h k = eqb (link m k) h && eqb (origin m k) (target m h) && five_kinds (role m h) (role m k)

-- Side h is on the boundary or has a fitting partner.
unfoldable pub link_fits : Topology → ℕ → Bool
link_fits m h = let k = link m h in eqb k boundary || (ltb k (sides m) && partner_fits m h k)

unfoldable pub triangle_fits : Topology → ℕ → Bool
triangle_fits m t =
    leb (generation m t) 20
    && corners_fit m.vertices (origin m (3 * t)) (origin m (3 * t + 1)) (origin m (3 * t + 2))
    && link_fits m (3 * t)
    && link_fits m (3 * t + 1)
    && link_fits m (3 * t + 2)
