-- What a load knows of a cage, and the room that it works in.
use Rattle.std.specs.Prelude.{ℕ, ◌+◌, ◌*◌, ◌≤◌, ◌<◌, List, length, get_or, ◌≡◌}
use Rattle.rules.specs.Cage.{Cage, cage_of, partner}
use Rattle.rings.specs.Walks.{Zeroed}

-- A cage of v vertices and f triangles, as long as these say and within the maxima.
pub record Sized (bytes : List ℕ) (v f : ℕ) : Type 0 where
  pub vertices : (cage_of bytes).vertices ≡ v
  pub triangles : (cage_of bytes).triangles ≡ f
  pub few_vertices : v ≤ 32768
  pub few_triangles : f ≤ 65536
  pub size : length bytes ≡ 8 + 12 * (v + f)

-- The lists hold the origins of a cage's sides, and their partners.
pub record Holds (c : Cage) (origins partners : List ℕ) : Type 0 where
  pub origin_room : 3 * c.triangles ≤ length origins
  pub partner_room : 3 * c.triangles ≤ length partners
  pub origin : (h : ℕ) → h < 3 * c.triangles → get_or origins h 0 ≡ c.corner h
  pub partner : (h : ℕ) → h < 3 * c.triangles → get_or partners h 0 ≡ partner c h

-- Working room for a cage of v vertices and f triangles.
pub record WorkingRoom (v f : ℕ) (origins partners heads nexts slots : List ℕ) : Type 0 where
  pub origin_room : 3 * f ≤ length origins
  pub partner_room : 3 * f ≤ length partners
  pub head_room : Zeroed v heads
  pub next_room : 3 * f ≤ length nexts
  pub slot_room : Zeroed v slots
