-- What a walk round a vertex meets from one side on, and its ring.
use Rattle.std.specs.Prelude.{ℕ, ◌+◌, ◌*◌, ◌≤◌, ◌<◌, Bool, true, false, not, ◌&&◌, List, ◌≡◌, eqb, ltb, length}
use Rattle.theory.proofs.Rings.FanTotal.{walk_length}
use Rattle.rules.specs.Ring.{fan_from, neighbours}
use Rattle.rules.specs.Tables.{Topology, topology_of, boundary}

-- The neighbours along the walk that starts at side s.
unfoldable pub ring_from : Topology → ℕ → List ℕ
ring_from m s = neighbours m (fan_from m.triangles m s s)

-- Whether the walk from s goes on to side k after n sides, among this many triangles.
abbrev pub goes_on : ℕ → ℕ → ℕ → ℕ → Bool
goes_on triangles s n k = ltb n triangles && (ltb k (3 * triangles) && not (eqb k s))

-- The entries of a ring whose walk ends at k after n sides.
unfoldable pub entries_at : ℕ → ℕ → ℕ
entries_at n k = elim (eqb k boundary) [ true ↦ n + 1 | false ↦ n ]

-- Side s is in use among this many triangles, and the table has an entry for each of their sides.
pub record Walkable (triangles s : ℕ) (table : List ℕ) : Type 0 where
  pub few : triangles ≤ 65536
  pub room : 3 * triangles ≤ length table
  pub in_use : s < 3 * triangles

-- With whatever corners and generations, the walk from s meets n sides, and its ring has so many entries.
pub record Meets (triangles : ℕ) (links : List ℕ) (s n entries : ℕ) : Type 0 where
  pub few : n ≤ triangles
  pub few_entries : entries ≤ n + 1
  pub sides : (v : ℕ) (c g : List ℕ) → n ≡ walk_length (topology_of v triangles c links g) s
  pub ring : (v : ℕ) (c g : List ℕ) → entries ≡ length (ring_from (topology_of v triangles c links g) s)
