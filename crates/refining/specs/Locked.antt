-- Base chains that can be followed in the tables.
use Rattle.std.specs.Prelude.{ℕ, ◌+◌, ◌*◌, ◌≤◌, ◌<◌, length, get_or}
use Rattle.rules.specs.Spares.{Spares}
use Rattle.split.specs.declared.Chain.{Chain}

-- The chain has no more odd triangles than slots; the links have the sides of its end, and the locks its triangles and
-- all that have a generation.
pub record Follows (c : Chain) (s : Spares) : Type 0 where
  pub few : c.odd ≤ 20
  pub end : 3 * c.end + 2 < length s.links
  pub places : (i : ℕ) → i < c.odd → get_or c.slots i 0 < length s.locks
  pub end_lock : c.end < length s.locks
  pub room : length s.generations ≤ length s.locks
