-- What vertices move by.
use Rattle.std.specs.Prelude.{ℕ, ◌*◌, ◌≤◌, ◌<◌, List, ◌≡◌, ℤ, pos, length, get_or}
use Rattle.rings.specs.Sums.{RingSums}
use Rattle.rings.specs.declared.sums.RingSum.{RingSum}
use Rattle.rules.specs.Tables.{Mesh}

-- All n vertices of m, by its rule r: they stand where they stand in m, and the list has the length and the sum of each
-- ring.
pub record Movable (n r : ℕ) (m : Mesh) (positions : List ℤ) (rings : List RingSum) : Type 0 where
  pub all : n ≡ m.topology.vertices
  pub rule : r ≡ m.rule
  pub few : n ≤ 32768
  pub room : 3 * n ≤ length positions
  pub old : (i : ℕ) → i < 3 * n → get_or positions i (pos 0) ≡ get_or m.positions i (pos 0)
  pub summed : RingSums m rings
