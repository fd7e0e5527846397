-- Sizes of cages, by which working room is lent.
use Rattle.std.specs.Prelude.{ℕ, ◌≤◌}

-- At most n vertices and triangles.
pub record Within (n v f : ℕ) : Type 0 where
  pub vertices : v ≤ n
  pub triangles : f ≤ n
