-- What a load leaves of the tables when the sides are written.
use Rattle.std.specs.Prelude.{ℕ, ◌≡◌}
use Rattle.rules.specs.Cage.{Cage}
use Rattle.rules.specs.Spares.{Spares}
use Rattle.judging.specs.Answers.{SidesLeft}

-- The corners and links are left as r tells, and the other tables stand.
pub record SidesLoaded (c : Cage) (r : ℕ) (before after : Spares) : Type 0 where
  pub left : SidesLeft c r before.corners before.links after.corners after.links
  pub positions : after.positions ≡ before.positions
  pub generations : after.generations ≡ before.generations
  pub locks : after.locks ≡ before.locks
