-- What a load refuses, and what it leaves of the sides' tables.
use Rattle.std.specs.Prelude.{ℕ, ◌*◌, ◌≤◌, List, ◌≢◌, ◌≡◌, length}
use Rattle.rules.specs.Below.{fill}
use Rattle.rules.specs.Cage.{Cage, partner}
use Rattle.rules.specs.Calls.{load_refusal}
use Rattle.rules.specs.Conditions.{SizesFit}
use Rattle.rules.specs.Numbers.{KnownRule}
use Rattle.rules.specs.Tables.{Mesh, TablesAgree}

-- r is the refusal of these bytes, whichever the rule, if it is known, and the tables, if they agree and have slots for
-- the cage.
abbrev pub Refuses : List ℕ → ℕ → Type 0
Refuses bytes r =
    (rule : ℕ) (m : Mesh) → KnownRule rule → TablesAgree m → SizesFit bytes m → r ≡ load_refusal rule bytes m

-- The corners and links have slots for f triangles.
abbrev pub SideRoom : ℕ → List ℕ → List ℕ → Type 0
SideRoom f corners links = (3 * f ≤ length corners) × (3 * f ≤ length links)

-- The cage is refused with r and the corners and links stand, or r is 0 and they hold the cage's.
pub record SidesLeft (c : Cage) (r : ℕ) (corners links corners' links' : List ℕ) : Type 0 where
  pub refused : r ≢ 0 → (corners' ≡ corners) × (links' ≡ links)
  pub written : r ≡ 0
      → (corners' ≡ fill (3 * c.triangles) c.corner corners) × (links' ≡ fill (3 * c.triangles) (partner c) links)
