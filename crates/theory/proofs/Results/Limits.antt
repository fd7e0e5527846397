-- What is proved of limit positions. (Request a)
use mathlib.Core.Path.{◌≡◌}
use mathlib.Core.List.{List}
use lib.IntN.{ℤ}
use Rattle.theory.proofs.Calls.Outcomes.{limit_makes}
use Rattle.rules.specs.Calls.{limit_read, limit_call}
use Rattle.rules.specs.Promises.{LimitMakes}
use Rattle.rules.specs.Step.{limit_positions}
use Rattle.rules.specs.Tables.{Mesh}

-- A limit query that is carried out fills the table, and the mesh stands. Each entry is the nearest whole number to its
-- fraction, by the rule, and in range; and the fraction is the limit: moved without rounding, with the centres of its
-- triangles for ring, a vertex has the same, and is nearer to its ring's mean.
pub limit_carried : (table : List ℤ) (m : Mesh) → (limit_call table m).answer.refusal ≡ 0
    → (limit_call table m ≡ limit_read table m) × LimitMakes m (limit_positions m table)
limit_carried = limit_makes
