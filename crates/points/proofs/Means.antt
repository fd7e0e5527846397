-- The move of a vertex and its limit as means: their parts, and what they come to on each axis.
use Prim.Native.Nat.{ℕ, ◌-◌, ◌*◌, ◌≤◌}
use native.Mathlib.Omega.{arith}
use native.Mathlib.Nat.{mul-le-mul}
use mathlib.Core.Path.{◌≡◌, ◌∙◌}
use Rattle.theory.proofs.Numbers.Rounding.{weight_at_most, moved_is, limit_is}
use Rattle.rules.specs.Numbers.{weight}
use Rattle.points.specs.Axes.{Parts, mean_point, moved_point, limit_point}
use Rattle.points.specs.declared.Point.{Point}

module _ (n w : ℕ) (e : w ≡ weight n) where
  pub light : w ≤ 43691
  light = rw e (weight_at_most n)

  module _ (some : 1 ≤ n) (few : n ≤ 12) where
    pub own_most_lem : n * (65536 - w) ≤ 786432
    own_most_lem = mul-le-mul {m₂ = 65536} few (omega arith)

    own_some : 1 * 1 ≤ n * (65536 - w)
    own_some = let rest : 1 ≤ 65536 - w = omega (arith, light) in mul-le-mul some rest

    pub move_parts : Parts (n * (65536 - w)) w n
    move_parts = record {
      some = some;
      few = few;
      own = own_some;
      own_most = own_most_lem;
      most = omega (arith, light);
    }

    pub limit_parts : Parts (65536 * n) (3 * w) n
    limit_parts = record {
      some = some;
      few = few;
      own = omega arith;
      own_most = omega arith;
      most = omega (arith, light);
    }

  module _ (rule : ℕ) (p s r : Point) where
    pub move_by : r ≡ mean_point rule (n * (65536 - w)) w n p s → r ≡ moved_point rule n p s
    move_by q = q ∙ rw (e, moved_is rule n p.x s.x, moved_is rule n p.y s.y, moved_is rule n p.z s.z)

    pub limit_by : r ≡ mean_point rule (65536 * n) (3 * w) n p s → r ≡ limit_point rule n p s
    limit_by q = q ∙ rw (e, limit_is rule n p.x s.x, limit_is rule n p.y s.y, limit_is rule n p.z s.z)
