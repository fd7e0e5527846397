-- What is proved of numbers. (Face split and flip; Whole step)
use mathlib.Core.Path.{◌≡◌}
use Prim.Native.Nat.{ℕ, ◌≤◌, ◌<◌}
use lib.IntN.{ℤ, pos, nat_abs, ◌-ℤ◌, ◌*ℤ◌}
use Rattle.theory.proofs.Numbers.Rounding.{nearest_third_lem, nearest_third_only, rounded_nearest, nearest_only}
use Rattle.rules.specs.Numbers.{nearest_third, rounded}
use Rattle.rules.specs.Promises.{Nearest}

-- The nearest third of s is a whole number q with |3 q - s| ≤ 1.
pub third_near : (s : ℤ) → nat_abs (pos 3 *ℤ nearest_third s -ℤ s) ≤ 1
third_near = nearest_third_lem

-- There is no other.
pub third_only : (s q : ℤ) → nat_abs (pos 3 *ℤ q -ℤ s) ≤ 1 → q ≡ nearest_third s
third_only = nearest_third_only

-- A rounded fraction is the nearest whole number by its rule: of two the upper, or by rule 2 the one further from zero.
pub rounded_near : (rule : ℕ) (n : ℤ) {d : ℕ} → 0 < d → Nearest rule n d (rounded rule n d)
rounded_near = rounded_nearest

-- There is no other.
pub rounded_only : (rule : ℕ) (n q : ℤ) (d : ℕ) → Nearest rule n d q → q ≡ rounded rule n d
rounded_only = nearest_only
