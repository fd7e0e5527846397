-- The curve of a rim: its points in the table, and those of rims with equal points.
use Prim.Native.Nat.{ℕ, ◌+◌, ◌-◌, ◌*◌, ◌/◌, ◌%◌, ◌≤◌, ◌<◌}
use native.Mathlib.Nat.{mod-lt, mod-eq_of_lt}
use native.Mathlib.Omega.{arith}
use mathlib.Core.List.{List}
use mathlib.Core.Path.{◌≡◌}
use lib.IntN.{ℤ, pos}
use lib.ListN.{length, get_or}
use Rattle.theory.proofs.Numbers.Fill.{length_fill, get_or_fill, drop_fill}
use Rattle.theory.proofs.Rims.Smoothing.{smoothed_is}
use Rattle.rules.specs.Below.{fill}
use Rattle.rules.specs.Promises.{RimMakes, CurveMakes, SameRims}
use Rattle.rules.specs.Rim.{rim, smoothed, curve_at}
use Rattle.rules.specs.Tables.{Mesh, coordinate}

-- The entry of coordinate k of point p of the rim's vertex j.
pub point_at_lem : (m : Mesh) (l : List ℕ) (j p k : ℕ) → j < length l → p < 3 → k < 3 →
    let n = length l in
    let at : ℕ → ℤ = λ i. coordinate m (get_or l i 0) k in
    curve_at m l (9 * j + 3 * p + k) ≡ smoothed p (at ((j + n - 1) % n)) (at j) (at ((j + 1) % n))
unfolding curve_at
point_at_lem m l j p k b c d =
    let vertex : (9 * j + 3 * p + k) / 9 ≡ j = omega arith in
    let point : (9 * j + 3 * p + k) / 3 % 3 ≡ p = omega arith in
    let axis : (9 * j + 3 * p + k) % 3 ≡ k = omega arith in
    rw (vertex, point, axis, mod-eq_of_lt b)

-- The whole curve of a rim, in a table that is long enough.
pub curve_made : (v : ℕ) (m : Mesh) (table : List ℤ) →
    let l = rim m.topology v in
    RimMakes m.topology v l → 9 * length l ≤ length table
    → CurveMakes v m table (fill (9 * length l) (curve_at m l) table)
curve_made v m table R r =
    let l = rim m.topology v in
    record {
      closed = R;
      size = length_fill (9 * length l) (curve_at m l) table;
      points = λ j p k c d b.
          rw (
            get_or_fill (9 * length l) (curve_at m l) table (9 * j + 3 * p + k) (pos 0) r (omega arith),
            point_at_lem m l j p k b c d,
          )
          (smoothed_is p _ _ _);
      later = drop_fill (9 * length l) (curve_at m l) table (9 * length l) (omega arith);
    }

-- Rims with equal points have one curve.
pub same_points : {m n : Mesh} {l k : List ℕ} → SameRims m n l k → (i : ℕ) → i < 9 * length l
    → curve_at n k i ≡ curve_at m l i
unfolding curve_at
same_points {m} {n} {l} {k} E i b =
    let some : 0 < length l = omega arith in
    let at : (j : ℕ) → coordinate n (get_or k (j % length l) 0) (i % 3) ≡ coordinate m (get_or l (j % length l) 0) (i % 3) =
    λ j. E.points (j % length l) (i % 3) (mod-lt j some) (omega arith) in
    rw (E.size, at (i / 9 + length l - 1), at (i / 9), at (i / 9 + 1))
