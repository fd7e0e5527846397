-- Points, axis by axis: a rule on coordinates is said once, for axis k.
use Rattle.std.specs.Prelude.{ℕ, zero, suc, ◌*◌, ◌≤◌, Bool, ◌&&◌, ℤ, pos, neg_ℤ, ◌+ℤ◌, ◌*ℤ◌, ◌≤ℤ◌}
use Rattle.theory.proofs.Numbers.Rounding.{mean}
use Rattle.rules.specs.Boxes.{Box, between}
use Rattle.rules.specs.Numbers.{nearest_third, half_up, moved, limit}
use Rattle.points.specs.declared.Point.{Point}

-- Which of three numbers stands on axis k: axes 0, 1 and 2 are x, y and z.
abbrev pub on_axis : ℕ → ℤ → ℤ → ℤ → ℤ
on_axis zero x y z = x
on_axis (suc zero) x y z = y
on_axis (suc (suc k)) x y z = z

abbrev pub coordinate : Point → ℕ → ℤ
coordinate p k = on_axis k p.x p.y p.z

abbrev pub at : ℤ → ℤ → ℤ → Point
at x y z = record { x = x; y = y; z = z }

-- The point with f k on axis k.
abbrev pub each_axis : (ℕ → ℤ) → Point
each_axis f = at (f 0) (f 1) (f 2)

-- The nearest third of the sum of three points.
abbrev pub thirds : Point → Point → Point → Point
thirds a b c = each_axis (λ k. nearest_third (coordinate a k +ℤ coordinate b k +ℤ coordinate c k))

-- The mean of x parts at a, y at b and z at c, 27 in all, to the nearest.
abbrev pub smoothed_point : ℕ → ℕ → ℕ → Point → Point → Point → Point
smoothed_point x y z a b c =
    each_axis (λ k. half_up (pos x *ℤ coordinate a k +ℤ pos y *ℤ coordinate b k +ℤ pos z *ℤ coordinate c k) 27)

-- A point lies in the box between two points, the faces included.
abbrev pub in_box : Point → Point → Point → Bool
in_box low high p =
    between low.x high.x p.x && between low.y high.y p.y && between low.z high.z p.z

-- The box between two points, and the generation.
abbrev pub box_of : Point → Point → ℕ → Box
box_of low high below = record {
  low = (low.x, low.y, low.z);
  high = (high.x, high.y, high.z);
  below = below;
}

-- Parts of a mean: n places have b each, and one has a.
pub record Parts (a b n : ℕ) : Type 0 where
  pub some : 1 ≤ n
  pub few : n ≤ 12
  pub own : 1 ≤ a
  pub own_most : a ≤ 786432
  pub most : b ≤ 131073

-- The mean of a parts at p and b parts at each of n points that add up to s, rounded by a rule.
abbrev pub mean_point : ℕ → ℕ → ℕ → ℕ → Point → Point → Point
mean_point rule a b n p s = each_axis (λ k. mean rule a b n (coordinate p k) (coordinate s k))

-- Where a vertex moves by a rule: it is at p and has n ring entries that add up to s.
abbrev pub moved_point : ℕ → ℕ → Point → Point → Point
moved_point rule n p s = each_axis (λ k. moved rule n (coordinate p k) (coordinate s k))

-- Its limit position.
abbrev pub limit_point : ℕ → ℕ → Point → Point → Point
limit_point rule n p s = each_axis (λ k. limit rule n (coordinate p k) (coordinate s k))

-- The sum of two points.
abbrev pub plus : Point → Point → Point
plus s p = each_axis (λ k. coordinate s k +ℤ coordinate p k)

-- s lies where the sums of n numbers of 32 bits lie.
pub record SumOf (n : ℕ) (s : ℤ) : Type 0 where
  pub low : neg_ℤ (pos (n * 2147483648)) ≤ℤ s
  pub high : s ≤ℤ pos (n * 2147483647)

-- On each axis p lies where one number of 32 bits lies.
pub record Fits (p : Point) : Type 0 where
  pub axis : (k : ℕ) → SumOf 1 (coordinate p k)
