-- The opposites of numbers have the opposite order, the opposite thirds, the opposite points of a curve and, under rule
-- 2, the opposite moves and limits.
use Prim.Native.Nat.{ℕ, zero, suc, ◌+◌, ◌-◌, ◌*◌, ◌/◌}
use native.Mathlib.Nat.{div-eq_of_lt}
use native.Mathlib.Omega.{arith}
use mathlib.Core.Bool.{Bool, true, false, ◌&&◌}
use mathlib.Core.Path.{◌≡◌, refl, sym}
use lib.Dec.{eqb}
use lib.IntN.{ℤ, pos, negsuc, neg_ℤ, neg_ℤ-neg_ℤ, neg_ℤ-+ℤ, ◌+ℤ◌, ◌*ℤ◌}
use lib.Signed.{le_z}
use Rattle.theory.proofs.Numbers.Decide.{is_same, is_iff}
use Rattle.theory.proofs.Numbers.Differences.{its, nat, add, neg, sub, scale, equal, at_most, at_most_gives}
use Rattle.theory.proofs.Numbers.Differences.{near}
use Rattle.theory.proofs.Numbers.Differences.{near_gives}
use Rattle.theory.proofs.Numbers.Rounding.{nearest_third_lem, nearest_third_only, mean, moved_is, limit_is}
use Rattle.theory.proofs.Rims.Smoothing.{smoothed_opposite}
use Rattle.theory.proofs.Soundness.SoundTest.{le_is, in_range_is}
use Rattle.rules.specs.Mirror.{mirror_at}
use Rattle.rules.specs.Notes.{same_number}
use Rattle.rules.specs.Numbers.{InRange, in_range, max_coordinate, floor_div, nearest_third, half_up, rounded, weight}
use Rattle.rules.specs.Numbers.{moved, limit}
use Rattle.rules.specs.Rim.{smoothed}

pub and_swapped : (a b : Bool) → (a && b) ≡ (b && a)
and_swapped true true = refl
and_swapped true false = refl
and_swapped false true = refl
and_swapped false false = refl

pub order_opposite : (x y : ℤ) → le_z (neg_ℤ y) (neg_ℤ x) ≡ le_z x y
order_opposite x y =
    is_same
    (is_iff
    (λ h. at_most (its x) (its y) (omega (arith, at_most_gives (neg (its y)) (neg (its x)) h)))
    (λ h. at_most (neg (its y)) (neg (its x)) (omega (arith, at_most_gives (its x) (its y) h)))
    (le_is (neg_ℤ y) (neg_ℤ x)))
    (le_is x y)

third_opposite : (s : ℤ) → nearest_third (neg_ℤ s) ≡ neg_ℤ (nearest_third s)
third_opposite s =
    let q = its (nearest_third s) in
    let n = near_gives (sub (scale 3 q) (its s)) (nearest_third_lem s) in
    sym (nearest_third_only (neg_ℤ s) (neg_ℤ (nearest_third s))
    (near (sub (scale 3 (neg q)) (neg (its s))) (omega arith) (omega arith)))

zero_rounded : (d : ℕ) → (0 + d) / (2 * d) ≡ 0
zero_rounded zero = refl
zero_rounded (suc d) = div-eq_of_lt (omega arith)

rounded_opposite : (n : ℤ) (d : ℕ) → rounded 2 (neg_ℤ n) d ≡ neg_ℤ (rounded 2 n d)
unfolding rounded half_up floor_div
rounded_opposite (pos zero) d = rw (zero_rounded d)
rounded_opposite (pos (suc a)) d = refl
rounded_opposite (negsuc a) d = sym (neg_ℤ-neg_ℤ (half_up (pos (suc a)) d))

mean_opposite : (a b n : ℕ) (p s : ℤ) → mean 2 a b n (neg_ℤ p) (neg_ℤ s) ≡ neg_ℤ (mean 2 a b n p s)
unfolding mean
mean_opposite a b n p s =
    let e : pos a *ℤ neg_ℤ p +ℤ pos b *ℤ neg_ℤ s ≡ neg_ℤ (pos a *ℤ p +ℤ pos b *ℤ s) =
    equal (add (scale a (neg (its p))) (scale b (neg (its s)))) (neg (add (scale a (its p)) (scale b (its s))))
    (omega arith) in
    rw e (rounded_opposite (pos a *ℤ p +ℤ pos b *ℤ s) (a + b * n))

range_opposite : (z : ℤ) → in_range (neg_ℤ z) ≡ in_range z
range_opposite z =
    is_same (is_iff (λ r. rw neg_ℤ-neg_ℤ at (turned (neg_ℤ z) r)) (turned z) (in_range_is (neg_ℤ z))) (in_range_is z)
  where
    turned : (z : ℤ) → InRange z → InRange (neg_ℤ z)
    turned z r =
        let most = nat max_coordinate in
        let l = at_most_gives (neg most) (its z) r.low in
        let h = at_most_gives (its z) most r.high in
        record { low = at_most (neg most) (neg (its z)) (omega arith); high = at_most (neg (its z)) most (omega arith) }

-- ---- coordinate j as coordinate k is negated

module _ (k j : ℕ) where
  -- It is as it was, or its opposite.
  mirror_is : (P : (ℤ → ℤ) → Type 0) → P (λ x. x) → P neg_ℤ → P (mirror_at k j)
  mirror_is P same opposite = go (eqb j k)
    where
      go : (b : Bool) → P (λ x. elim b [ true ↦ neg_ℤ x | false ↦ x ])
      go true = opposite
      go false = same

  pub mirror_zero : mirror_at k j (pos 0) ≡ pos 0
  mirror_zero = mirror_is (λ f. f (pos 0) ≡ pos 0) refl refl

  pub mirror_sum : (x y : ℤ) → mirror_at k j x +ℤ mirror_at k j y ≡ mirror_at k j (x +ℤ y)
  mirror_sum x y = mirror_is (λ f. f x +ℤ f y ≡ f (x +ℤ y)) refl (sym (neg_ℤ-+ℤ x y))

  pub mirror_range : (z : ℤ) → in_range (mirror_at k j z) ≡ in_range z
  mirror_range z = mirror_is (λ f. in_range (f z) ≡ in_range z) refl (range_opposite z)

  pub mirror_same : (x y : ℤ) → same_number (mirror_at k j x) (mirror_at k j y) ≡ same_number x y
  mirror_same x y =
      mirror_is (λ f. same_number (f x) (f y) ≡ same_number x y) refl
      (rw (order_opposite y x, order_opposite x y) (and_swapped (le_z y x) (le_z x y)))

  pub mirror_third : (s : ℤ) → nearest_third (mirror_at k j s) ≡ mirror_at k j (nearest_third s)
  mirror_third s = mirror_is (λ f. nearest_third (f s) ≡ f (nearest_third s)) refl (third_opposite s)

  pub mirror_smoothed : (p : ℕ) (a b c : ℤ)
      → smoothed p (mirror_at k j a) (mirror_at k j b) (mirror_at k j c) ≡ mirror_at k j (smoothed p a b c)
  mirror_smoothed p a b c =
      mirror_is (λ f. smoothed p (f a) (f b) (f c) ≡ f (smoothed p a b c)) refl (smoothed_opposite p a b c)

  module _ {rule : ℕ} (two : rule ≡ 2) (n : ℕ) (p s : ℤ) where
    mirror_mean : (a b : ℕ) → mean rule a b n (mirror_at k j p) (mirror_at k j s) ≡ mirror_at k j (mean rule a b n p s)
    mirror_mean a b =
        rw two (mirror_is (λ f. mean 2 a b n (f p) (f s) ≡ f (mean 2 a b n p s)) refl (mean_opposite a b n p s))

    pub mirror_moved : moved rule n (mirror_at k j p) (mirror_at k j s) ≡ mirror_at k j (moved rule n p s)
    mirror_moved = simp moved_is (mirror_mean (n * (65536 - weight n)) (weight n))

    pub mirror_limit : limit rule n (mirror_at k j p) (mirror_at k j s) ≡ mirror_at k j (limit rule n p s)
    mirror_limit = simp limit_is (mirror_mean (65536 * n) (3 * weight n))
