-- Corners that fit.
use Prim.Native.Nat.{ℕ, ◌<◌}
use mathlib.Core.Logic.{◌≢◌}
use Rattle.theory.proofs.Numbers.Decide.{Decides, is_eq, is_lt, is_not, is_iff, is_and}
use Rattle.sides.specs.Parts.{corners_fit}

pub record CornersFit (v a b c : ℕ) : Type 0 where
  pub a_in_use : a < v
  pub b_in_use : b < v
  pub c_in_use : c < v
  pub a_not_b : a ≢ b
  pub b_not_c : b ≢ c
  pub c_not_a : c ≢ a

pub corners_are : (v a b c : ℕ) → Decides (corners_fit v a b c) (CornersFit v a b c)
unfolding corners_fit
corners_are v a b c = is_iff
    (λ (((((i, j), k), p), q), r). record { a_in_use = i; b_in_use = j; c_in_use = k; a_not_b = p; b_not_c = q; c_not_a = r })
    (λ C. (((((C.a_in_use, C.b_in_use), C.c_in_use), C.a_not_b), C.b_not_c), C.c_not_a))
    (is_and (is_and (is_and (is_and (is_and (is_lt a v) (is_lt b v)) (is_lt c v)) (is_not (is_eq a b)))
    (is_not (is_eq b c))) (is_not (is_eq c a)))
