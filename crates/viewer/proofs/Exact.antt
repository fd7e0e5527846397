-- A coordinate in millimetres is exact, and times 1024 it is the coordinate again.
use Rattle.std.proofs.Common.{ℕ, suc, ◌*◌, ◌^◌, ◌<◌, ◌≤◌, arith, Bool, true, false, ℤ, pos, negsuc, ◌≡◌, refl, sym}
use Rattle.std.proofs.Common.{ap, ◌∙◌, subst, lt_trans, mul_assoc, T, lit<, le→leb, lt→ltb, Float, nat_abs, shl_lt}
use native.Mathlib.Decide.{dec_lt}
use lib.Ieee.{nan, inf, fin, binary32, round, mul, div, of_int, in_float, in_signed, to_signed, up, down, unlike}
use lib.Ieee.Back.{round_whole, positive_back, negative_back}
use lib.Ieee.Exact.{HasValue, round_exact}
use lib.Ieee.Fits.{down_pos}
use lib.Ieee.Scale.{round_same}
use Rattle.theory.proofs.Numbers.Differences.{its, nat, neg, near, at_most_gives}
use Rattle.rules.specs.Numbers.{InRange}
use Rattle.viewer.specs.View.{scale, millimetres, negative, IsExact}

-- ---- a number of the value n or n / 1024, of sign s

same_sign : (s : Bool) → unlike s false ≡ s
same_sign true = refl
same_sign false = refl

module _ (s : Bool) (n : ℕ) where
  divided : (x : Float) → HasValue x s n 1 → div binary32 x scale ≡ round binary32 s n 1024
  unfolding div
  divided nan v = absurd v
  divided (inf t) v = absurd v
  divided (fin t m e) v =
      ap (λ b. round binary32 b (m * up e * 1) (1 * 1024 * down e)) (same_sign t ∙ v.0)
      ∙ round_same binary32 s (m * up e * 1) (1 * 1024 * down e) n 1024 (omega (arith, down_pos e)) (lit< tt)
      (omega (arith, v.1))

  multiplied : (x : Float) → HasValue x s n 1024 → mul binary32 x scale ≡ round binary32 s n 1
  unfolding mul
  multiplied nan v = absurd v
  multiplied (inf t) v = absurd v
  multiplied (fin t m e) v =
      ap (λ b. round binary32 b (m * up e * (1 * 1024)) (down e * 1)) (same_sign t ∙ v.0)
      ∙ round_same binary32 s (m * up e * (1 * 1024)) (down e * 1) n 1 (omega (arith, down_pos e)) (lit< tt)
      (omega (arith, v.1))

  module _ (small : n ≤ 2 ^ 24) where
    -- A 1024th of it is a value of the format: 2 to the power of 24 as that, below it by its 24 binary places.
    part : Dec (n < 2 ^ 24) → HasValue (round binary32 s n 1024) s n 1024
    part (yes l) =
        round_exact binary32 s n 1024 n 139 (lit< tt) l (lt_trans (shl_lt 24 139 l) (lit< tt))
        (sym (mul_assoc n (2 ^ 139) 1024))
    part (no l) =
        let e : 2 ^ 24 ≡ n = omega arith in
        subst (λ (k : ℕ). HasValue (round binary32 s k 1024) s k 1024) e
        (round_exact binary32 s (2 ^ 24) 1024 1 163 (lit< tt) (lit< tt) (lit< tt) refl)

    in_part : HasValue (div binary32 (round binary32 s n 1) scale) s n 1024
    in_part =
        subst (λ x. HasValue x s n 1024) (sym (divided (round binary32 s n 1) (round_whole binary32 s n small)))
        (part (dec_lt n (2 ^ 24)))

    back : mul binary32 (div binary32 (round binary32 s n 1) scale) scale ≡ round binary32 s n 1
    back = multiplied (div binary32 (round binary32 s n 1) scale) in_part

-- ---- coordinates in range

size : (z : ℤ) → InRange z → nat_abs z ≤ 2 ^ 24
size z R =
    near (its z) (omega (arith, at_most_gives (its z) (nat 16777216) R.high))
    (omega (arith, at_most_gives (neg (nat 16777216)) (its z) R.low))

pub castable : (z : ℤ) → InRange z → T (in_float binary32 z)
unfolding in_float
castable (pos n) R = le→leb n (2 ^ 24) (size (pos n) R)
castable (negsuc n) R = lt→ltb n (2 ^ 24) (size (negsuc n) R)

-- It is z / 1024.
exact : (z : ℤ) → InRange z → HasValue (millimetres z) (negative z) (nat_abs z) 1024
unfolding millimetres of_int
exact (pos n) R = in_part false n (size (pos n) R)
exact (negsuc n) R = in_part true (suc n) (size (negsuc n) R)

-- Times 1024 it is z as a number of the format, and from this the cast gives z back.
times_scale : (z : ℤ) → InRange z → mul binary32 (millimetres z) scale ≡ of_int binary32 z
unfolding millimetres of_int
times_scale (pos n) R = back false n (size (pos n) R)
times_scale (negsuc n) R = back true (suc n) (size (negsuc n) R)

whole : (z : ℤ) → InRange z → HasValue (of_int binary32 z) (negative z) (nat_abs z) 1
unfolding of_int
whole (pos n) R = round_whole binary32 false n (size (pos n) R)
whole (negsuc n) R = round_whole binary32 true (suc n) (size (negsuc n) R)

whole_again : (z : ℤ) → InRange z
    → T (in_signed binary32 31 (of_int binary32 z)) × (to_signed 31 (of_int binary32 z) ≡ z)
whole_again (pos n) R = positive_back binary32 31 n (castable (pos n) R) (omega (arith, size (pos n) R))
whole_again (negsuc n) R = negative_back binary32 31 n (castable (negsuc n) R) (omega (arith, size (negsuc n) R))

pub is_exact : (z : ℤ) → InRange z → IsExact z (millimetres z)
is_exact z R =
    let e = times_scale z R in
    record {
      value = exact z R;
      product = rw e (whole z R);
      castable = rw e (whole_again z R).0;
      back = rw e (whole_again z R).1;
    }
