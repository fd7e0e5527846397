-- The points of a curve in one coordinate: nearest to a fraction that is never a half, and between their sources.
use Prim.Native.Nat.{ℕ, zero, suc, ◌+◌, ◌*◌, ◌<◌}
use native.Mathlib.Nat.{mul-le-mul_left}
use native.Mathlib.Omega.{arith}
use mathlib.Core.Path.{◌≡◌, refl, sym, ap}
use lib.Dec.{lit<}
use lib.IntN.{ℤ, pos, neg_ℤ, ◌+ℤ◌, ◌*ℤ◌}
use lib.Signed.{◌≤ℤ◌, ◌<ℤ◌}
use Rattle.theory.proofs.Numbers.Differences.{above, below, Is, its, nat, add, neg, scale, equal, at_most}
use Rattle.theory.proofs.Numbers.Differences.{ordered, at_most_gives, less, less_gives}
use Rattle.theory.proofs.Numbers.Rounding.{floor_only, half_up_lem}
use Rattle.rules.specs.Numbers.{half_up}
use Rattle.rules.specs.Promises.{IsSmoothed}
use Rattle.rules.specs.Rim.{mask, smoothed_numerator, smoothed}

-- ---- 27ths

-- q is less than a half from n / 27, all times 54.
record Near (n q : ℤ) : Type 0 where
  low : (pos 54 *ℤ q) <ℤ (pos 2 *ℤ n +ℤ pos 27)
  high : (pos 2 *ℤ n) <ℤ (pos 54 *ℤ q +ℤ pos 27)

module _ {n q : ℤ} {a b c d : ℕ} (N : Is n a b) (Q : Is q c d) where
  near_by : 54 * c + 2 * b < 2 * a + 27 + 54 * d → 2 * a + 54 * d < 54 * c + 27 + 2 * b → Near n q
  near_by l h = record {
    low = less (scale 54 Q) (add (scale 2 N) (nat 27)) (omega arith);
    high = less (scale 2 N) (add (scale 54 Q) (nat 27)) (omega arith);
  }

  near_tells : Near n q → (54 * c + 2 * b < 2 * a + 27 + 54 * d) × (2 * a + 54 * d < 54 * c + 27 + 2 * b)
  near_tells x =
      let l = less_gives (scale 54 Q) (add (scale 2 N) (nat 27)) x.low in
      let h = less_gives (scale 2 N) (add (scale 54 Q) (nat 27)) x.high in
      (omega arith, omega arith)

-- half_up n 27 is so near, as 27 is odd, and nothing else is.
near_27 : (n : ℤ) → Near n (half_up n 27)
near_27 n =
    let f = half_up_lem n {d = 27} (lit< tt) in
    let q = its (half_up n 27) in
    let s = add (scale 2 (its n)) (nat 27) in
    let l = at_most_gives (scale 54 q) s f.low in
    let h = less_gives s (add (scale 54 q) (nat 54)) f.high in
    near_by (its n) q (omega arith) (omega arith)

near_only : {n q : ℤ} → Near n q → q ≡ half_up n 27
unfolding half_up
near_only {n} {q} x =
    let (l, h) = near_tells (its n) (its q) x in
    let s = add (scale 2 (its n)) (nat 27) in
    floor_only (record {
      low = at_most (scale 54 (its q)) s (omega arith);
      high = less s (add (scale 54 (its q)) (nat 54)) (omega arith);
    })

near_opposite : {n q : ℤ} → Near n q → Near (neg_ℤ n) (neg_ℤ q)
near_opposite {n} {q} x =
    let (l, h) = near_tells (its n) (its q) x in
    near_by (neg (its n)) (neg (its q)) (omega arith) (omega arith)

near_at_least : {n q x : ℤ} → Near n q → (pos 27 *ℤ x) ≤ℤ n → x ≤ℤ q
near_at_least {n} {q} {x} N k =
    let (l, h) = near_tells (its n) (its q) N in
    at_most (its x) (its q) (omega (arith, at_most_gives (scale 27 (its x)) (its n) k))

near_at_most : {n q x : ℤ} → Near n q → n ≤ℤ (pos 27 *ℤ x) → q ≤ℤ x
near_at_most {n} {q} {x} N k =
    let (l, h) = near_tells (its n) (its q) N in
    at_most (its q) (its x) (omega (arith, at_most_gives (its n) (scale 27 (its x)) k))

-- ---- masks

-- The three weights of a point are the whole.
mask_whole : (p : ℕ) → (mask p).0 + (mask p).1 + (mask p).2 ≡ 27
mask_whole zero = refl
mask_whole (suc zero) = refl
mask_whole (suc (suc p)) = refl

module _ (p : ℕ) where
  numerator_is : {a b c : ℤ} {x x' y y' z z' : ℕ} → Is a x x' → Is b y y' → Is c z z'
      → Is (smoothed_numerator p a b c)
      ((mask p).0 * x + (mask p).1 * y + (mask p).2 * z) ((mask p).0 * x' + (mask p).1 * y' + (mask p).2 * z')
  numerator_is a b c = add (add (scale (mask p).0 a) (scale (mask p).1 b)) (scale (mask p).2 c)

  -- It grows with the sources, and is 27 times theirs where they are one.
  numerator_mono : {a b c x y z : ℤ} → a ≤ℤ x → b ≤ℤ y → c ≤ℤ z
      → smoothed_numerator p a b c ≤ℤ smoothed_numerator p x y z
  numerator_mono {a} {b} {c} {x} {y} {z} h k l =
      let u = mul-le-mul_left (mask p).0 (ordered h) in
      let v = mul-le-mul_left (mask p).1 (ordered k) in
      let w = mul-le-mul_left (mask p).2 (ordered l) in
      at_most (numerator_is (its a) (its b) (its c)) (numerator_is (its x) (its y) (its z)) (omega arith)

  numerator_same : (x : ℤ) → smoothed_numerator p x x x ≡ pos 27 *ℤ x
  numerator_same x =
      let u = ap (λ t. t * above x) (mask_whole p) in
      let v = ap (λ t. t * below x) (mask_whole p) in
      equal (numerator_is (its x) (its x) (its x)) (scale 27 (its x)) (omega arith)

  pub smoothed_is : (a b c : ℤ) → IsSmoothed p a b c (smoothed p a b c)
  unfolding smoothed
  smoothed_is a b c =
      let N = near_27 (smoothed_numerator p a b c) in
      record {
        low = N.low;
        high = N.high;
        within = λ x y h k l. (
          near_at_least N (rw (numerator_same x) at (numerator_mono h.0 k.0 l.0)),
          near_at_most N (rw (numerator_same y) at (numerator_mono h.1 k.1 l.1)),
        );
      }

  -- Opposite sources have the opposite point.
  pub smoothed_opposite : (a b c : ℤ) → smoothed p (neg_ℤ a) (neg_ℤ b) (neg_ℤ c) ≡ neg_ℤ (smoothed p a b c)
  unfolding smoothed
  smoothed_opposite a b c =
      let n = smoothed_numerator p a b c in
      let e : smoothed_numerator p (neg_ℤ a) (neg_ℤ b) (neg_ℤ c) ≡ neg_ℤ n =
      equal (numerator_is (neg (its a)) (neg (its b)) (neg (its c))) (neg (numerator_is (its a) (its b) (its c)))
      (omega arith) in
      rw e (sym (near_only (near_opposite (near_27 n))))
