-- Whole numbers as differences of naturals: each law leaves a fact on naturals, which `omega` closes.
use Prim.Native.Nat.{ℕ, zero, suc, ◌+◌, ◌-◌, ◌*◌, ◌≤◌, ◌<◌}
use native.Mathlib.Omega.{arith}
use mathlib.Core.Path.{◌≡◌, refl, ap}
use mathlib.Core.Bool.{Bool, true, false, cond, not}
use borrow.Author.Tests.{ltb-true, ltb-false}
use lib.Dec.{T, ltb, leb→le, le→leb}
use lib.IntN.{ℤ, pos, negsuc, neg_ℤ, nat_abs, sub_ℕ, ◌+ℤ◌, ◌-ℤ◌, ◌*ℤ◌}
use lib.Signed.{◌≤ℤ◌, ◌<ℤ◌, le_z, lt_z, lt_z_yes, lt_z_no, clash_ℤ}
use mir.Facts.{not_T, T_not-not}

-- How far a number lies above zero, and how far below: it is their difference, and one of them is 0.
unfoldable pub above : ℤ → ℕ
above (pos n) = n
above (negsuc n) = 0

unfoldable pub below : ℤ → ℕ
below (pos n) = 0
below (negsuc n) = suc n

-- z is a - b.
pub record Is (z : ℤ) (a b : ℕ) : Type 0 where
  pub is : above z + b ≡ a + below z

pub its : (z : ℤ) → Is z (above z) (below z)
its z = record { is = refl }

pub nat : (n : ℕ) → Is (pos n) n 0
unfolding above below
nat n = record { is = refl }

difference_by : (a b : ℕ) (t : Bool) → ltb a b ≡ t → Is (cond t (negsuc (b - suc a)) (pos (a - b))) a b
unfolding above below
difference_by a b true e = omega (arith, ltb-true a b e)
difference_by a b false e = omega (arith, ltb-false a b e)

difference : (a b : ℕ) → Is (sub_ℕ a b) a b
difference a b = difference_by a b (ltb a b) refl

sum : (x y : ℤ) → Is (x +ℤ y) (above x + above y) (below x + below y)
unfolding above below
sum (pos a) (pos b) = omega arith
sum (pos a) (negsuc b) = omega (arith, difference a (suc b))
sum (negsuc a) (pos b) = omega (arith, difference b (suc a))
sum (negsuc a) (negsuc b) = omega arith

pub add : {x y : ℤ} {a b c d : ℕ} → Is x a b → Is y c d → Is (x +ℤ y) (a + c) (b + d)
add {x} {y} p q = omega (arith, sum x y)

pub neg : {x : ℤ} {a b : ℕ} → Is x a b → Is (neg_ℤ x) b a
unfolding above below
neg {x = pos zero} p = omega arith
neg {x = pos (suc n)} p = omega arith
neg {x = negsuc n} p = omega arith

pub sub : {x y : ℤ} {a b c d : ℕ} → Is x a b → Is y c d → Is (x -ℤ y) (a + d) (b + c)
sub p q = add p (neg q)

pub scale : (k : ℕ) {x : ℤ} {a b : ℕ} → Is x a b → Is (pos k *ℤ x) (k * a) (k * b)
unfolding above below
scale k {x = pos n} p = omega (arith, ap (λ t. k * t) p.is)
scale k {x = negsuc n} p = omega (arith, ap (λ t. k * t) p.is, neg (nat (k * suc n)))

product : (x y : ℤ)
    → Is (x *ℤ y) (above x * above y + below x * below y) (above x * below y + below x * above y)
unfolding above below
product (pos a) (pos b) = omega arith
product (pos a) (negsuc b) = omega (arith, neg (nat (a * suc b)))
product (negsuc a) (pos b) = omega (arith, neg (nat (suc a * b)))
product (negsuc a) (negsuc b) = omega arith

pub times : {x y : ℤ} {a b c d : ℕ} → Is x a b → Is y c d → Is (x *ℤ y) (a * c + b * d) (a * d + b * c)
times {x} {y} {a} {b} p q =
    let at_y = ap (λ t. t * above y) p.is in
    let under-y = ap (λ t. t * below y) p.is in
    omega (arith, product x y, at_y, under-y, ap (λ t. a * t) q.is, ap (λ t. b * t) q.is)

same : (x y : ℤ) → above x + below y ≡ above y + below x → x ≡ y
unfolding above below
same (pos a) (pos b) e = ap pos (omega arith)
same (pos a) (negsuc b) e = absurd (omega arith)
same (negsuc a) (pos b) e = absurd (omega arith)
same (negsuc a) (negsuc b) e = ap negsuc (omega arith)

pub equal : {x y : ℤ} {a b c d : ℕ} → Is x a b → Is y c d → a + d ≡ c + b → x ≡ y
equal {x} {y} p q e = same x y (omega arith)

-- The order, from the naturals and to them.
at_most_by : (x y : ℤ) → above x + below y ≤ above y + below x → T (le_z x y)
unfolding above below
at_most_by (pos a) (pos b) h = le→leb a b (omega arith)
at_most_by (pos a) (negsuc b) h = absurd (omega arith)
at_most_by (negsuc a) (pos b) h = tt
at_most_by (negsuc a) (negsuc b) h = le→leb b a (omega arith)

pub at_most : {x y : ℤ} {a b c d : ℕ} → Is x a b → Is y c d → a + d ≤ c + b → x ≤ℤ y
at_most {x} {y} p q h = record { le = at_most_by x y (omega arith) }

pub ordered : {x y : ℤ} → x ≤ℤ y → above x + below y ≤ above y + below x
unfolding above below
ordered {x = pos a} {y = pos b} h = omega (arith, leb→le a b h.le)
ordered {x = pos a} {y = negsuc b} h = absurd h.le
ordered {x = negsuc a} {y = pos b} h = omega arith
ordered {x = negsuc a} {y = negsuc b} h = omega (arith, leb→le b a h.le)

pub at_most_gives : {x y : ℤ} {a b c d : ℕ} → Is x a b → Is y c d → x ≤ℤ y → a + d ≤ c + b
at_most_gives p q h = omega (arith, ordered h)

pub less : {x y : ℤ} {a b c d : ℕ} → Is x a b → Is y c d → a + d < c + b → x <ℤ y
less {x} {y} p q h =
    let contrary : T (not (lt_z x y)) → ⊥ = λ t. omega (arith, at_most_gives q p (lt_z_no t)) in
    lt_z_yes (T_not-not (lt_z x y) (not_T (not (lt_z x y)) contrary))

pub less_gives : {x y : ℤ} {a b c d : ℕ} → Is x a b → Is y c d → x <ℤ y → a + d < c + b
less_gives {a = a} {b = b} {c = c} {d = d} p q h =
    let not_more : ¬ (c + b ≤ a + d) = λ l. clash_ℤ h (at_most q p l) in
    omega arith

-- The distance from zero.
pub near : {z : ℤ} {a b k : ℕ} → Is z a b → a ≤ b + k → b ≤ a + k → nat_abs z ≤ k
unfolding above below
near {z = pos n} p h l = omega arith
near {z = negsuc n} p h l = omega arith

pub near_gives : {z : ℤ} {a b k : ℕ} → Is z a b → nat_abs z ≤ k → (a ≤ b + k) × (b ≤ a + k)
unfolding above below
near_gives {z = pos n} p h = omega arith
near_gives {z = negsuc n} p h = omega arith
