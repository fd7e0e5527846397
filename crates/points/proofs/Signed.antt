-- Signed machine numbers as whole numbers: which fit, and where their sums lie.
use borrow.Author.Rules.{sfits_of}
use Prim.Native.Nat.{ℕ, suc, ◌+◌, ◌*◌, ◌^◌, ◌≤◌, ◌<◌}
use native.Mathlib.Omega.{arith}
use mathlib.Core.Path.{◌≡◌, ◌∙◌, sym}
use lib.IntN.{ℤ, pos, negsuc, ◌-ℤ◌}
use lib.Signed.{mag}
use mir.Syntax.{Width, w32, w64}
use mir.Val.{SFits, hbits, to_z, of_z}
use mir.Facts.{to_z-of_z, sfits_widen}
use Rattle.theory.proofs.Numbers.Differences.{above, below, Is, its, nat, neg, sub, at_most, at_most_gives}
use Rattle.points.specs.Axes.{SumOf}

pub fit : (w : Width) {z : ℤ} {a b : ℕ} → Is z a b → a < b + 2 ^ hbits w → b ≤ a + 2 ^ hbits w → SFits w z
unfolding above below
fit w {z = pos n} p h l = record { sfits = omega arith }
fit w {z = negsuc n} p h l = record { sfits = omega arith }

-- What a call returns, read back from its bits.
pub returned : (w : Width) {r z : ℤ} → mag r < 2 ^ hbits w → r ≡ z → to_z w (of_z w r) ≡ z
returned w {r} h e = to_z-of_z {w = w} {z = r} (sfits_of h) ∙ e

-- A number of 32 bits that is cast to 64.
pub widens : {z : ℤ} → SFits w32 z → SFits w64 (to_z w32 (of_z w32 z))
widens f = rw (to_z-of_z f) (sfits_widen tt f)

pub widened : {z : ℤ} → SFits w32 z → to_z w64 (of_z w64 (to_z w32 (of_z w32 z))) ≡ z
widened f = rw (to_z-of_z f) (to_z-of_z {w = w64} (sfits_widen tt f))

-- A number that a contract gives as a difference of naturals.
pub counted : (a b : ℕ) {w : Width} {z : ℤ} → SFits w z → to_z w (of_z w z) ≡ pos a -ℤ pos b → Is z a b
counted a b f e = rw (sym (to_z-of_z f) ∙ e) (omega (arith, sub (nat a) (nat b)))

-- Where sums lie, from the naturals and to them; a number lies where it can be the sum of one, and of more.
from_bounds : {n : ℕ} {s : ℤ} {a b : ℕ} → Is s a b → b ≤ a + n * 2147483648 → a ≤ n * 2147483647 + b → SumOf n s
from_bounds {n} p l h = record {
  low = at_most (neg (nat (n * 2147483648))) p (omega arith);
  high = at_most p (nat (n * 2147483647)) (omega arith);
}

pub sum_bounds : {n : ℕ} {s : ℤ}
    → SumOf n s → (below s ≤ above s + n * 2147483648) × (above s ≤ n * 2147483647 + below s)
sum_bounds {n} {s} h =
    let l = at_most_gives (neg (nat (n * 2147483648))) (its s) h.low in
    omega (arith, at_most_gives (its s) (nat (n * 2147483647)) h.high)

pub sum_of_one : {z : ℤ} → SFits w32 z → SumOf 1 z
sum_of_one {z = pos n} f = from_bounds (nat n) (omega arith) (omega arith)
sum_of_one {z = negsuc n} f = from_bounds (neg (nat (suc n))) (omega arith) (omega arith)

pub sum_of_some : {n : ℕ} {z : ℤ} → 1 ≤ n → SFits w32 z → SumOf n z
sum_of_some {z = z} h f = let b = sum_bounds (sum_of_one f) in from_bounds (its z) (omega arith) (omega arith)
