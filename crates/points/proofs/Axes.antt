-- Facts on each axis of a point.
use borrow.Author.Rules.{sfits_of}
use Prim.Native.Nat.{ℕ, zero, suc, ◌^◌, ◌<◌}
use native.Mathlib.Omega.{arith}
use lib.IntN.{ℤ}
use lib.Signed.{mag}
use mir.Syntax.{Width}
use mir.Val.{SFits, hbits}
use Rattle.points.specs.Axes.{on_axis, each_axis, SumOf, Fits}

each : (P : ℤ → Type 0) {x y z : ℤ} → P x → P y → P z → (k : ℕ) → P (on_axis k x y z)
each P p q r zero = p
each P p q r (suc zero) = q
each P p q r (suc (suc k)) = r

-- What a struct of three signed fields tells: something of each one's bits, and that it fits.
abbrev Told : Width → Type 0 → ℤ → Type 0
Told w A z = A × (mag z < 2 ^ hbits w)

pub fields_fit : (w : Width) (x y z : ℤ) {A B C : Type 0}
    → Told w A x × (Told w B y × (Told w C z × Unit {0})) → (k : ℕ) → SFits w (on_axis k x y z)
fields_fit w x y z h = each (SFits w) (sfits_of h.0.1) (sfits_of h.1.0.1) (sfits_of h.1.1.0.1)

pub each_fits : (f : ℕ → ℤ) → ((k : ℕ) → k < 3 → SumOf 1 (f k)) → Fits (each_axis f)
each_fits f h = record {
  axis = each (SumOf 1) (h 0 (omega arith)) (h 1 (omega arith)) (h 2 (omega arith));
}
