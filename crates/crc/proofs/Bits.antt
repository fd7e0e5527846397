-- Laws of exclusive or.
use Prim.Native.Nat.{ℕ, ◌/◌, ◌%◌}
use native.Mathlib.Omega.{arith}
use mathlib.Core.Path.{◌≡◌, sym, ap, ◌∙◌}
use lib.Bits.{bit_xor, xor_self, xor_zero_r}
use Rattle.std.specs.Int.Bits.{xor_assoc}

pub whole_of : (a b : ℕ) → a / 2 ≡ b / 2 → a % 2 ≡ b % 2 → a ≡ b
whole_of a b h k = omega arith

-- Taken twice, a number is taken back.
xor_twice : (a p : ℕ) → bit_xor (bit_xor a p) p ≡ a
xor_twice a p = xor_assoc a p p ∙ ap (bit_xor a) (xor_self p) ∙ xor_zero_r a

pub xor_cancel : (a b p : ℕ) → bit_xor a p ≡ bit_xor b p → a ≡ b
xor_cancel a b p e = sym (xor_twice a p) ∙ ap (λ (x : ℕ). bit_xor x p) e ∙ xor_twice b p
