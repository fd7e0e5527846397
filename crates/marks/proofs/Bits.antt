-- Bits of numbers: of a word with one bit put on or off, and the lowest that is set.
use mathlib.Core.Path.{◌≡◌, refl, sym, ap, ◌∙◌}
use mathlib.Core.Bool.{Bool, true, false}
use Prim.Native.Nat.{ℕ, zero, suc, ◌*◌, ◌/◌, ◌%◌, ◌^◌, ◌<◌}
use native.Mathlib.Nat.{pow-suc, div-one}
use native.Mathlib.Numerals.{one-add}
use native.Mathlib.Decide.{ℕ_discrete, dec_lt}
use native.Mathlib.Omega.{arith}
use borrow.Author.Tests.{eq-eqb, ne_eqb}
use lib.Bits.{bit_and, bit_or}
use lib.Count.{count_trailing_zeros, under}
use lib.Dec.{eqb}
use lib.Pow.{shr-shr}
use mir.Syntax.{w64}
use Rattle.std.proofs.lemmas.Nat.Bits.{bit_at-zero, bit_at_and, bit_at_above}
use Rattle.std.proofs.lemmas.Nat.Bits.{bit_at_set_same, bit_at_set_other, bit_at_clear_same, bit_at_clear_other}
use Rattle.std.specs.Int.{bit_not, bit_at as digit}
use Rattle.marks.specs.Marks.{bit_at}

pub bit_none : (j : ℕ) → bit_at 0 j ≡ false
unfolding bit_at
bit_none j = rw bit_at-zero refl

-- ---- a word with a bit on or off

module _ (x b j : ℕ) (on : Bool) (l : b < 64) where
  pub bit_on : on ≡ true → bit_at (bit_or x (1 * 2 ^ b % 2 ^ 64)) j ≡ elim (eqb j b) [ true ↦ on | false ↦ bit_at x j ]
  unfolding bit_at
  bit_on o = go (ℕ_discrete j b)
    where
      go : Dec (j ≡ b) → bit_at (bit_or x (1 * 2 ^ b % 2 ^ 64)) j ≡ elim (eqb j b) [ true ↦ on | false ↦ bit_at x j ]
      go (yes e) = rw (eq-eqb j b e, e, bit_at_set_same w64 x b l) (sym o)
      go (no n) = rw (ne_eqb j b n, bit_at_set_other w64 x b l j n) refl

  -- What lies above the word is off before and after.
  pub bit_off : x < 2 ^ 64 → on ≡ false
      → bit_at (bit_and x (bit_not w64 (1 * 2 ^ b % 2 ^ 64))) j ≡ elim (eqb j b) [ true ↦ on | false ↦ bit_at x j ]
  unfolding bit_at
  bit_off m o = go (ℕ_discrete j b) (dec_lt j 64)
    where
      go : Dec (j ≡ b) → Dec (j < 64)
          → bit_at (bit_and x (bit_not w64 (1 * 2 ^ b % 2 ^ 64))) j ≡ elim (eqb j b) [ true ↦ on | false ↦ bit_at x j ]
      go (yes e) h = rw (eq-eqb j b e, e, bit_at_clear_same w64 x b l) (sym o)
      go (no n) (yes h) = rw (ne_eqb j b n, bit_at_clear_other w64 x b l j h n) refl
      go (no n) (no h) =
          let off = bit_at_above x 64 j m (omega arith) in
          let e : digit (bit_and x (bit_not w64 (1 * 2 ^ b % 2 ^ 64))) j ≡ 0 = omega (arith, bit_at_and x (bit_not w64 (1 * 2 ^ b % 2 ^ 64)) j, off) in
          rw (ne_eqb j b n, e, off) refl

-- ---- the lowest bit that is set

pub record LowestBit (x t : ℕ) : Type 0 where
  pub set : bit_at x t ≡ true
  pub none : (j : ℕ) → j < t → bit_at x j ≡ false

bit_zero : (x : ℕ) → bit_at x 0 ≡ eqb (x % 2) 1
unfolding bit_at
bit_zero x = rw div-one

bit_suc : (x j : ℕ) → bit_at x (suc j) ≡ bit_at (x / 2) j
unfolding bit_at
bit_suc x j = ap (λ (y : ℕ). eqb (y % 2) 1) (ap (λ (k : ℕ). x / 2 ^ k) (sym (one-add j)) ∙ sym (shr-shr x 1 j))

lowest_odd : (x : ℕ) → x % 2 ≡ 1 → LowestBit x 0
lowest_odd x e = record { set = bit_zero x ∙ eq-eqb (x % 2) 1 e; none = λ j l. absurd (omega arith) }

lowest_even : (x t : ℕ) → x % 2 ≡ 0 → LowestBit (x / 2) t → LowestBit x (suc t)
lowest_even x t e L = record { set = bit_suc x t ∙ L.set; none = below }
  where
    below : (j : ℕ) → j < suc t → bit_at x j ≡ false
    below zero l = bit_zero x ∙ ne_eqb (x % 2) 1 (λ o. omega arith)
    below (suc j) l = bit_suc x j ∙ L.none j (omega arith)

-- The zeros at the low end of a number of k bits which is not 0 end at its lowest bit.
pub lowest_bit : (k x : ℕ) → x < 2 ^ k → ¬ (x ≡ 0) → LowestBit x (count_trailing_zeros k x) × (count_trailing_zeros k x < k)
unfolding count_trailing_zeros
lowest_bit zero x l n = absurd (omega arith)
lowest_bit (suc k) x l n = go (x % 2) refl (lowest_bit k (x / 2) (omega (arith, rw (pow-suc 2 k) at l)))
  where
    go : (d : ℕ) → x % 2 ≡ d
        → (¬ (x / 2 ≡ 0) → LowestBit (x / 2) (count_trailing_zeros k (x / 2)) × (count_trailing_zeros k (x / 2) < k))
        → LowestBit x (under d (count_trailing_zeros k (x / 2))) × (under d (count_trailing_zeros k (x / 2)) < suc k)
    go zero e f =
        let L = f (λ z. omega arith) in
        (lowest_even x (count_trailing_zeros k (x / 2)) e L.0, omega (arith, L.1))
    go (suc zero) e f = (lowest_odd x e, omega arith)
    go (suc (suc d)) e f = absurd (omega arith)
