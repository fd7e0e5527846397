-- `points::rounded` meets its contract: the quotient stands or goes up by where the remainder lies beside half of d.
use Prim.Native.Nat.{ℕ, ◌+◌, ◌*◌, ◌/◌, ◌%◌, ◌≤◌, ◌<◌}
use native.Mathlib.Omega.{arith}
use native.Mathlib.Decide.{ℕ_discrete}
use native.Mathlib.Nat.{div-add-mod, mod-lt, mul-le-mul_left}
use mathlib.Core.Bool.{◌&&◌, ◌||◌}
use mathlib.Core.Logic.{◌⊎◌, inl, inr}
use mathlib.Core.Path.{◌≡◌, sym, ◌∙◌}
use lib.Dec.{eqb, ltb}
use lib.IntN.{ℤ, pos, ◌-ℤ◌}
use Rattle.rules.specs.Numbers.{rounded}
use Rattle.theory.proofs.Numbers.Decide.{Decides, is_eq, is_lt, is_le, is_and, is_or, when_true, when_false, stable}
use Rattle.theory.proofs.Numbers.Differences.{nat, sub, add, scale, at_most, less}
use Rattle.theory.proofs.Numbers.Rounding.{shy, shy_most, shy_none, shy_one, rounded_only}
use Rattle.points.proofs.rounded.Goals as goal

-- The fraction m / d - c goes to q - c, which lies as near as `shy` asks.
module _ (rule m d c : ℕ) (some : 0 < d) where
  abbrev n : ℤ
  n = pos m -ℤ pos (c * d)

  counted : (q : ℕ) → 2 * d * q + shy rule n ≤ 2 * m + d → 2 * m + d < 2 * d * q + 2 * d + shy rule n
      → pos q -ℤ pos c ≡ rounded rule n d
  counted q l h =
      let at = sub (nat q) (nat c) in
      let by = sub (add (scale 2 (sub (nat m) (nat (c * d)))) (nat d)) (nat (shy rule n)) in
      rounded_only rule n (pos q -ℤ pos c) d some (record {
        low = at_most (scale (2 * d) at) by (omega arith);
        high = less by (add (scale (2 * d) at) (nat (2 * d))) (omega arith);
      })

  abbrev down : ℕ
  down = m / d

  abbrev rest : ℕ
  rest = 2 * (m % d)

  goes : Decides (ltb rest d || (eqb rest d && (eqb rule 2 && ltb down c)))
      ((rest < d) ⊎ ((rest ≡ d) × ((rule ≡ 2) × (down < c))))
  goes = is_or (is_lt rest d) (is_and (is_eq rest d) (is_and (is_eq rule 2) (is_lt down c)))

  goes_down : (rest < d) ⊎ ((rest ≡ d) × ((rule ≡ 2) × (down < c))) → pos down -ℤ pos c ≡ rounded rule n d
  goes_down (inl h) =
      let e = div-add-mod m d in
      let s = shy_most rule n in
      counted (m / d) (omega arith) (omega arith)
  goes_down (inr (tie, (two, below))) =
      let e = div-add-mod m d in
      let k : d * (m / d + 1) ≤ d * c = mul-le-mul_left d (omega arith) in
      let r = mod-lt m {m = d} some in
      let s = shy_one rule n two (less (sub (nat m) (nat (c * d))) (nat 0) (omega arith)) in
      counted (m / d) (omega arith) (omega arith)

  goes_up : ¬ ((rest < d) ⊎ ((rest ≡ d) × ((rule ≡ 2) × (down < c)))) → pos (down + 1) -ℤ pos c ≡ rounded rule n d
  goes_up h =
      let e = div-add-mod m d in
      let r = mod-lt m {m = d} some in
      let s = shy_most rule n in
      let half : d ≤ 2 * (m % d) = stable (is_le d (2 * (m % d))) (λ x. h (inl (omega arith))) in
      let shyly : d + shy rule n ≤ 2 * (m % d) = go (ℕ_discrete (2 * (m % d)) d) (ℕ_discrete rule 2) in
      counted (m / d + 1) (omega arith) (omega arith)
    where
      go : Dec (2 * (m % d) ≡ d) → Dec (rule ≡ 2) → d + shy rule n ≤ 2 * (m % d)
      go (no x) y =
          let s = shy_most rule n in
          let half : d ≤ 2 * (m % d) = stable (is_le d (2 * (m % d))) (λ z. h (inl (omega arith))) in
          omega arith
      go (yes x) (no y) = let s = shy_none rule n (inl y) in omega arith
      go (yes x) (yes y) =
          let above : c ≤ m / d = stable (is_le c (m / d)) (λ z. h (inr (x, (y, omega arith)))) in
          let k : d * c ≤ d * (m / d) = mul-le-mul_left d above in
          let e = div-add-mod m d in
          let s = shy_none rule n (inr (at_most (nat 0) (sub (nat m) (nat (c * d))) (omega arith))) in
          omega arith

pub returns-then-goes_down : goal.returns-then-goes_down
returns-then-goes_down c =
    let test = goes c.args.rule c.args.m c.args.d 2147483648 c.requires.0 in
    goes_down c.args.rule c.args.m c.args.d 2147483648 c.requires.0
    (when_true test (sym c.goes_down.ensures ∙ c.if-goes_down.true))

pub returns-else-goes_down : goal.returns-else-goes_down
returns-else-goes_down c =
    let test = goes c.args.rule c.args.m c.args.d 2147483648 c.requires.0 in
    goes_up c.args.rule c.args.m c.args.d 2147483648 c.requires.0
    (when_false test (sym c.goes_down.ensures ∙ c.if-goes_down.false))
