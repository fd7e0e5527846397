-- `points::signed_at` meets its contract.
use native.Mathlib.Decide.{dec_lt}
use native.Mathlib.Omega.{arith}
use borrow.Author.Tests.{lt-ltb, le-ltb}
use Prim.Native.Nat.{ℕ, suc, ◌-◌, ◌^◌, ◌<◌, ◌≤◌}
use mathlib.Core.Path.{◌≡◌, refl, ap, ◌∙◌}
use mir.Syntax.{w32}
use mir.Val.{to_z}
use Rattle.rules.specs.Numbers.{signed}
use Rattle.theory.proofs.Numbers.Differences.{nat, neg, sub, equal}
use Rattle.points.proofs.Signed.{returned}
use Rattle.points.proofs.signed_at.Goals as goal

cast : (n : ℕ) → n < 2 ^ 32 → to_z w32 n ≡ signed n
unfolding signed
cast n l = go (dec_lt n 2147483648)
  where
    go : Dec (n < 2147483648) → to_z w32 n ≡ signed n
    go (yes h) = rw (lt-ltb n 2147483648 h, signed) refl
    go (no h) =
        let most : 2147483648 ≤ n = omega arith in
        rw (le-ltb n 2147483648 most, signed)
        (equal (neg (nat (suc (2 ^ 32 - suc n)))) (sub (nat n) (nat 4294967296)) (omega arith))

pub returns : goal.returns
returns c =
    returned w32 c.cast_signed.type_inv
    (c.cast_signed.ensures ∙ cast _ c.number_at.type_inv ∙ ap signed c.number_at.ensures)
