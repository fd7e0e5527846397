-- `points::third` meets its contract: counted from the least number, all is natural.
use Prim.Native.Nat.{ℕ, ◌+◌, ◌/◌}
use native.Mathlib.Omega.{arith}
use mathlib.Core.Path.{◌≡◌, ◌∙◌}
use lib.IntN.{ℤ, pos, ◌+ℤ◌, ◌-ℤ◌}
use mir.Syntax.{w32}
use Rattle.rules.specs.Numbers.{nearest_third}
use Rattle.theory.proofs.Numbers.Differences.{Is, nat, add, sub, scale, near}
use Rattle.theory.proofs.Numbers.Rounding.{nearest_third_only}
use Rattle.points.proofs.Signed.{returned, counted}
use Rattle.points.proofs.third.Goals as goal

third_is : {x y z d : ℕ} {a b c : ℤ} → Is a x d → Is b y d → Is c z d
    → pos ((x + y + z + 1) / 3) -ℤ pos d ≡ nearest_third (a +ℤ b +ℤ c)
third_is {x} {y} {z} {d} p q r =
    let k = sub (nat ((x + y + z + 1) / 3)) (nat d) in
    nearest_third_only _ _ (near (sub (scale 3 k) (add (add p q) r)) (omega arith) (omega arith))

pub returns : goal.returns
returns c =
    let a = counted c.raised.result 2147483648 c.ranges.a c.raised.ensures.0 in
    let b = counted c.raised-2.result 2147483648 c.ranges.b c.raised-2.ensures.0 in
    let d = counted c.raised-3.result 2147483648 c.ranges.c c.raised-3.ensures.0 in
    returned w32 c.lowered.type_inv (c.lowered.ensures ∙ third_is a b d)
