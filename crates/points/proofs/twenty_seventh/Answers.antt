-- `points::twenty_seventh` meets its contract: counted from the least number, all is natural.
use Prim.Native.Nat.{ℕ, ◌+◌, ◌*◌, ◌/◌, ◌≤◌}
use native.Mathlib.Omega.{arith}
use native.Mathlib.Nat.{mul-le-mul_left}
use mathlib.Core.Path.{◌≡◌, ap, ◌∙◌}
use lib.IntN.{ℤ, pos, ◌+ℤ◌, ◌-ℤ◌, ◌*ℤ◌}
use mir.Syntax.{w32}
use Rattle.rules.specs.Numbers.{half_up}
use Rattle.theory.proofs.Numbers.Differences.{Is, nat, add, sub, scale, at_most, less}
use Rattle.theory.proofs.Numbers.Rounding.{floor_only}
use Rattle.points.proofs.Signed.{returned, counted}
use Rattle.points.proofs.twenty_seventh.Goals as goal

mean_is : (x y z : ℕ) {p q r d : ℕ} {a b c : ℤ} → x + y + z ≡ 27 → Is a p d → Is b q d → Is c r d
    → pos ((x * p + y * q + z * r + 13) / 27) -ℤ pos d ≡ half_up (pos x *ℤ a +ℤ pos y *ℤ b +ℤ pos z *ℤ c) 27
unfolding half_up
mean_is x y z {p} {q} {r} {d} e at_a at_b at_c =
    let k = scale 54 (sub (nat ((x * p + y * q + z * r + 13) / 27)) (nat d)) in
    let n = add (scale 2 (add (add (scale x at_a) (scale y at_b)) (scale z at_c))) (nat 27) in
    let f : (x + y + z) * d ≡ 27 * d = ap (λ (n : ℕ). n * d) e in
    floor_only (record { low = at_most k n (omega arith); high = less n (add k (nat 54)) (omega arith) })

pub lowered-requires : goal.lowered-requires
lowered-requires c =
    let one : c.args.x * c.raised.result ≤ c.args.x * 4294967295 = mul-le-mul_left c.args.x c.raised.ensures.1 in
    let two : c.args.y * c.raised-2.result ≤ c.args.y * 4294967295 = mul-le-mul_left c.args.y c.raised-2.ensures.1 in
    let three : c.args.z * c.raised-3.result ≤ c.args.z * 4294967295 = mul-le-mul_left c.args.z c.raised-3.ensures.1 in
    omega (arith, one, two, three, c.requires)

pub returns : goal.returns
returns c =
    let a = counted c.raised.result 2147483648 c.ranges.a c.raised.ensures.0 in
    let b = counted c.raised-2.result 2147483648 c.ranges.b c.raised-2.ensures.0 in
    let d = counted c.raised-3.result 2147483648 c.ranges.c c.raised-3.ensures.0 in
    returned w32 c.lowered.type_inv
    (c.lowered.ensures ∙ mean_is c.args.x c.args.y c.args.z c.requires a b d)
