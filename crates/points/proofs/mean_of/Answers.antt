-- `points::mean_of` meets its contract: counted from the least number, the mean is one of naturals.
use Prim.Native.Nat.{ℕ, ◌+◌, ◌*◌}
use native.Mathlib.Omega.{arith}
use mathlib.Core.Path.{◌≡◌, ap, ◌∙◌}
use lib.IntN.{ℤ, pos, ◌+ℤ◌, ◌-ℤ◌, ◌*ℤ◌}
use mir.Syntax.{w32}
use mir.Facts.{to_z-of_z}
use Rattle.rules.specs.Numbers.{rounded}
use Rattle.theory.proofs.Numbers.Differences.{Is, nat, add, sub, scale, equal, at_most_gives}
use Rattle.theory.proofs.Numbers.Rounding.{mean, mean_at_most}
use Rattle.points.proofs.Signed.{returned, counted, sum_of_one, sum_of_some, widened}
use Rattle.points.proofs.mean_of.Goals as goal

-- With every place counted from c below zero, so is the mean.
mean_is : (rule a b n c k x t : ℕ) {p s : ℤ} → Is p x c → Is s t (n * c)
    → pos k -ℤ pos c ≡ rounded rule (pos (a * x + b * t) -ℤ pos (c * (a + b * n))) (a + b * n)
    → pos k -ℤ pos c ≡ mean rule a b n p s
unfolding mean
mean_is rule a b n c k x t {p} {s} at_p at-s e =
    let z : pos (a * x + b * t) -ℤ pos (c * (a + b * n)) ≡ pos a *ℤ p +ℤ pos b *ℤ s =
    equal (sub (nat (a * x + b * t)) (nat (c * (a + b * n)))) (add (scale a at_p) (scale b at-s)) (omega arith) in
    e ∙ ap (λ n'. rounded rule n' (a + b * n)) z

pub lowered-requires : goal.lowered-requires
lowered-requires c =
    let mean_found : pos c.rounded.result -ℤ pos 2147483648 ≡ mean c.args.rule c.args.a c.args.b c.args.n c.args.p c.args.s = mean_is c.args.rule c.args.a c.args.b c.args.n 2147483648 c.rounded.result
    c.raised.result c.raised_sum.result
    (counted c.raised.result 2147483648 c.ranges.p c.raised.ensures.0)
    (counted c.raised_sum.result (c.args.n * 2147483648) c.ranges.s
    (to_z-of_z c.ranges.s ∙ (rw (widened c.ranges.s) at c.raised_sum.ensures.0)))
    c.rounded.ensures in
    let p = (sum_of_one c.ranges.p).high in
    let s = (sum_of_some c.requires.some c.ranges.s).high in
    let top = mean_at_most c.args.rule c.args.a c.args.b c.args.n
    (omega (arith, c.requires.own))
    {hi = pos 2147483647} p s in
    let k = sub (nat c.rounded.result) (nat 2147483648) in
    omega (arith, at_most_gives k (nat 2147483647) (rw mean_found top))

pub returns : goal.returns
returns c =
    let mean_found : pos c.rounded.result -ℤ pos 2147483648 ≡ mean c.args.rule c.args.a c.args.b c.args.n c.args.p c.args.s = mean_is c.args.rule c.args.a c.args.b c.args.n 2147483648 c.rounded.result
    c.raised.result c.raised_sum.result
    (counted c.raised.result 2147483648 c.ranges.p c.raised.ensures.0)
    (counted c.raised_sum.result (c.args.n * 2147483648) c.ranges.s
    (to_z-of_z c.ranges.s ∙ (rw (widened c.ranges.s) at c.raised_sum.ensures.0)))
    c.rounded.ensures in
    returned w32 c.lowered.type_inv (c.lowered.ensures ∙ mean_found)
